-- One request, and what it comes to.
use Rattle.std.proofs.Common.{◌≡◌, ◌⊎◌, ◌≤◌, ℕ, Bool, true, false, List, length, ◌++◌, Result, Ok, Err, inl, inr, refl, sym, ◌∙◌, ap, subst}
use Rattle.std.specs.Prelude.{IfOk}
use Rattle.pgw_backend.specs.declared.client_error.PgWireClientError.{PgWireClientError as ClientError}
use Rattle.pgw_backend.specs.declared.client_error.PgWireClientError.TheVariants as client
use Rattle.pgw_query.specs.declared.data.DataRow.{DataRow}
use Rattle.pgw_query.specs.Rows.{ErrorResponse}
use Rattle.pgw_config.specs.declared.config.Config.{Config}
use Rattle.pgw_session.specs.declared.types.Request.{Request}
use Rattle.pgw_session.specs.declared.types.Request.TheVariants as request
use Rattle.pgw_session.specs.declared.types.Response.{Response}
use Rattle.pgw_session.specs.declared.types.Answer.{Answer}
use Rattle.pgw_session.specs.declared.types.Answer.TheVariants as answer
use Rattle.pgw_handlers.specs.Client.{Client}
use Rattle.pgw_handlers.specs.Handling.{HasCause, IsCaused}
use Rattle.pgw_handlers.specs.Simple.{HeardInQuery, simple_query}
use Rattle.pgw_handlers_default.specs.declared.simple.DefaultSimpleQueryHandler.{DefaultSimpleQueryHandler as SimpleHandler}
use Rattle.pgw_handlers_default.specs.declared.extended.DefaultExtendedQueryHandler.{DefaultExtendedQueryHandler as ExtendedHandler}
use Rattle.pgw_handlers_default.specs.Simple.{QueryMeans}
use Rattle.pgw_handlers_default.specs.Extended.{ExtendedMeans}
use Rattle.pgw_client_calls.specs.declared.gathered.Gathered.{Gathered}
use Rattle.pgw_client_calls.specs.Line.{Line, MovesLine, IsFlushed, Pause, Reasons, EndedWell, Halts, AtEnd}
use Rattle.pgw_client_calls.specs.Talk.{CallEnd, OpensTalk as TalkAsked, passes, is_remote}
use Rattle.pgw_client_calls.specs.Calls.{LineCall, IsHalted}
use Rattle.pgw_client_calls.specs.Extended.{Finish, finish, Requested, in_lists}
use Rattle.pgw_client_calls.specs.ExtendedSteps.{MakesCall, AnswersGathered, gathered_as as given_by}
use Rattle.pgw_client_calls.specs.Lent.{lent_pair}
use Rattle.pgw_client_laws.specs.Calls.{Comes, SimpleCallEnds}
use Rattle.pgw_client_laws.specs.Extended.{IsExtended, EndsExtendedCall, call_answer}
use Rattle.pgw_client_laws.specs.Stands.{Made, StandsForCalls, StandsBehind}
use Rattle.pgw_client_ask.specs.Asking.{error_as_answer, same, AnswerCame, AddsAskedRequest, FailsToAsk, Asks, failed, passes_for, EndsRequest}

-- ---- what is said of an error, whatever the call gives

stands_error : {A : Type 0} (give : A → Answer) (config : Config) (nonce : List ℕ) (ts : List Made) (q : Request)
    (read wrote : List ℕ) (c : Client) (buffer : List ℕ) (e : ClientError) (broken : Bool)
    → StandsBehind give config nonce ts q read wrote c buffer (Err e) broken
    → StandsBehind same config nonce ts q read wrote c buffer (Err e) broken
stands_error give config nonce ts q read wrote c buffer e true stands = stands
stands_error give config nonce ts q read wrote c buffer (client.RemoteError e) false stands = stands
stands_error give config nonce ts q read wrote c buffer (client.UnexpectedMessage m) false stands = stands
stands_error give config nonce ts q read wrote c buffer (client.PgWireError why) false stands = stands
stands_error give config nonce ts q read wrote c buffer e false stands = absurd stands

comes_error : {A : Type 0} (give : A → Answer) (P : Reasons) (q : Request) (c : Client) (bytes sent : List ℕ)
    (info : Client) (rest : List ℕ) (e : ClientError) (broken : Bool)
    → Comes give P q c bytes sent info rest (Err e) broken → Comes same P q c bytes sent info rest (Err e) broken
comes_error give P q c bytes sent info rest client.OutOfMemory true h = h
comes_error give P q c bytes sent info rest (client.PgWireError why) true h = h
comes_error give P q c bytes sent info rest client.ReadLimit true h = h
comes_error give P q c bytes sent info rest client.IoError true h = h
comes_error give P q c bytes sent info rest client.UnexpectedEOF true h = h
comes_error give P q c bytes sent info rest (client.RemoteError x) true h = h
comes_error give P q c bytes sent info rest (client.UnexpectedMessage m) true h = h
comes_error give P q c bytes sent info rest e true h = absurd h
comes_error give P q c bytes sent info rest (client.RemoteError x) false h = h
comes_error give P q c bytes sent info rest (client.UnexpectedMessage m) false h = h
comes_error give P q c bytes sent info rest (client.PgWireError why) false h = h
comes_error give P q c bytes sent info rest e false h = absurd h

-- ---- one request

-- what a call is to the client's history, and what it came to
abbrev pub Behind : {A : Type 0} → (A → Answer) → Request → Client → Line → Client → Line → Result A ClientError
    → Bool → Type 0
Behind give q before old after now r broken =
    (config : Config) (nonce : List ℕ) (ts : List Made) (read wrote : List ℕ)
    → StandsForCalls config nonce ts read wrote before old.buffer →
    (more sent : List ℕ) × MovesLine old now more sent × (broken ≡ false → IsFlushed now)
    × StandsBehind give config nonce ts q (read ++ more) (wrote ++ sent) after now.buffer r broken

abbrev pub CameTo : {A : Type 0} → (A → Answer) → Request → Client → Line → Client → Line → Result A ClientError
    → Bool → Type 0
CameTo give q before old after now r broken =
    (taken sent : List ℕ) × MovesLine old now taken sent
    × Comes give (Pause old now) q before (old.buffer ++ taken) sent after now.buffer r broken

module _ {A : Type 0} (give : A → Answer) (q : Request) (before : Client) (old : Line) (after : Client)
    (now : Line) where
  -- an answer
  pub adds : (x : A) (broken : Bool) → broken ≡ false → Behind give q before old after now (Ok x) broken
      → AddsAskedRequest q (give x) before old after now
  adds x true usable b = absurd (let no : true ≡ false = usable in cc)
  adds x false usable b = λ config nonce ts read wrote stands.
      let f = b config nonce ts read wrote stands in
      record { taken = f.0; sent = f.1; moved = f.2; flushed = f.3 refl; stands = f.4 }

  -- the same of any client
  pub came : (x : A) (broken : Bool) → broken ≡ false → CameTo give q before old after now (Ok x) broken
      → AnswerCame q (give x) before old after now
  came x true usable c = absurd (let no : true ≡ false = usable in cc)
  came x false usable c = record { taken = c.0; sent = c.1; moved = c.2; segment = c.3 }

  came_error : (e : ClientError) (broken : Bool) → CameTo give q before old after now (Err e) broken
      → IfOk (error_as_answer e broken) (λ a. AnswerCame q a before old after now)
  came_error (client.RemoteError e) false c = record { taken = c.0; sent = c.1; moved = c.2; segment = c.3 }
  came_error (client.RemoteError e) true c = tt
  came_error e broken c = tt

  pub came_as : (e : ClientError) (broken shown : Bool) (result : Result Answer ClientError) → shown ≡ broken
      → result ≡ error_as_answer e shown → CameTo give q before old after now (Err e) broken
      → IfOk result (λ a. AnswerCame q a before old after now)
  came_as e broken shown result same_flag is c =
      subst (λ (r : Result Answer ClientError). IfOk r (λ a. AnswerCame q a before old after now)) (sym (is
      ∙ ap (error_as_answer e) same_flag)) (came_error e broken c)

  adds_remote : (e : ErrorResponse) → Behind give q before old after now (Err (client.RemoteError e)) false
      → AddsAskedRequest q (answer.Remote e) before old after now
  adds_remote e b = λ config nonce ts read wrote stands.
      let f = b config nonce ts read wrote stands in
      record { taken = f.0; sent = f.1; moved = f.2; flushed = f.3 refl; stands = f.4 }

  fails : (e : ClientError) (broken : Bool) → error_as_answer e broken ≡ Err e
      → Behind give q before old after now (Err e) broken → CameTo give q before old after now (Err e) broken
      → FailsToAsk q before old after now broken e
  fails e broken none b c = failed e (record {
    reason = record {
      no_answer = none;
      taken = c.0;
      sent = c.1;
      moved = c.2;
      comes = comes_error give (Pause old now) q before (old.buffer ++ c.0) c.1 after now.buffer e broken c.3;
    };
    stands = λ config nonce ts read wrote stands.
        let f = b config nonce ts read wrote stands in (
          f.0,
          f.1,
          f.2,
          f.3,
          stands_error give config nonce ts q (read ++ f.0) (wrote ++ f.1) after now.buffer e
              broken f.4,
        );
  })

  -- an error
  pub ends : (e : ClientError) (broken : Bool) → Behind give q before old after now (Err e) broken
      → CameTo give q before old after now (Err e) broken
      → Asks q before old after now broken (error_as_answer e broken)
  ends (client.RemoteError e) false b c = (adds_remote e b, refl)
  ends (client.RemoteError e) true b c = fails (client.RemoteError e) true refl b c
  ends e broken b c = fails e broken refl b c

  pub ends_as : (e : ClientError) (broken shown : Bool) (result : Result Answer ClientError) → shown ≡ broken
      → result ≡ error_as_answer e shown → Behind give q before old after now (Err e) broken
      → CameTo give q before old after now (Err e) broken
      → Asks q before old after now broken result
  ends_as e broken shown result same_flag is b c =
      subst (Asks q before old after now broken) (sym (is ∙ ap (error_as_answer e) same_flag)) (ends e broken b c)

-- ---- what the calls come to

pub simple_came : ((q : List ℕ) (before now : Line) (h : SimpleHandler) (c : Client) (bytes sent : List ℕ)
    (end : CallEnd (List Response))
    → TalkAsked (λ old new answer. QueryMeans old (simple_query q) new answer) (HeardInQuery QueryMeans)
    (Pause before now) passes h c bytes sent end
    → SimpleCallEnds q c bytes sent (Pause before now) end)
    → (sql : List ℕ) {h : SimpleHandler} {c : Client} {old now : Line} {last : CallEnd (List Response)}
    → LineCall (λ before after answer. QueryMeans before (simple_query sql) after answer)
    (HeardInQuery QueryMeans) passes h c old now last
    → last.rest ≡ now.buffer
    → CameTo answer.Responses (request.Simple sql) c old last.info now last.answer last.broken
simple_came law sql {h} {c} {old} {now} {last} call rest =
    let comes = law sql old now h c (old.buffer ++ call.taken) call.sent last call.asked in (
      call.taken,
      call.sent,
      call.moved,
      subst (λ (l : List ℕ). Comes answer.Responses (Pause old now) (request.Simple sql) c
          (old.buffer ++ call.taken) call.sent last.info l last.answer last.broken) rest comes,
    )

pub extended_came : ((q : Request) (before now : Line) (h : ExtendedHandler) (c : Client) (bytes sent : List ℕ)
    (end : Finish ExtendedHandler DataRow)
    → IsExtended q → Requested ExtendedMeans (Pause before now) q h c bytes sent end
    → EndsExtendedCall q c bytes sent (Pause before now) end)
    → (q : Request) {h : ExtendedHandler} {c : Client} {old now : Line} {last : Finish ExtendedHandler DataRow}
    → IsExtended q
    → MakesCall ExtendedMeans q h c old now last → last.rest ≡ now.buffer
    → CameTo (call_answer q) q c old last.info now last.answer last.broken
extended_came law q {h} {c} {old} {now} {last} extended call rest =
    let comes = law q old now h c (old.buffer ++ call.taken) call.sent last extended call.requested in (
      call.taken,
      call.sent,
      call.moved,
      subst (λ (l : List ℕ). Comes (call_answer q) (Pause old now) q c (old.buffer ++ call.taken) call.sent
          last.info l last.answer last.broken) rest comes,
    )

pub extended : (q : Request) → ((sql : List ℕ) → q ≡ request.Simple sql → ⊥) → IsExtended q
extended (request.Simple sql) never = never sql refl
extended (request.Prepare name query types) never = tt
extended (request.Bind portal statement parameters formats) never = tt
extended (request.Execute portal max_rows) never = tt
extended (request.Describe target) never = tt
extended (request.Close target) never = tt
extended (request.Query query types parameters) never = tt

-- the default handler's list of rows is the list
abbrev listed : Result (Gathered (List DataRow) × Bool) ClientError
    → Result (Gathered (List DataRow) × Bool) ClientError
listed a = in_lists (λ (rows : List DataRow). rows) a

-- what was gathered is what the call gives
given_both : (r a : Result (Gathered (List DataRow) × Bool) ClientError) → r ≡ given_by lent_pair a → listed a ≡ r
given_both r (Ok x) is = sym is
given_both r (Err e) is = sym is

pub called_both : (q : Request) {h handler : ExtendedHandler} {c info : Client} {old now : Line} {broken : Bool}
    (r : Result (Gathered (List DataRow) × Bool) ClientError)
    → AnswersGathered ExtendedMeans (λ (rows : List DataRow). rows) q lent_pair h c old now handler info broken r
    → MakesCall ExtendedMeans q h c old now (finish r handler info broken now.buffer)
called_both q {h} {handler} {c} {info} {old} {now} {broken} r a =
    subst (λ (x : Result (Gathered (List DataRow) × Bool) ClientError). MakesCall ExtendedMeans q h c old now
    (finish x handler info broken now.buffer)) (given_both r a.answer a.gives) a.called

-- ---- causes

pub answered_caused : {A B : Type 0} (before now : ℕ) (was : Bool) (x : A) (y : B)
    → HasCause {T = A} before now was (Ok x) → HasCause {T = B} before now false (Ok y)
answered_caused before now was x y h = record { later = h.later; failed = tt }

error_caused : (e : ClientError) (shown : Bool) (before now : ℕ) → IsCaused e before now false → before ≤ now
    → HasCause before now false (error_as_answer e shown)
error_caused (client.RemoteError e) false before now h later = record { later = later; failed = tt }
error_caused (client.RemoteError e) true before now h later = record { later = later; failed = h }
error_caused e shown before now h later = record { later = later; failed = h }

pub ended_caused : {A : Type 0} (before now : ℕ) (was shown : Bool) (e : ClientError)
    (result : Result Answer ClientError)
    → was ≡ false → result ≡ error_as_answer e shown → HasCause {T = A} before now was (Err e)
    → HasCause before now false result
ended_caused before now was shown e result usable is h =
    subst (λ (r : Result Answer ClientError). HasCause before now false r) (sym is)
    (error_caused e shown before now (subst (λ (b : Bool). IsCaused e before now b) usable h.failed) h.later)

-- ---- how the calls end

-- what a call tells of its end
abbrev pub EndedBy : {A : Type 0} → Request → Line → Client → Line → Bool → Result A ClientError → Type 0
EndedBy q old after now broken r =
    (EndedWell old now ⊎ (r ≡ Err client.IoError)) × Halts after (length now.tape.wrote) old now
    × AtEnd old now (IsHalted (passes_for q) r broken)

at_end_so : (F G : Type 0) (old now : Line) → (F → G) → AtEnd old now F → AtEnd old now G
at_end_so F G old now so (inl still) = inl still
at_end_so F G old now so (inr fact) = inr (so fact)

module _ (q : Request) (old : Line) (after : Client) (now : Line) (broken : Bool) where
  ended_as : {A : Type 0} (r : Result A ClientError) (result : Result Answer ClientError)
      → (r ≡ Err client.IoError → result ≡ Err client.IoError)
      → (IsHalted (passes_for q) r broken → IsHalted (passes_for q) result broken)
      → EndedBy q old after now broken r → EndsRequest q old after now broken result
  ended_as r result faulted halted (inl w, halts, at_end) =
      record { well = inl w; halts = halts; at_end = at_end_so _ _ old now halted at_end }
  ended_as r result faulted halted (inr is, halts, at_end) =
      record { well = inr (inl (faulted is)); halts = halts; at_end = at_end_so _ _ old now halted at_end }

  -- an answer
  pub ended_ok : {A : Type 0} (x : A) (a : Answer) → EndedBy q old after now broken (Ok x)
      → EndsRequest q old after now broken (Ok a)
  ended_ok x a by = ended_as (Ok x) (Ok a) (λ is. absurd (cc)) (λ never. never) by

  failed_answered : {A : Type 0} (e : ClientError) (r : Result A ClientError) → r ≡ Err e → r ≡ Err client.IoError
      → error_as_answer e broken ≡ Err client.IoError
  failed_answered client.IoError r this is = refl
  failed_answered e r this is = absurd (cc)

-- an error
halted_answered : (A : Type 0) (goes_on : ClientError → Bool) (e : ClientError) (broken : Bool)
    → IsHalted {A = A} goes_on (Err e) broken → IsHalted goes_on (error_as_answer e broken) broken
halted_answered A goes_on (client.RemoteError e) false h = absurd (let no = h.1 in cc)
halted_answered A goes_on (client.RemoteError e) true h = h
halted_answered A goes_on e broken h = h

pub ended_error : {A : Type 0} (q : Request) (old : Line) (after : Client) (now : Line) (e : ClientError)
    (broken shown : Bool) (result : Result Answer ClientError)
    → shown ≡ broken → result ≡ error_as_answer e shown
    → EndedBy {A = A} q old after now broken (Err e) → EndsRequest q old after now broken result
ended_error {A} q old after now e broken shown result same_flag is by =
    subst (EndsRequest q old after now broken) (sym (is ∙ ap (error_as_answer e) same_flag))
    (ended_as q old after now broken {A = A} (Err e) (error_as_answer e broken)
    (failed_answered q old after now broken {A = A} e (Err e) refl)
    (halted_answered A (passes_for q) e broken) by)

-- nothing was done
pub ended_still : (q : Request) (old : Line) (c : Client) (broken : Bool)
    → EndsRequest q old c old broken (Err client.OutOfMemory)
ended_still q old c broken = record { well = inr (inr (refl, refl)); halts = inl refl; at_end = inl refl }

halted_for : {A : Type 0} (q : Request) (r : Result A ClientError) (broken : Bool) → IsExtended q
    → IsHalted is_remote r broken → IsHalted (passes_for q) r broken
halted_for (request.Simple sql) r broken is h = absurd is
halted_for q r broken is h = h

pub extended_ended : (q : Request) {h : ExtendedHandler} {c : Client} {old now : Line}
    {last : Finish ExtendedHandler DataRow}
    → IsExtended q
    → MakesCall ExtendedMeans q h c old now last → EndedBy q old last.info now last.broken last.answer
extended_ended q {h} {c} {old} {now} {last} is call =
    (call.well, call.halts, at_end_so _ _ old now (halted_for q last.answer last.broken is) call.at_end)
