-- Questions, one after the other.
use Rattle.std.specs.Result.{IfErr, IfOk}
use Rattle.std.proofs.Common.{◌≡◌, ◌<◌, ◌≤◌, ◌+◌, ℕ, Bool, true, false, List, [], ◌∷◌, ◌++◌, length, take, drop, get_or, Result, Ok, Err, arith, inl, inr, refl, sym, ◌∙◌, ap, subst, append_assoc}
use Rattle.std.proofs.lemmas.List.{append-nil, take_more, take_all, take-append-drop}
use Rattle.pgw_backend.specs.declared.client_error.PgWireClientError.{PgWireClientError as ClientError}
use Rattle.pgw_backend.specs.declared.client_error.PgWireClientError.TheVariants as client
use Rattle.pgw_query.specs.declared.data.DataRow.{DataRow}
use Rattle.pgw_query.specs.Rows.{ErrorResponse}
use Rattle.pgw_config.specs.declared.config.Config.{Config}
use Rattle.pgw_session.specs.declared.types.Request.{Request}
use Rattle.pgw_session.specs.declared.types.Request.TheVariants as request
use Rattle.pgw_session.specs.declared.types.Response.{Response}
use Rattle.pgw_session.specs.declared.types.Answer.{Answer}
use Rattle.pgw_session.specs.declared.types.Answer.TheVariants as answer
use Rattle.pgw_handlers.specs.Client.{Client}
use Rattle.pgw_handlers.specs.Handling.{HasCause, IsCaused}
use Rattle.pgw_client_calls.specs.declared.gathered.Gathered.{Gathered}
use Rattle.pgw_client_calls.specs.Line.{Line, MovesLine, IsFlushed, Pause, Reasons}
use Rattle.pgw_client_laws.specs.Calls.{Comes}
use Rattle.pgw_client_calls.specs.ExtendedSteps.{gathered_as}
use Rattle.pgw_client_calls.specs.Lent.{all_responses}
use Rattle.pgw_client_calls.proofs.CallLaws.{moved_on}
use Rattle.pgw_client_laws.specs.Extended.{call_answer as given_by}
use Rattle.pgw_handlers.specs.Simple.{HeardInQuery, simple_query}
use Rattle.pgw_handlers_default.specs.declared.simple.DefaultSimpleQueryHandler.{DefaultSimpleQueryHandler as SimpleHandler}
use Rattle.pgw_handlers_default.specs.declared.extended.DefaultExtendedQueryHandler.{DefaultExtendedQueryHandler as ExtendedHandler}
use Rattle.pgw_handlers_default.specs.Simple.{QueryMeans}
use Rattle.pgw_handlers_default.specs.Extended.{ExtendedMeans}
use Rattle.pgw_client_calls.specs.Talk.{CallEnd, OpensTalk as TalkAsked, passes}
use Rattle.pgw_client_calls.specs.Calls.{LineCall}
use Rattle.pgw_client_calls.specs.Extended.{Finish, Requested, in_lists}
use Rattle.pgw_client_calls.specs.ExtendedSteps.{MakesCall}
use Rattle.pgw_client_laws.specs.Calls.{SimpleCallEnds}
use Rattle.pgw_client_laws.specs.Extended.{EndsExtendedCall, IsExtended}
use Rattle.pgw_client_laws.specs.Turns.{IsAnswered}
use Rattle.pgw_client_laws.specs.Stands.{Made, made_call, StandsForCalls, OneMore, StandsBehind}
use Rattle.example_requests.specs.declared.asking.Question.{Question}
use Rattle.example_requests.specs.declared.asking.Question.TheVariants as question
use Rattle.example_requests.specs.declared.asking.Reply.{Reply}
use Rattle.example_requests.specs.declared.asking.Reply.TheVariants as reply
use Rattle.example_requests.specs.Asking.{request_of, reply_answer, error_reply, AreReplies, AsksQuestions, AddsQuestions, FailsQuestion, StopsQuestions}

-- ---- one question

-- a call that took the client to one request more
abbrev pub Follows : (Config → List ℕ → List Made → List ℕ → List ℕ → Type 0) → Client → Line → Line → Bool
    → Type 0
Follows behind before old now broken =
    (config : Config) (nonce : List ℕ) (ts : List Made) (read wrote : List ℕ)
    → StandsForCalls config nonce ts read wrote before old.buffer →
    (more sent : List ℕ) × MovesLine old now more sent × (broken ≡ false → IsFlushed now)
    × behind config nonce ts (read ++ more) (wrote ++ sent)

one_asked : (config : Config) (nonce : List ℕ) (ts : List Made) (read wrote more sent : List ℕ) (q : Question)
    (r : Reply) (old now : Line) (after : Client)
    → MovesLine old now more sent →
    OneMore config nonce ts (request_of q) (IsAnswered (request_of q) (reply_answer r)) (read ++ more)
    (wrote ++ sent) after now.buffer
    → AsksQuestions config nonce ts read wrote (q ∷ []) (r ∷ []) old now after
one_asked config nonce ts read wrote more sent q r old now after moved m = record {
  made = made_call (request_of q) m.0 ∷ [];
  are = (refl, m.1, tt);
  taken = more;
  sent = sent;
  moved = moved;
  stands = m.2;
}

pub adds_one : (q : Question) (r : Reply) (before after : Client) (old now : Line) (broken : Bool)
    → Follows (λ config nonce ts read wrote. OneMore config nonce ts (request_of q)
    (IsAnswered (request_of q) (reply_answer r)) read wrote after now.buffer) before old now broken
    → AddsQuestions (q ∷ []) (r ∷ []) before old after now
adds_one q r before after old now broken follows = λ config nonce ts read wrote stands.
    let f = follows config nonce ts read wrote stands in
    one_asked config nonce ts read wrote f.0 f.1 q r old now after f.2 f.4

module _ {A : Type 0} (give : A → Answer) (q : Question) (before after : Client) (old now : Line) (broken : Bool)
    (usable : broken ≡ false) where
  abbrev Behind : Result A ClientError → Type 0
  Behind result =
      Follows (λ config nonce ts read wrote. StandsBehind give config nonce ts (request_of q) read wrote after
      now.buffer result broken) before old now broken

  -- an answer
  adds_answer : (x : A) (r : Reply) → give x ≡ reply_answer r → Behind (Ok x)
      → AddsQuestions (q ∷ []) (r ∷ []) before old after now
  adds_answer x r is follows = adds_one q r before after old now broken (λ config nonce ts read wrote stands.
      let f = follows config nonce ts read wrote stands in
      let m =
      subst (λ (b : Bool). StandsBehind give config nonce ts (request_of q) (read ++ f.0) (wrote ++ f.1) after
      now.buffer (Ok x) b) usable f.4 in (
        f.0,
        f.1,
        f.2,
        f.3,
        subst
            (λ (a : Answer). OneMore config nonce ts (request_of q) (IsAnswered (request_of q) a) (read ++ f.0)
            (wrote ++ f.1) after now.buffer) is m,
      ))

  -- the server's error
  adds_remote : (e : ErrorResponse) → Behind (Err (client.RemoteError e))
      → AddsQuestions (q ∷ []) (reply.Remote e ∷ []) before old after now
  adds_remote e follows =
      adds_one q (reply.Remote e) before after old now broken (λ config nonce ts read wrote stands.
      let f = follows config nonce ts read wrote stands in (
        f.0,
        f.1,
        f.2,
        f.3,
        subst
            (λ (b : Bool). StandsBehind give config nonce ts (request_of q) (read ++ f.0) (wrote ++ f.1) after
            now.buffer (Err (client.RemoteError e)) b) usable f.4,
      ))

-- an error that is a reply is the server's
replied_remote : (e : ClientError) (r : Reply) (broken : Bool) → error_reply e broken ≡ Ok r
    → (x : ErrorResponse) × (e ≡ client.RemoteError x) × (r ≡ reply.Remote x) × (broken ≡ false)
replied_remote (client.RemoteError x) r false is = (x, refl, cc, refl)
replied_remote e r broken is = absurd cc

pub simple_answered : (sql : List ℕ) (responses : List Response) (before after : Client) (old now : Line)
    (broken : Bool)
    → broken ≡ false
    → Follows (λ config nonce ts read wrote. StandsBehind answer.Responses config nonce ts (request.Simple sql)
    read wrote after now.buffer (Ok responses) broken) before old now broken
    → AddsQuestions (question.Simple sql ∷ []) (reply.Responses responses ∷ []) before old after now
simple_answered sql responses before after old now broken usable follows =
    adds_answer answer.Responses (question.Simple sql) before after old now broken usable responses
    (reply.Responses responses) refl follows

pub remote_adds : {A : Type 0} (give : A → Answer) (q : Question) (before after : Client) (old now : Line)
    (broken shown : Bool) (e : ClientError) (result : Result Reply ClientError)
    → shown ≡ broken → result ≡ error_reply e shown
    → Follows (λ config nonce ts read wrote. StandsBehind give config nonce ts (request_of q) read wrote after
    now.buffer (Err e) broken) before old now broken
    → IfOk result (λ r. AddsQuestions (q ∷ []) (r ∷ []) before old after now)
remote_adds give q before after old now broken shown e (Err x) same is follows = tt
remote_adds give q before after old now broken shown e (Ok r) same is follows =
    let x = replied_remote e r broken (ap (error_reply e) (sym same) ∙ sym is) in
    let f =
    subst (λ (y : ClientError). Follows
    (λ config nonce ts read wrote. StandsBehind give config nonce ts (request_of q) read wrote after
    now.buffer (Err y) broken) before old now broken) x.1 follows in
    subst (λ (y : Reply). AddsQuestions (q ∷ []) (y ∷ []) before old after now) (sym x.2)
    (adds_remote give q before after old now broken x.3 x.0 f)

abbrev pub rows_of : List ℕ → Gathered (List DataRow) × Bool → Answer
rows_of sql = given_by (request.Query sql [] [])

abbrev pub RowsFollow : List ℕ → Client → Client → Line → Line → Bool
    → Result (Gathered (List DataRow) × Bool) ClientError → Type 0
RowsFollow sql before after old now broken result =
    Follows (λ config nonce ts read wrote. StandsBehind (rows_of sql) config nonce ts (request.Query sql [] [])
    read wrote after now.buffer result broken) before old now broken

-- the default handler's list of rows is the list
abbrev pub rows_listed : Result (Gathered (List DataRow) × Bool) ClientError
    → Result (Gathered (List DataRow) × Bool) ClientError
rows_listed a = in_lists (λ (rows : List DataRow). rows) a

pub given_listed : (r : Result (List DataRow) ClientError)
    (a : Result (Gathered (List DataRow) × Bool) ClientError)
    → r ≡ gathered_as all_responses a → r ≡ gathered_as all_responses (rows_listed a)
given_listed r (Ok x) is = is
given_listed r (Err e) is = is

pub rows_answered : (sql : List ℕ) (rows : List DataRow) (before after : Client) (old now : Line) (broken : Bool)
    (a : Result (Gathered (List DataRow) × Bool) ClientError)
    → broken ≡ false → Ok rows ≡ gathered_as all_responses a
    → RowsFollow sql before after old now broken a
    → AddsQuestions (question.Rows sql ∷ []) (reply.Rows rows ∷ []) before old after now
rows_answered sql rows before after old now broken (Ok x) usable is follows =
    let same : (x.0).responses ≡ rows = cc in
    adds_answer (rows_of sql) (question.Rows sql) before after old now broken usable x (reply.Rows rows)
    (ap answer.Rows same) follows
rows_answered sql rows before after old now broken (Err e) usable is follows = absurd cc

pub rows_failed : (sql : List ℕ) (before after : Client) (old now : Line) (broken : Bool) (e : ClientError)
    (a : Result (Gathered (List DataRow) × Bool) ClientError)
    → Err e ≡ gathered_as all_responses a
    → RowsFollow sql before after old now broken a → RowsFollow sql before after old now broken (Err e)
rows_failed sql before after old now broken e (Ok x) is follows = absurd cc
rows_failed sql before after old now broken e (Err y) is follows =
    let same : y ≡ e = cc in
    subst (λ (z : ClientError). RowsFollow sql before after old now broken (Err z)) same follows

-- ---- one question behind others

replies_append : (qs more : List Question) (rs also : List Reply) (ts behind : List Made) → AreReplies qs rs ts
    → AreReplies more also behind → AreReplies (qs ++ more) (rs ++ also) (ts ++ behind)
replies_append [] more [] also [] behind a b = b
replies_append (q ∷ qs) more (r ∷ rs) also (t ∷ ts) behind a b =
    (a.0, a.1, replies_append qs more rs also ts behind a.2 b)
replies_append qs more rs also ts behind a b = absurd a

asked_on : (config : Config) (nonce : List ℕ) (ts : List Made) (read wrote : List ℕ) (qs more : List Question)
    (rs also : List Reply) (old mid now : Line) (between after : Client)
    → AsksQuestions config nonce ts read wrote qs rs old mid between →
    AddsQuestions more also between mid after now
    → AsksQuestions config nonce ts read wrote (qs ++ more) (rs ++ also) old now after
asked_on config nonce ts read wrote qs more rs also old mid now between after a adds =
    let b = adds config nonce (ts ++ a.made) (read ++ a.taken) (wrote ++ a.sent) a.stands in
    record {
      made = a.made ++ b.made;
      are = replies_append qs more rs also a.made b.made a.are b.are;
      taken = a.taken ++ b.taken;
      sent = a.sent ++ b.sent;
      moved = moved_on old mid now a.taken b.taken a.sent b.sent a.moved b.moved;
      stands =
          subst (λ (l : List Made). StandsForCalls config nonce l (read ++ (a.taken ++ b.taken))
          (wrote ++ (a.sent ++ b.sent)) after now.buffer) (append_assoc ts a.made b.made)
          (subst (λ (l : List ℕ). StandsForCalls config nonce ((ts ++ a.made) ++ b.made) l
          (wrote ++ (a.sent ++ b.sent)) after now.buffer) (append_assoc read a.taken b.taken)
          (subst (λ (l : List ℕ). StandsForCalls config nonce ((ts ++ a.made) ++ b.made)
          ((read ++ a.taken) ++ b.taken) l after now.buffer) (append_assoc wrote a.sent b.sent) b.stands));
    }

adds_none : (c : Client) (line : Line) → AddsQuestions [] [] c line c line
adds_none c line = λ config nonce ts read wrote stands. record {
  made = [];
  are = tt;
  taken = [];
  sent = [];
  moved =
      record {
        took = sym (append-nil line.tape.took);
        wrote = sym (append-nil line.tape.wrote);
        read = omega
            arith;
        limit = refl;
      };
  stands = rw (append-nil ts, append-nil read, append-nil wrote) stands;
}

-- before the first
pub adds_first : (qs : List Question) (i : ℕ) (rs : List Reply) (c : Client) (line : Line) → i ≡ 0 → rs ≡ []
    → AddsQuestions (take i qs) rs c line c line
adds_first qs i rs c line start none =
    subst (λ (l : List Reply). AddsQuestions (take i qs) l c line c line) (sym none)
    (subst (λ (n : ℕ). AddsQuestions (take n qs) [] c line c line) (sym start) (adds_none c line))

pub adds_next : (qs : List Question) (i : ℕ) (q : Question) (rs : List Reply) (r : Reply)
    (before between after : Client) (old mid now : Line)
    → i < length qs → q ≡ get_or qs i q → AddsQuestions (take i qs) rs before old between mid
    → AddsQuestions (q ∷ []) (r ∷ []) between mid after now →
    AddsQuestions (take (i + 1) qs) (rs ++ r ∷ []) before old after now
adds_next qs i q rs r before between after old mid now there is a b = λ config nonce ts read wrote stands.
    let more : take (i + 1) qs ≡ take i qs ++ q ∷ [] =
    take_more qs i q there ∙ ap (λ (x : Question). take i qs ++ x ∷ []) (sym is) in
    subst (λ (l : List Question). AsksQuestions config nonce ts read wrote l (rs ++ r ∷ []) old now after)
    (sym more)
    (asked_on config nonce ts read wrote (take i qs) (q ∷ []) rs (r ∷ []) old mid now between after
    (a config nonce ts read wrote stands) b)

pub adds_all : (qs : List Question) (i : ℕ) (rs : List Reply) (before after : Client) (old now : Line)
    → length qs ≤ i → AddsQuestions (take i qs) rs before old after now → AddsQuestions qs rs before old after now
adds_all qs i rs before after old now past a =
    subst (λ (l : List Question). AddsQuestions l rs before old after now) (take_all i qs past) a

-- ---- where an error ends it

-- an error says the same of a client, whatever the call gives
stands_error : {A : Type 0} (give : A → Answer) (config : Config) (nonce : List ℕ) (ts : List Made) (q : Request)
    (read wrote : List ℕ) (c : Client) (buffer : List ℕ) (e : ClientError) (broken : Bool)
    → StandsBehind give config nonce ts q read wrote c buffer (Err e) broken
    → StandsBehind reply_answer config nonce ts q read wrote c buffer (Err e) broken
stands_error give config nonce ts q read wrote c buffer e true stands = stands
stands_error give config nonce ts q read wrote c buffer (client.RemoteError e) false stands = stands
stands_error give config nonce ts q read wrote c buffer (client.UnexpectedMessage m) false stands = stands
stands_error give config nonce ts q read wrote c buffer (client.PgWireError why) false stands = stands
stands_error give config nonce ts q read wrote c buffer e false stands = absurd stands

-- so does its reason
comes_error : {A : Type 0} (give : A → Answer) (P : Reasons) (q : Request) (c : Client) (bytes sent : List ℕ)
    (info : Client) (rest : List ℕ) (e : ClientError) (broken : Bool)
    → Comes give P q c bytes sent info rest (Err e) broken
    → Comes reply_answer P q c bytes sent info rest (Err e) broken
comes_error give P q c bytes sent info rest client.OutOfMemory true h = h
comes_error give P q c bytes sent info rest (client.PgWireError why) true h = h
comes_error give P q c bytes sent info rest client.ReadLimit true h = h
comes_error give P q c bytes sent info rest client.IoError true h = h
comes_error give P q c bytes sent info rest client.UnexpectedEOF true h = h
comes_error give P q c bytes sent info rest (client.RemoteError x) true h = h
comes_error give P q c bytes sent info rest (client.UnexpectedMessage m) true h = h
comes_error give P q c bytes sent info rest e true h = absurd h
comes_error give P q c bytes sent info rest (client.RemoteError x) false h = h
comes_error give P q c bytes sent info rest (client.UnexpectedMessage m) false h = h
comes_error give P q c bytes sent info rest (client.PgWireError why) false h = h
comes_error give P q c bytes sent info rest e false h = absurd h

-- the error of a call of extended queries is that of its answer
error_came : (sql : List ℕ) (P : Reasons) (c : Client) (bytes sent : List ℕ) (info : Client) (rest : List ℕ)
    (broken : Bool) (e : ClientError) (a : Result (Gathered (List DataRow) × Bool) ClientError)
    → Err e ≡ gathered_as all_responses a
    → Comes (rows_of sql) P (request.Query sql [] []) c bytes sent info rest a broken
    → Comes (rows_of sql) P (request.Query sql [] []) c bytes sent info rest (Err e) broken
error_came sql P c bytes sent info rest broken e (Ok x) is h = absurd cc
error_came sql P c bytes sent info rest broken e (Err y) is h =
    let same : y ≡ e = cc in
    subst (λ (z : ClientError). Comes (rows_of sql) P (request.Query sql [] []) c bytes sent info rest (Err z)
    broken) same h

-- an error that is no reply is the call's
replied_error : (e x : ClientError) (broken : Bool) → error_reply e broken ≡ Err x → x ≡ e
replied_error (client.RemoteError y) x false is = absurd cc
replied_error e x broken is = cc

-- what a call that ended in an error read and sent, and why it did
abbrev pub Came : {A : Type 0} → (A → Answer) → Question → Client → Client → Line → Line → Bool → ClientError
    → Type 0
Came give q before after old now broken e =
    (taken sent : List ℕ) × MovesLine old now taken sent
    × Comes give (Pause old now) (request_of q) before (old.buffer ++ taken) sent after now.buffer (Err e)
    broken

-- a simple query that ended so
pub simple_came : ((q : List ℕ) (before now : Line) (h : SimpleHandler) (c : Client) (bytes sent : List ℕ)
    (end : CallEnd (List Response))
    → TalkAsked (λ old new answer. QueryMeans old (simple_query q) new answer) (HeardInQuery QueryMeans)
    (Pause before now) passes h c bytes sent end
    → SimpleCallEnds q c bytes sent (Pause before now) end)
    → (sql : List ℕ) {h : SimpleHandler} {c : Client} {old now : Line} {last : CallEnd (List Response)}
    (e : ClientError)
    → LineCall (λ before after answer. QueryMeans before (simple_query sql) after answer)
    (HeardInQuery QueryMeans) passes h c old now last
    → last.answer ≡ Err e → last.rest ≡ now.buffer
    → Came answer.Responses (question.Simple sql) c last.info old now last.broken e
simple_came law sql {h} {c} {old} {now} {last} e call is rest =
    let comes = law sql old now h c (old.buffer ++ call.taken) call.sent last call.asked in (
      call.taken,
      call.sent,
      call.moved,
      subst (λ (l : List ℕ). Comes answer.Responses (Pause old now) (request.Simple sql) c
          (old.buffer ++ call.taken) call.sent last.info l (Err e) last.broken) rest
          (subst (λ (r : Result (List Response) ClientError). Comes answer.Responses (Pause old now)
          (request.Simple sql) c (old.buffer ++ call.taken) call.sent last.info last.rest r last.broken) is
          comes),
    )

-- a call of extended queries that did
pub rows_came : ((q : Request) (before now : Line) (h : ExtendedHandler) (c : Client) (bytes sent : List ℕ)
    (end : Finish ExtendedHandler DataRow)
    → IsExtended q → Requested ExtendedMeans (Pause before now) q h c bytes sent end
    → EndsExtendedCall q c bytes sent (Pause before now) end)
    → (sql : List ℕ) {h : ExtendedHandler} {c : Client} {old now : Line} {last : Finish ExtendedHandler DataRow}
    (e : ClientError)
    → MakesCall ExtendedMeans (request.Query sql [] []) h c old now last
    → Err e ≡ gathered_as all_responses last.answer → last.rest ≡ now.buffer
    → Came (rows_of sql) (question.Rows sql) c last.info old now last.broken e
rows_came law sql {h} {c} {old} {now} {last} e call is rest =
    let comes =
    law (request.Query sql [] []) old now h c (old.buffer ++ call.taken) call.sent last tt call.requested in (
      call.taken,
      call.sent,
      call.moved,
      subst (λ (l : List ℕ). Comes (rows_of sql) (Pause old now) (request.Query sql [] []) c
          (old.buffer ++ call.taken) call.sent last.info l (Err e) last.broken) rest
          (error_came sql (Pause old now) c (old.buffer ++ call.taken) call.sent last.info last.rest last.broken e
          last.answer is comes),
    )

pub fails_by : {A : Type 0} (give : A → Answer) (q : Question) (before after : Client) (old now : Line)
    (broken shown : Bool) (e : ClientError) (result : Result Reply ClientError)
    → shown ≡ broken → result ≡ error_reply e shown
    → Came give q before after old now broken e
    → Follows (λ config nonce ts read wrote. StandsBehind give config nonce ts (request_of q) read wrote after
    now.buffer (Err e) broken) before old now broken
    → IfErr result (λ x. FailsQuestion q before old after now broken x)
fails_by give q before after old now broken shown e (Ok r) same is came follows = tt
fails_by give q before after old now broken shown e (Err x) same is came follows =
    let one = replied_error e x shown (sym is) in
    let no_reply : error_reply e shown ≡ Err e =
    subst (λ (z : ClientError). error_reply e shown ≡ Err z) one (sym is) in
    subst (λ (y : ClientError). FailsQuestion q before old after now broken y) (sym one) (record {
      reason = record {
        no_reply = subst (λ (b : Bool). error_reply e b ≡ Err e) same no_reply;
        taken = came.0;
        sent = came.1;
        moved = came.2;
        comes =
            comes_error give (Pause old now) (request_of q) before (old.buffer ++ came.0) came.1 after now.buffer
            e broken came.3;
      };
      stands = λ config nonce ts read wrote stands.
          let f = follows config nonce ts read wrote stands in (
            f.0,
            f.1,
            f.2,
            stands_error give config nonce ts (request_of q) (read ++ f.0) (wrote ++ f.1) after
                now.buffer e broken f.4,
          );
    })

-- ---- causes

pub answered_caused : {A B : Type 0} (before now : ℕ) (was : Bool) (x : A) (y : B)
    → HasCause {T = A} before now was (Ok x) → HasCause {T = B} before now false (Ok y)
answered_caused before now was x y h = record { later = h.later; failed = tt }

pub replied_caused : {A : Type 0} (before now : ℕ) (was shown : Bool) (e : ClientError)
    (result : Result Reply ClientError)
    → was ≡ false → result ≡ error_reply e shown → HasCause {T = A} before now was (Err e)
    → HasCause before now false result
replied_caused before now was shown e (Ok r) usable is h = record { later = h.later; failed = tt }
replied_caused before now was shown e (Err x) usable is h = record {
  later = h.later;
  failed =
      subst (λ (z : ClientError × Bool). IsCaused z.0 before now z.1)
      (λ i. (sym (replied_error e x shown (sym is)) i, usable i)) h.failed;
}

error_before : (e : ClientError) (before mid now : ℕ) → before ≤ mid → IsCaused e mid now false
    → IsCaused e before now false
error_before client.IoError before mid now later rose = omega (arith, later, rose)
error_before client.Broken before mid now later is = is
error_before e before mid now later is = tt

pub caused_before : {A B : Type 0} (before mid now : ℕ) (was : Bool) (e : ClientError) → was ≡ false
    → before ≤ mid → HasCause {T = A} mid now false (Err e) → HasCause {T = B} before now was (Err e)
caused_before before mid now was e usable later h = record {
  later = (let l = h.later in omega (arith, later, l));
  failed =
      subst (λ (b : Bool). IsCaused e before now b) (sym usable) (error_before e before mid now later h.failed);
}

-- ---- behind some questions

-- the request of the next question came to an error
pub stops_next : (qs : List Question) (i : ℕ) (q : Question) (rs : List Reply) (before between after : Client)
    (old mid now : Line) (broken : Bool) (e : ClientError)
    → i < length qs → q ≡ get_or qs i q
    → AddsQuestions (take i qs) rs before old between mid → FailsQuestion q between mid after now broken e
    → StopsQuestions qs before old after now broken e
stops_next qs i q rs before between after old mid now broken e there is adds fails =
    λ config nonce ts read wrote stands.
    let more : take (i + 1) qs ≡ take i qs ++ q ∷ [] =
    take_more qs i q there ∙ ap (λ (x : Question). take i qs ++ x ∷ []) (sym is) in
    inl (record {
      asked = take i qs;
      next = q;
      behind = drop (i + 1) qs;
      cut = sym (take-append-drop (i + 1) qs) ∙ ap (λ (l : List Question). l ++ drop (i + 1) qs) more
          ∙ append_assoc (take i qs) (q ∷ []) (drop (i + 1) qs);
      replies = rs;
      between = between;
      mid = mid;
      stood = adds config nonce ts read wrote stands;
      fails = fails;
    })

-- memory was wanting to keep a reply
pub stops_wanting : (qs : List Question) (i : ℕ) (rs : List Reply) (before after : Client) (old now : Line)
    (broken : Bool)
    → broken ≡ false
    → AddsQuestions (take (i + 1) qs) rs before old after now
    → StopsQuestions qs before old after now broken client.OutOfMemory
stops_wanting qs i rs before after old now broken usable adds = λ config nonce ts read wrote stands. inr (record {
  asked = take (i + 1) qs;
  behind = drop (i + 1) qs;
  cut = sym (take-append-drop (i + 1) qs);
  replies = rs;
  stood = adds config nonce ts read wrote stands;
  lacked = refl;
  usable = usable;
})
