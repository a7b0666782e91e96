-- Rows that a handler takes together, as the messages that they are.
use Rattle.std.specs.Prelude.{IfOk, OnErr}
use Rattle.std.proofs.Common.{◌≡◌, ◌≤◌, ℕ, List, [], ◌∷◌, ◌++◌, length, Bool, true, false, Result, Ok, Err, inl, refl, sym, ap, subst, ◌∙◌, arith, append_assoc, length-append}
use Rattle.std.proofs.lemmas.List.{append-nil}
use Rattle.pgw_types.specs.declared.memory.OutOfMemory.{OutOfMemory}
use Rattle.pgw_query.specs.declared.data.DataRow.{DataRow}
use Rattle.pgw_query.specs.Runs.{SpellsRows}
use Rattle.pgw_backend.specs.declared.backend.PgWireBackendMessage.TheVariants as backend
use Rattle.pgw_backend.specs.declared.client_error.PgWireClientError.{PgWireClientError as ClientError}
use Rattle.pgw_backend.specs.declared.client_error.PgWireClientError.TheVariants as client
use Rattle.pgw_session.specs.declared.stage.Kind.{Kind}
use Rattle.pgw_session.specs.declared.stage.Kind.TheVariants as kind
use Rattle.pgw_session.specs.declared.stage.Role.TheVariants.{Taken}
use Rattle.pgw_session.specs.Requests.{role}
use Rattle.pgw_link.specs.Tape.{Tape}
use Rattle.pgw_dialogue.proofs.RowLaws.{row_found}
use Rattle.pgw_handlers.specs.Client.{Client}
use Rattle.pgw_handlers.specs.Handling.{HandlerView, standing, CallAnswer}
use Rattle.pgw_handlers.specs.declared.client_info.ReadyState.TheVariants.{Pending, Ready}
use Rattle.pgw_handlers.specs.Simple as simple
use Rattle.pgw_handlers.specs.Simple.{SimpleCall, HeardInQuery}
use Rattle.pgw_handlers.specs.Extended as extended
use Rattle.pgw_handlers.specs.Extended.{response}
use Rattle.pgw_client_calls.specs.declared.gathered.Gathered.{Gathered}
use Rattle.pgw_client_calls.specs.Talk as talk
use Rattle.pgw_client_calls.specs.Talk.{fresh, CallEnd, end, CallTalk}
use Rattle.pgw_client_calls.specs.Line.{Line, line, Reasons, Pause, IsFlushed}
use Rattle.pgw_client_calls.specs.Calls.{TalksToCallEnd, HeardNext, HeardOn}
use Rattle.pgw_client_calls.specs.Extended as exchange
use Rattle.pgw_client_calls.specs.Extended.{Meaning, Exchange, Finish, finish}
use Rattle.pgw_client_calls.specs.ExtendedSteps.{LineExchange, HeededNext, HeededOn, takes_rows}
use Rattle.pgw_client_calls.proofs.ReadingLaws.{not_halted, not_at_end}
use Rattle.pgw_client_calls.proofs.CallLaws.{put_none, talked_on}
use Rattle.pgw_client_calls.proofs.ExchangeLaws.{exchanged_on}

-- ---- in a simple query

-- rows of a front are rows of all
pub taken_more : {H R : Type 0} (M : HandlerView H → SimpleCall → HandlerView H → CallAnswer (List R) → Type 0)
    (h after : H) (front left behind all : List ℕ) (count : ℕ) → front ++ behind ≡ all
    → simple.TakesSimpleRows M h after front left count
    → simple.TakesSimpleRows M h after all (left ++ behind) count
taken_more M h after front left behind all count are t = record {
  rows = t.rows;
  taken = t.taken;
  spelled = t.spelled;
  cut = sym are ∙ ap (λ (l : List ℕ). l ++ behind) t.cut ∙ append_assoc t.taken left behind;
  heard = t.heard;
  counted = t.counted;
}

-- rows were taken of a buffer's front, or its bytes stayed
pub taken_through : {H R : Type 0} (M : HandlerView H → SimpleCall → HandlerView H → CallAnswer (List R) → Type 0)
    (h after : H) (front left behind all now : List ℕ) (result : Result ℕ OutOfMemory) → front ++ behind ≡ all
    → now ≡ left ++ behind
    → IfOk result (simple.TakesSimpleRows M h after front left)
    → IfOk result (simple.TakesSimpleRows M h after all now)
taken_through M h after front left behind all now (Ok count) are is t =
    subst (λ (l : List ℕ). simple.TakesSimpleRows M h after all l count) (sym is)
    (taken_more M h after front left behind all count are t)
taken_through M h after front left behind all now (Err e) are is t = tt

pub kept_through : {H : Type 0} (h after : H) (front left behind all now : List ℕ) (result : Result ℕ OutOfMemory)
    → front ++ behind ≡ all → now ≡ left ++ behind
    → OnErr result ((after ≡ h) × (left ≡ front)) → OnErr result (now ≡ all)
kept_through h after front left behind all now (Ok count) are is t = tt
kept_through h after front left behind all now (Err e) are is t = is ∙ ap (λ (l : List ℕ). l ++ behind) t.1 ∙ are

pub never_longer : {H R : Type 0} (M : HandlerView H → SimpleCall → HandlerView H → CallAnswer (List R) → Type 0)
    (h after : H) (all now : List ℕ) (result : Result ℕ OutOfMemory)
    → IfOk result (simple.TakesSimpleRows M h after all now) → OnErr result (now ≡ all) → length now ≤ length all
never_longer M h after all now (Ok count) t e = omega (arith, ap length t.cut, length-append t.taken now)
never_longer M h after all now (Err why) t e = omega (arith, ap length e)

module _ {H R : Type 0} (M : HandlerView H → SimpleCall → HandlerView H → CallAnswer (List R) → Type 0)
    (goes_on : ClientError → Bool) where
  -- each is heard, and nothing is sent for it
  talk_rows : (P : Reasons) (c : Client) (rows : List DataRow) (h after : H) (taken bytes sent : List ℕ)
      (last : CallEnd (List R))
      → simple.HearsRows M rows h after → SpellsRows rows taken
      → CallTalk (HeardInQuery M) P goes_on after c bytes sent last
      → CallTalk (HeardInQuery M) P goes_on h c (taken ++ bytes) sent last
  talk_rows P c rows h after taken bytes sent last (simple.none same) s t =
      subst (λ (g : List ℕ). CallTalk (HeardInQuery M) P goes_on same c (g ++ bytes) sent last) (sym s) t
  talk_rows P c rows h after taken bytes sent last (simple.hears row more first next final step heard) s t =
      let whole : taken ++ bytes ≡ s.0 ++ (s.1 ++ bytes) =
      ap (λ (g : List ℕ). g ++ bytes) s.2 ∙ append_assoc s.0 s.1 bytes in
      subst (λ (b : List ℕ). CallTalk (HeardInQuery M) P goes_on first c b sent last) (sym whole)
      (talk.hears first c (s.0 ++ (s.1 ++ bytes)) (backend.DataRow row) (s.1 ++ bytes) (standing next (fresh c))
      sent last
      (row_found c.protocol_version row s.0 (s.1 ++ bytes) s.3) (step (fresh c)) refl refl
      (talk_rows P c more next final s.1 bytes sent last heard s.4 t))

  talked_rows : (h after : H) (c : Client) (tape : Tape) (faults read limit count : ℕ) (old new : List ℕ)
      (final : Line) (last : CallEnd (List R))
      → simple.TakesSimpleRows M h after old new count
      → TalksToCallEnd (HeardInQuery M) goes_on after c (line tape faults new read limit) final last
      → TalksToCallEnd (HeardInQuery M) goes_on h c (line tape faults old read limit) final last
  talked_rows h after c tape faults read limit count old new final last t d =
      let all : old ++ d.taken ≡ t.taken ++ (new ++ d.taken) =
      ap (λ (b : List ℕ). b ++ d.taken) t.cut ∙ append_assoc t.taken new d.taken in
      let P = Pause (line tape faults old read limit) final in
      record {
        taken = d.taken;
        sent = d.sent;
        moved = record { took = d.moved.took; wrote = d.moved.wrote; read = d.moved.read; limit = d.moved.limit };
        talk = subst (λ (b : List ℕ). CallTalk (HeardInQuery M) P goes_on h c b d.sent last) (sym all)
            (talk_rows P c t.rows h after t.taken (new ++ d.taken) d.sent last t.heard t.spelled d.talk);
        flushed = d.flushed;
        well = d.well;
        halts = d.halts;
        at_end = d.at_end;
      }

  -- a message was heard behind some rows
  pub heard_behind : (h mid handler : H) (c also info : Client) (tape mid_tape : Tape)
      (faults mid_faults read mid_read limit mid_limit count : ℕ)
      (old bytes : List ℕ) (new : Line) (broken : Bool) (answer : CallAnswer (List R))
      → also ≡ c → mid_tape ≡ tape → mid_faults ≡ faults → mid_read ≡ read → mid_limit ≡ limit
      → simple.TakesSimpleRows M h mid old bytes count
      → HeardNext (HeardInQuery M) goes_on mid also (line mid_tape mid_faults bytes mid_read mid_limit) new
      handler info broken answer
      → HeardOn (HeardInQuery M) goes_on h c (line tape faults old read limit) new handler info broken answer
  heard_behind h mid handler c also info tape mid_tape faults mid_faults read mid_read limit mid_limit count old
      bytes new broken answer e1 e2 e3 e4 e5 t n =
      by_answer answer (
      subst (λ (x : Client). HeardNext (HeardInQuery M) goes_on mid x (line tape faults bytes read limit) new
      handler info broken answer) e1
      (subst (λ (x : Tape). HeardNext (HeardInQuery M) goes_on mid also (line x faults bytes read limit) new
      handler info broken answer) e2
      (subst (λ (x : ℕ). HeardNext (HeardInQuery M) goes_on mid also (line mid_tape x bytes read limit) new
      handler info broken answer) e3
      (subst (λ (x : ℕ). HeardNext (HeardInQuery M) goes_on mid also (line mid_tape mid_faults bytes x limit) new
      handler info broken answer) e4
      (subst (λ (x : ℕ). HeardNext (HeardInQuery M) goes_on mid also (line mid_tape mid_faults bytes mid_read x)
      new handler info broken answer) e5 n)))))
    where
      as_old : (final : Line) (last : CallEnd (List R))
          → TalksToCallEnd (HeardInQuery M) goes_on mid c (line tape faults bytes read limit) final last
          → TalksToCallEnd (HeardInQuery M) goes_on h c (line tape faults old read limit) final last
      as_old final last d = talked_rows h mid c tape faults read limit count old bytes final last t d

      by_answer : (a : CallAnswer (List R))
          → HeardNext (HeardInQuery M) goes_on mid c (line tape faults bytes read limit) new handler info broken a
          → HeardOn (HeardInQuery M) goes_on h c (line tape faults old read limit) new handler info broken a
      by_answer (Ok Pending) x = (
        λ final last d. as_old final last
            (talked_on (HeardInQuery M) goes_on mid handler c info (line tape faults bytes read limit) new final
            last x.0 d),
        x.1,
      )
      by_answer (Ok (Ready r)) x = as_old new (end (Ok r) info broken new.buffer) x
      by_answer (Err e) x = as_old new (end (Err e) info broken new.buffer) x

  -- memory was wanting
  pub talked_starved : (h : H) (c info : Client) (old new : Line) → IsFlushed old → new ≡ old
      → TalksToCallEnd (HeardInQuery M) goes_on h c old new (end (Err client.OutOfMemory) info true new.buffer)
  talked_starved h c info old new f same =
      subst (λ (l : Line). TalksToCallEnd (HeardInQuery M) goes_on h c old l
      (end (Err client.OutOfMemory) info true l.buffer)) (sym same)
      record {
        taken = [];
        sent = [];
        moved = (put_none old).moved;
        talk = talk.starves h c (old.buffer ++ []) info old.buffer;
        flushed = λ good. absurd (let no : true ≡ false = good in cc);
        well = inl (refl, f);
        halts = not_halted info (length old.tape.wrote) old old refl;
        at_end = not_at_end _ old old refl;
      }

-- ---- in a call of extended queries

pub given_more : {H R : Type 0} (M : Meaning H R) (h after : H) (was is : List R) (front left behind all : List ℕ)
    (count : ℕ)
    → front ++ behind ≡ all → extended.TakesExtendedRows M h after was is front left count
    → extended.TakesExtendedRows M h after was is all (left ++ behind) count
given_more M h after was is front left behind all count are t = record {
  rows = t.rows;
  made = t.made;
  taken = t.taken;
  spelled = t.spelled;
  cut = sym are ∙ ap (λ (l : List ℕ). l ++ behind) t.cut ∙ append_assoc t.taken left behind;
  heard = t.heard;
  put = t.put;
  counted = t.counted;
}

pub given_through : {H R : Type 0} (M : Meaning H R) (h after : H) (was is : List R)
    (front left behind all now : List ℕ) (result : Result ℕ OutOfMemory)
    → front ++ behind ≡ all → now ≡ left ++ behind
    → IfOk result (extended.TakesExtendedRows M h after was is front left)
    → IfOk result (extended.TakesExtendedRows M h after was is all now)
given_through M h after was is front left behind all now (Ok count) are so t =
    subst (λ (l : List ℕ). extended.TakesExtendedRows M h after was is all l count) (sym so)
    (given_more M h after was is front left behind all count are t)
given_through M h after was is front left behind all now (Err e) are so t = tt

pub stays_through : {H S : Type 0} (h after : H) (was is : S) (front left behind all now : List ℕ)
    (result : Result ℕ OutOfMemory)
    → front ++ behind ≡ all → now ≡ left ++ behind
    → OnErr result ((after ≡ h) × (is ≡ was) × (left ≡ front)) → OnErr result (now ≡ all)
stays_through h after was is front left behind all now (Ok count) are so t = tt
stays_through h after was is front left behind all now (Err e) are so t =
    so ∙ ap (λ (l : List ℕ). l ++ behind) t.2 ∙ are

pub not_longer : {H R : Type 0} (M : Meaning H R) (h after : H) (was is : List R) (all now : List ℕ)
    (result : Result ℕ OutOfMemory)
    → IfOk result (extended.TakesExtendedRows M h after was is all now) → OnErr result (now ≡ all)
    → length now ≤ length all
not_longer M h after was is all now (Ok count) t e = omega (arith, ap length t.cut, length-append t.taken now)
not_longer M h after was is all now (Err why) t e = omega (arith, ap length e)

row_taken : (k : Kind) (row : DataRow) → takes_rows k ≡ true → role k false (backend.DataRow row) ≡ Taken false
row_taken kind.Execute row is = refl
row_taken kind.Query row is = refl
row_taken k row is = absurd (cc)

abbrev more_responses : {R : Type 0} → Gathered (List R) → List R → Gathered (List R)
more_responses g made = record g { responses = g.responses ++ made }

module _ {H R : Type 0} (M : Meaning H R) (k : Kind) (takes : takes_rows k ≡ true) where
  exchange_rows : (P : Reasons) (c : Client) (rows : List DataRow) (made : List R) (h after : H)
      (g : Gathered (List R)) (taken bytes sent : List ℕ) (last : Finish H R)
      → extended.HearsRows M rows made h after → SpellsRows rows taken
      → Exchange M P k after c (more_responses g made) bytes sent last
      → Exchange M P k h c g (taken ++ bytes) sent last
  exchange_rows P c rows made h after g taken bytes sent last (extended.none same) s t =
      subst (λ (b : List ℕ). Exchange M P k same c g (b ++ bytes) sent last) (sym s)
      (subst (λ (l : List R). Exchange M P k same c (record g { responses = l }) bytes sent last)
      (append-nil g.responses) t)
  exchange_rows P c rows made h after g taken bytes sent last
      (extended.hears row one more others first next final step heard) s t =
      let whole : taken ++ bytes ≡ s.0 ++ (s.1 ++ bytes) =
      ap (λ (b : List ℕ). b ++ bytes) s.2 ∙ append_assoc s.0 s.1 bytes in
      let with_one = more_responses g (one ∷ []) in
      let rest =
      subst (λ (l : List R). Exchange M P k final c (record g { responses = l }) bytes sent last)
      (sym (append_assoc g.responses (one ∷ []) others)) t in
      subst (λ (b : List ℕ). Exchange M P k first c g b sent last) (sym whole)
      (exchange.takes first c g (s.0 ++ (s.1 ++ bytes)) (backend.DataRow row) (s.1 ++ bytes) false next with_one
      sent last
      (row_found c.protocol_version row s.0 (s.1 ++ bytes) s.3) (row_taken k row takes)
      (response one, step (fresh c), refl)
      (exchange_rows P c more others next final with_one s.1 bytes sent last heard s.4 rest))

  exchanged_rows : (h after : H) (c : Client) (g more : Gathered (List R)) (tape : Tape)
      (faults read limit count : ℕ) (old new : List ℕ) (final : Line) (last : Finish H R)
      → more ≡ record g { responses = more.responses }
      → extended.TakesExtendedRows M h after g.responses more.responses old new count
      → LineExchange M k after c more (line tape faults new read limit) final last
      → LineExchange M k h c g (line tape faults old read limit) final last
  exchanged_rows h after c g more tape faults read limit count old new final last is t d =
      let all : old ++ d.taken ≡ t.taken ++ (new ++ d.taken) =
      ap (λ (b : List ℕ). b ++ d.taken) t.cut ∙ append_assoc t.taken new d.taken in
      let P = Pause (line tape faults old read limit) final in
      let put : more ≡ more_responses g t.made = is ∙ ap (λ (l : List R). record g { responses = l }) t.put in
      record {
        taken = d.taken;
        sent = d.sent;
        moved = record { took = d.moved.took; wrote = d.moved.wrote; read = d.moved.read; limit = d.moved.limit };
        exchange = subst (λ (b : List ℕ). Exchange M P k h c g b d.sent last) (sym all)
            (exchange_rows P c t.rows t.made h after g t.taken (new ++ d.taken) d.sent last t.heard t.spelled
            (subst (λ (x : Gathered (List R)). Exchange M P k after c x (new ++ d.taken) d.sent last) put
            d.exchange));
        flushed = d.flushed;
        well = d.well;
        halts = d.halts;
        at_end = d.at_end;
      }

  -- a message was heeded behind some rows
  pub heeded_behind : (h mid handler : H) (c also info : Client) (g between more : Gathered (List R))
      (tape mid_tape : Tape) (faults mid_faults read mid_read limit mid_limit count : ℕ)
      (old bytes : List ℕ) (new : Line) (broken : Bool) (answer : CallAnswer Bool)
      → also ≡ c → mid_tape ≡ tape → mid_faults ≡ faults → mid_read ≡ read → mid_limit ≡ limit
      → between ≡ record g { responses = between.responses }
      → extended.TakesExtendedRows M h mid g.responses between.responses old bytes count
      → HeededNext M k mid also between (line mid_tape mid_faults bytes mid_read mid_limit) new handler info more
      broken answer
      → HeededOn M k h c g (line tape faults old read limit) new handler info more broken answer
  heeded_behind h mid handler c also info g between more tape mid_tape faults mid_faults read mid_read limit
      mid_limit count old bytes new broken answer e1 e2 e3 e4 e5 e6 t n =
      by_answer answer (
      subst (λ (x : Client). HeededNext M k mid x between (line tape faults bytes read limit) new handler info
      more broken answer) e1
      (subst (λ (x : Tape). HeededNext M k mid also between (line x faults bytes read limit) new handler info more
      broken answer) e2
      (subst (λ (x : ℕ). HeededNext M k mid also between (line mid_tape x bytes read limit) new handler info more
      broken answer) e3
      (subst (λ (x : ℕ). HeededNext M k mid also between (line mid_tape mid_faults bytes x limit) new handler info
      more broken answer) e4
      (subst (λ (x : ℕ). HeededNext M k mid also between (line mid_tape mid_faults bytes mid_read x) new handler
      info more broken answer) e5 n)))))
    where
      as_old : (final : Line) (last : Finish H R)
          → LineExchange M k mid c between (line tape faults bytes read limit) final last
          → LineExchange M k h c g (line tape faults old read limit) final last
      as_old final last d =
          exchanged_rows h mid c g between tape faults read limit count old bytes final last e6 t d

      by_answer : (a : CallAnswer Bool)
          → HeededNext M k mid c between (line tape faults bytes read limit) new handler info more broken a
          → HeededOn M k h c g (line tape faults old read limit) new handler info more broken a
      by_answer (Ok Pending) x = (
        λ final last d. as_old final last
            (exchanged_on M k mid handler c info between more (line tape faults bytes read limit) new final last
            x.0 d),
        x.1,
      )
      by_answer (Ok (Ready suspended)) x =
          as_old new (finish (Ok (more, suspended)) handler info broken new.buffer) x
      by_answer (Err e) x = as_old new (finish (Err e) handler info broken new.buffer) x

module _ {H R : Type 0} (M : Meaning H R) (k : Kind) where
  -- no rows were taken
  pub heeded_as : (h handler : H) (c info : Client) (g more : Gathered (List R)) (old new : Line) (broken : Bool)
      (answer : CallAnswer Bool)
      → HeededNext M k h c g old new handler info more broken answer
      → HeededOn M k h c g old new handler info more broken answer
  heeded_as h handler c info g more old new broken (Ok Pending) x =
      (λ final last d. exchanged_on M k h handler c info g more old new final last x.0 d, x.1)
  heeded_as h handler c info g more old new broken (Ok (Ready suspended)) x = x
  heeded_as h handler c info g more old new broken (Err e) x = x

  -- memory was wanting
  pub exchanged_starved : (h after : H) (c info : Client) (g : Gathered (List R)) (old new : Line) → IsFlushed old
      → new ≡ old
      → LineExchange M k h c g old new (finish (Err client.OutOfMemory) after info true new.buffer)
  exchanged_starved h after c info g old new f same =
      subst (λ (l : Line). LineExchange M k h c g old l
      (finish (Err client.OutOfMemory) after info true l.buffer)) (sym same)
      record {
        taken = [];
        sent = [];
        moved = (put_none old).moved;
        exchange = exchange.starves h after c info g (old.buffer ++ []) old.buffer;
        flushed = λ good. absurd (let no : true ≡ false = good in cc);
        well = inl (refl, f);
        halts = not_halted info (length old.tape.wrote) old old refl;
        at_end = not_at_end _ old old refl;
      }
