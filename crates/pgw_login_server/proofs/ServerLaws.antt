-- How a server's core comes from one place to the next.
use Rattle.std.proofs.Common.{◌≡◌, ◌⊎◌, inl, inr, ℕ, ◌<◌, true, false, List, [], ◌∷◌, ◌++◌, length, fold, Option, Some, None, Result, Ok, Err, refl, sym, ap, subst, ◌∙◌, append_assoc}
use Rattle.std.proofs.lemmas.List.{append-nil}
use Rattle.std.specs.Prelude.{◌≢◌}
use Rattle.pgw_types.specs.declared.error.PgWireError.{PgWireError}
use Rattle.pgw_types.specs.declared.error.PgWireError.TheVariants.{OutOfMemory}
use Rattle.pgw_wire.specs.Reading.{◌>>=◌}
use Rattle.pgw_wire.proofs.Laws.{ok_is}
use Rattle.pgw_control.specs.declared.cancel.CancelRequest.{CancelRequest}
use Rattle.pgw_frontend.specs.declared.frontend.PgWireFrontendMessage.{PgWireFrontendMessage as Message}
use Rattle.pgw_frontend.specs.declared.frontend.PgWireFrontendMessage.TheVariants as frontend
use Rattle.pgw_backend.specs.declared.backend.PgWireBackendMessage.{PgWireBackendMessage as Backend}
use Rattle.pgw_backend.specs.Backend.{backend_encoding}
use Rattle.pgw_machine.specs.Course.{More, Move, Course, Waits, Over, IsReading}
use Rattle.pgw_machine.specs.Play.{Leads, waits, stops, breaks, ends, goes, course_behind, WaitsForMore}
use Rattle.pgw_machine.proofs.PlayLaws.{leads_on, leads_waits}
use Rattle.pgw_login.specs.Client.{LoginClient}
use Rattle.pgw_login.specs.Sending.{and_encoding}
use Rattle.pgw_login.specs.Acts.{Standing, standing_in_login, Answer, Did}
use Rattle.pgw_login.specs.declared.state.LoginState.{LoginState}
use Rattle.pgw_login.specs.declared.client_info.PgWireConnectionState.{PgWireConnectionState}
use Rattle.pgw_login.specs.declared.client_info.PgWireConnectionState.TheVariants as state
use Rattle.pgw_login_server.specs.Front.{client_front, server_front}
use Rattle.pgw_login_server.specs.Server.{Stage, begins_within, bound_at, Cause, Refused, Asked, ServerEnding, server_ending, server_encodings, stage_after, Handles, Steps, stage_front, serving}
use Rattle.pgw_login_server.specs.Stands.{WentOn, stage_of, IsAt, ServerStands, phase_at, cause_result, server_answer_at, Arrives}
use Rattle.pgw_login_server.specs.Steps.{is_end, DidStep, DidHear, IsStagePlace, ServerTakesAll, Goes, AdvancesServer}
use Rattle.pgw_login_server.specs.declared.connection.ServerCore.{ServerCore}
use Rattle.pgw_login_server.specs.declared.connection.ServerPhase.{ServerPhase}
use Rattle.pgw_login_server.specs.declared.connection.ServerPhase.TheVariants.{CancelAsked}
use Rattle.pgw_login_server.proofs.ClientFront.{steady, taken}

pub steady_at : (stage : Stage) → IsReading (stage_front stage)
steady_at stage = steady stage.started (bound_at stage) stage.client.protocol_version

memory_or : (e : PgWireError) → (e ≡ OutOfMemory) ⊎ (e ≢ OutOfMemory)
memory_or OutOfMemory = inl refl
memory_or e = inr (λ is. cc)

-- ---- what an outbox took

pub known : {A E : Type 0} (r : Result A E) → ((x : A) × (r ≡ Ok x)) ⊎ ((e : E) × (r ≡ Err e))
known (Ok x) = inl (x, refl)
known (Err e) = inr (e, refl)

pub none_after : (e : PgWireError) (ms : List Backend) → fold and_encoding (Err e) ms ≡ Err e
none_after e [] = refl
none_after e (m ∷ ms) = none_after e ms

pub one_more : (bytes more : List ℕ) (m : Backend) → backend_encoding m ≡ Ok more
    → and_encoding (Ok bytes) m ≡ Ok (bytes ++ more)
one_more bytes more m is = ap (λ (r : Result (List ℕ) PgWireError). r >>= (λ more. Ok (bytes ++ more))) is

pub no_more : (bytes : List ℕ) (e : PgWireError) (m : Backend) → backend_encoding m ≡ Err e
    → and_encoding (Ok bytes) m ≡ Err e
no_more bytes e m is = ap (λ (r : Result (List ℕ) PgWireError). r >>= (λ more. Ok (bytes ++ more))) is

-- with bytes before them, the encodings are the same
pub told_from : (old acc new : List ℕ) (ms : List Backend) → fold and_encoding (Ok (old ++ acc)) ms ≡ Ok new
    → (put : List ℕ) × (fold and_encoding (Ok acc) ms ≡ Ok put) × (new ≡ old ++ put)
told_from old acc new [] e = (acc, refl, sym (ok_is (old ++ acc) new e))
told_from old acc new (m ∷ ms) e = elim (known (backend_encoding m)) [
  | inl k ↦
      let both : and_encoding (Ok (old ++ acc)) m ≡ Ok (old ++ (acc ++ k.0)) =
      one_more (old ++ acc) k.0 m k.1 ∙ ap (λ (l : List ℕ). Ok l) (append_assoc old acc k.0) in
      let rest : fold and_encoding (Ok (old ++ (acc ++ k.0))) ms ≡ Ok new =
      sym (ap (λ (s : Result (List ℕ) PgWireError). fold and_encoding s ms) both) ∙ e in
      let t = told_from old (acc ++ k.0) new ms rest in
      (t.0, ap (λ (s : Result (List ℕ) PgWireError). fold and_encoding s ms) (one_more acc k.0 m k.1) ∙ t.1, t.2)
  | inr k ↦
      let stuck : fold and_encoding (Err k.0) ms ≡ Ok new =
      sym (ap (λ (s : Result (List ℕ) PgWireError). fold and_encoding s ms) (no_more (old ++ acc) k.0 m k.1))
      ∙ e in
      let is = none_after k.0 ms in
      absurd cc
]

told : (old new : List ℕ) (ms : List Backend) → Ok new ≡ fold and_encoding (Ok old) ms
    → (put : List ℕ) × (server_encodings ms ≡ Ok put) × (new ≡ old ++ put)
told old new ms e =
    told_from old [] new ms (ap (λ (l : List ℕ). fold and_encoding (Ok l) ms) (append-nil old) ∙ sym e)

-- ---- a message

module _ (means : Message → Standing → Standing → List Backend → Answer → Type 0) where
  pub hears : (m : Message) (from : Stage) (client : LoginClient) (login : LoginState) (old new : List ℕ)
      → Did and_encoding (Ok old) (Ok new) (means m) (standing_in_login from.client from.login 0)
      (standing_in_login client login 0) (Ok tt)
      → DidHear means m from (record from { client = client; login = login; started = true }) old new (Ok tt)
  hears m from client login old new d =
      let t = told old new d.sent d.told in
      (t.0, t.2, (standing_in_login client login 0, d.sent, Ok tt, t.0, d.done, t.1, refl, refl))

  pub refuses : (m : Message) (from : Stage) (client : LoginClient) (login : LoginState) (old new : List ℕ)
      (e : PgWireError)
      → Did and_encoding (Ok old) (Ok new) (means m) (standing_in_login from.client from.login 0)
      (standing_in_login client login 0) (Err e)
      → DidHear means m from (record from { client = client; login = login }) old new (Err e)
  refuses m from client login old new e d =
      let t = told old new d.sent d.told in
      (t.0, t.2, (standing_in_login client login 0, d.sent, Err e, t.0, d.done, t.1, refl, refl))

  -- what is no request for encryption or to cancel is the handler's
  pub handled : (m : Message) (from : Stage) (move : Move Stage ServerEnding)
      → ((n : _) → m ≡ frontend.SslNegotiation n → ⊥) → ((r : CancelRequest) → m ≡ frontend.CancelRequest r → ⊥)
      → Handles means from m move → Steps means from m move
  handled (frontend.SslNegotiation n) from move no_request no_cancel h = absurd (no_request n refl)
  handled (frontend.CancelRequest r) from move no_request no_cancel h = absurd (no_cancel r refl)
  handled (frontend.Startup m) from move no_request no_cancel h = h
  handled (frontend.PasswordMessageFamily m) from move no_request no_cancel h = h
  handled (frontend.PortalSuspended m) from move no_request no_cancel h = h
  handled (frontend.Query m) from move no_request no_cancel h = h
  handled (frontend.Parse m) from move no_request no_cancel h = h
  handled (frontend.Bind m) from move no_request no_cancel h = h
  handled (frontend.Close m) from move no_request no_cancel h = h
  handled (frontend.Describe m) from move no_request no_cancel h = h
  handled (frontend.Execute m) from move no_request no_cancel h = h
  handled (frontend.Flush m) from move no_request no_cancel h = h
  handled (frontend.Sync m) from move no_request no_cancel h = h
  handled (frontend.Terminate m) from move no_request no_cancel h = h
  handled (frontend.CopyData m) from move no_request no_cancel h = h
  handled (frontend.CopyDone m) from move no_request no_cancel h = h
  handled (frontend.CopyFail m) from move no_request no_cancel h = h

  -- ---- what stands at the front

  pub comes_more : (from : Stage) (bytes left old : List ℕ) (phase : ServerPhase) → left ≡ bytes
      → client_front from.started (bound_at from) from.client.protocol_version bytes ≡ Ok None
      → phase ≡ phase_at from.client.state → ServerTakesAll means from bytes from left old old (Ok phase)
  comes_more from bytes left old phase same none is = (
    [],
    Waits from [] bytes,
    sym (append-nil old),
    waits from bytes (ap (server_front bytes) none),
    (refl, refl, sym same),
    ap (λ (p : ServerPhase). Ok p) is,
  )

  -- memory ran out, or the front is refused
  pub comes_broken : (from to : Stage) (bytes left old : List ℕ) → to ≡ from
      → ServerTakesAll means from bytes to left old old (Err OutOfMemory)
  comes_broken from to bytes left old same = (
    [],
    Over (server_ending (Refused OutOfMemory) from) [],
    sym (append-nil old),
    breaks from bytes
        (server_ending (Refused OutOfMemory) from) refl,
    (sym same, refl),
    refl,
  )

  pub comes_bad : (from : Stage) (bytes left old : List ℕ) (e : PgWireError)
      → (e ≢ OutOfMemory → client_front from.started (bound_at from) from.client.protocol_version bytes ≡ Err e)
      → ServerTakesAll means from bytes from left old old (Err e)
  comes_bad from bytes left old e bad = elim (memory_or e) [
    | inl is ↦ subst (λ (d : PgWireError). ServerTakesAll means from bytes from left old old (Err d)) (sym is)
        (comes_broken from from bytes left old refl)
    | inr ne ↦ (
      [],
      Over (server_ending (Refused e) from) [],
      sym (append-nil old),
      stops from bytes e
          (server_ending (Refused e) from) (ap (server_front bytes) (bad ne)) refl,
      (refl, refl),
      refl,
    )
  ]

  -- a message was taken
  pub goes_on : (from to : Stage) (bytes rest left old new : List ℕ) (m : Message) → left ≡ rest
      → client_front from.started (bound_at from) from.client.protocol_version bytes ≡ Ok (Some (m, rest))
      → DidStep means m from to old new (Ok None) → AdvancesServer means from bytes to left old new (Ok None)
  goes_on from to bytes rest left old new m same found step =
      let t = taken from.started (bound_at from) from.client.protocol_version bytes m rest found in (
        (
          step.0,
          step.1,
          λ course leads. goes from to bytes m t.0 step.0 course t.1 step.2
              (subst (λ (l : List ℕ). Leads (serving means) to l course) (same
              ∙ t.2) leads),
        ),
        subst (λ (l : List ℕ). length l < length bytes) (sym same) t.3,
      )

  pub comes_asked : (from to : Stage) (bytes rest left old new : List ℕ) (m : Message) (r : CancelRequest)
      → client_front from.started (bound_at from) from.client.protocol_version bytes ≡ Ok (Some (m, rest))
      → DidStep means m from to old new (Ok (Some r))
      → ServerTakesAll means from bytes to left old new (Ok (CancelAsked r))
  comes_asked from to bytes rest left old new m r found step =
      let t = taken from.started (bound_at from) from.client.protocol_version bytes m rest found in (
        step.0,
        Over (server_ending (Asked r) to) step.0,
        step.1,
        ends from bytes m t.0
            (server_ending (Asked r) to) step.0 t.1 step.2,
        (refl, refl),
        refl,
      )

  pub comes_refused : (from to : Stage) (bytes rest left old new : List ℕ) (m : Message) (e : PgWireError)
      → client_front from.started (bound_at from) from.client.protocol_version bytes ≡ Ok (Some (m, rest))
      → DidStep means m from to old new (Err e) → ServerTakesAll means from bytes to left old new (Err e)
  comes_refused from to bytes rest left old new m e found step =
      let t = taken from.started (bound_at from) from.client.protocol_version bytes m rest found in
      elim step.2 [
        | inl h ↦ (
          step.0,
          Over (server_ending (Refused e) to) step.0,
          step.1,
          ends from bytes m t.0
              (server_ending (Refused e) to) step.0 t.1 h,
          (refl, refl),
          refl,
        )
        | inr h ↦ (
          step.0,
          Over (server_ending (Refused OutOfMemory) from) [],
          step.1,
          breaks from bytes
              (server_ending (Refused OutOfMemory) from) refl,
          (sym h.1, sym h.2),
          ap (λ (d : PgWireError). Err d)
              h.0,
        )
      ]

-- a cause ends it
ends_by : (c : Cause) → is_end (cause_result c) ≡ true
ends_by (Refused e) = refl
ends_by (Asked r) = refl

-- ---- one after the other

behind_behind : {S R : Type 0} (a b : List ℕ) (c : Course S R)
    → course_behind a (course_behind b c) ≡ course_behind (a ++ b) c
behind_behind a b (Waits stage sent pending) =
    ap (λ (l : List ℕ). Waits stage l pending) (sym (append_assoc a b sent))
behind_behind a b (Over ending sent) = ap (Over ending) (sym (append_assoc a b sent))

behind_none : {S R : Type 0} (c : Course S R) → course_behind [] c ≡ c
behind_none (Waits stage sent pending) = refl
behind_none (Over ending sent) = refl

place_behind : (to : Stage) (left front put : List ℕ) (course : Course Stage ServerEnding)
    → IsStagePlace to left put course → IsStagePlace to left (front ++ put) (course_behind front course)
place_behind to left front put (Waits stage out pending) h = (h.0, ap (λ (l : List ℕ). front ++ l) h.1, h.2)
place_behind to left front put (Over ending out) h = (h.0, ap (λ (l : List ℕ). front ++ l) h.1)

answer_behind : (front : List ℕ) (course : Course Stage ServerEnding)
    → server_answer_at (course_behind front course) ≡ server_answer_at course
answer_behind front (Waits stage out pending) = refl
answer_behind front (Over ending out) = refl

module _ (means : Message → Standing → Standing → List Backend → Answer → Type 0) where
  pub stays : (from : Stage) (bytes old : List ℕ) → Goes means from bytes from bytes old old
  stays from bytes old = (
    [],
    sym (append-nil old),
    λ course leads. subst (Leads (serving means) from bytes)
        (sym (behind_none course)) leads,
  )

  pub goes_then : (from mid to : Stage) (bytes between left old part new : List ℕ)
      → Goes means from bytes mid between old part → Goes means mid between to left part new
      → Goes means from bytes to left old new
  goes_then from mid to bytes between left old part new a b = (
    a.0 ++ b.0,
    b.1 ∙ ap (λ (l : List ℕ). l ++ b.0) a.1 ∙ append_assoc old a.0 b.0,
    λ course leads. subst (Leads (serving means) from bytes) (behind_behind a.0 b.0 course)
        (a.2 (course_behind b.0 course) (b.2 course leads)),
  )

  pub comes_then : (from mid to : Stage) (bytes between left old part new : List ℕ)
      (answer : Result ServerPhase PgWireError)
      → Goes means from bytes mid between old part → ServerTakesAll means mid between to left part new answer
      → ServerTakesAll means from bytes to left old new answer
  comes_then from mid to bytes between left old part new answer a b = (
    a.0 ++ b.0,
    course_behind a.0 b.1,
    b.2 ∙ ap (λ (l : List ℕ). l ++ b.0) a.1 ∙ append_assoc old a.0 b.0,
    a.2 b.1 b.3,
    place_behind to left a.0 b.0 b.1 b.4,
    b.5 ∙ sym (answer_behind a.0 b.1),
  )

  -- ---- what a core stands for

  pub begins_here : {H : Type 0} (core : ServerCore H) (bound : Option ℕ) (client : LoginClient)
      (login : LoginState)
      → stage_of core ≡ begins_within bound client login → core.over ≡ false → core.inbox.items ≡ []
      → ServerStands means (begins_within bound client login) core [] []
  begins_here core bound client login is on none = (
    Waits (begins_within bound client login) [] [],
    waits (begins_within bound client login) []
        ((steady_at (begins_within bound client login)).none),
    (on, sym is, refl, sym none),
  )

  -- behind an end it stays
  pub stands_still : {H : Type 0} (begin : Stage) (core : ServerCore H) (given put piece : List ℕ)
      → core.over ≡ true → ServerStands means begin core given put
      → ServerStands means begin core (given ++ piece) (put ++ [])
  stands_still begin core given put piece over (Waits stage out pending, leads, at) = let h = at.0 in absurd cc
  stands_still begin core given put piece over (Over ending out, leads, at) = (
    Over ending out,
    leads_on (serving means) steady_at begin given (Over ending out) piece (Over ending out) leads refl,
    (at.0, at.1, at.2 ∙ sym (append-nil put)),
  )

  at_place : {H : Type 0} (core : ServerCore H) (put : List ℕ) (course : Course Stage ServerEnding)
      (answer : Result ServerPhase PgWireError)
      → core.over ≡ is_end answer → IsStagePlace (stage_of core) core.inbox.items put course
      → answer ≡ server_answer_at course → IsAt core put course
  at_place core put (Waits stage out pending) answer over h is =
      (over ∙ ap is_end is ∙ goes_on_at stage.client.state, h.0, h.1, h.2)
    where
      goes_on_at : (s : PgWireConnectionState) → is_end (Ok (phase_at s)) ≡ false
      goes_on_at state.ReadyForQuery = refl
      goes_on_at s = refl
  at_place core put (Over ending out) answer over h is = (over ∙ ap is_end is ∙ ends_by ending.cause, h.0, h.1)

  pub arrives : {H : Type 0} (begin : Stage) (old new : ServerCore H)
      (given put piece before stage_after : List ℕ) (answer : Result ServerPhase PgWireError)
      → old.over ≡ false → new.over ≡ is_end answer → ServerStands means begin old given put
      → ServerTakesAll means (stage_of old) (old.inbox.items ++ piece) (stage_of new) new.inbox.items before
      stage_after answer
      → (more : List ℕ) × (stage_after ≡ before ++ more)
      × Arrives means begin new (given ++ piece) (put ++ more) answer
  arrives begin old new given put piece before stage_after answer on over (Over ending out, leads, at) comes =
      let h = at.0 in absurd cc
  arrives begin old new given put piece before stage_after answer on over (Waits stage out pending, leads, at)
      comes =
      let here : Leads (serving means) stage (pending ++ piece) comes.1 =
      subst (λ (s : Stage). Leads (serving means) s (pending ++ piece) comes.1) (sym at.1)
      (subst (λ (p : List ℕ). Leads (serving means) (stage_of old) (p ++ piece) comes.1) (sym at.3)
      comes.3) in
      let on_from : Leads (serving means) begin (given ++ piece) (course_behind out comes.1) =
      leads_on (serving means) steady_at begin given (Waits stage out pending) piece
      (course_behind out comes.1) leads (comes.1, here, refl) in
      let there : IsStagePlace (stage_of new) new.inbox.items (put ++ comes.0) (course_behind out comes.1) =
      subst (λ (p : List ℕ). IsStagePlace (stage_of new) new.inbox.items (p ++ comes.0)
      (course_behind out comes.1)) at.2
      (place_behind (stage_of new) new.inbox.items out comes.0 comes.1 comes.4) in
      let says : answer ≡ server_answer_at (course_behind out comes.1) =
      comes.5 ∙ sym (answer_behind out comes.1) in (
        comes.0,
        comes.2,
        (
          course_behind out comes.1,
          on_from,
          at_place new (put ++ comes.0) (course_behind out comes.1) answer over there says,
          says,
        ),
      )

  -- from any place
  pub continues_on : {H : Type 0} (old new : ServerCore H) (put piece before stage_after : List ℕ)
      (course : Course Stage ServerEnding) (answer : Result ServerPhase PgWireError)
      → old.over ≡ false → new.over ≡ is_end answer → IsAt old put course
      → ServerTakesAll means (stage_of old) (old.inbox.items ++ piece) (stage_of new) new.inbox.items before
      stage_after answer
      → WentOn means old new put piece before stage_after course answer
  continues_on old new put piece before stage_after (Over ending out) answer on over at comes =
      let h = at.0 in absurd cc
  continues_on old new put piece before stage_after (Waits stage out pending) answer on over at comes =
      let here : Leads (serving means) stage (pending ++ piece) comes.1 =
      subst (λ (s : Stage). Leads (serving means) s (pending ++ piece) comes.1) (sym at.1)
      (subst (λ (p : List ℕ). Leads (serving means) (stage_of old) (p ++ piece) comes.1) (sym at.3)
      comes.3) in
      let there : IsStagePlace (stage_of new) new.inbox.items (put ++ comes.0) (course_behind out comes.1) =
      subst (λ (p : List ℕ). IsStagePlace (stage_of new) new.inbox.items (p ++ comes.0)
      (course_behind out comes.1)) at.2
      (place_behind (stage_of new) new.inbox.items out comes.0 comes.1 comes.4) in
      let says : answer ≡ server_answer_at (course_behind out comes.1) =
      comes.5 ∙ sym (answer_behind out comes.1) in (
        comes.0,
        course_behind out comes.1,
        comes.2,
        (comes.1, here, refl),
        at_place new (put ++ comes.0)
            (course_behind out comes.1) answer over there says,
        λ going. says,
      )

  -- behind an end
  pub continues_still : {H : Type 0} (core : ServerCore H) (put piece out : List ℕ)
      (course : Course Stage ServerEnding) (answer : Result ServerPhase PgWireError)
      → core.over ≡ true → IsAt core put course → WentOn means core core put piece out out course answer
  continues_still core put piece out (Waits stage sent pending) answer over at = let h = at.0 in absurd cc
  continues_still core put piece out (Over ending sent) answer over at = (
    [],
    Over ending sent,
    sym (append-nil out),
    refl,
    (
      at.0,
      at.1,
      at.2
          ∙ sym (append-nil put),
    ),
    λ going. let h = sym going
        ∙ over in absurd cc,
  )

  pub stands_on : {H : Type 0} (begin : Stage) (old new : ServerCore H)
      (given put piece before stage_after : List ℕ) (answer : Result ServerPhase PgWireError)
      → old.over ≡ false → new.over ≡ is_end answer → ServerStands means begin old given put
      → ServerTakesAll means (stage_of old) (old.inbox.items ++ piece) (stage_of new) new.inbox.items before
      stage_after answer
      → (more : List ℕ) × (stage_after ≡ before ++ more)
      × ServerStands means begin new (given ++ piece) (put ++ more)
  stands_on begin old new given put piece before stage_after answer on over stands comes =
      let a = arrives begin old new given put piece before stage_after answer on over stands comes in
      (a.0, a.1, (a.2.0, a.2.1, a.2.2))

  wants_more : (to : Stage) (left put : List ℕ) (course : Course Stage ServerEnding)
      (answer : Result ServerPhase PgWireError)
      → is_end answer ≡ false → answer ≡ server_answer_at course → IsStagePlace to left put course
      → WaitsForMore (serving means) course → stage_front to left ≡ More
  wants_more to left put (Waits stage out pending) answer on is h waiting =
      ap (λ (s : Stage). stage_front s left) (sym h.0) ∙ ap (stage_front stage) (sym h.2) ∙ waiting
  wants_more to left put (Over ending out) answer on is h waiting =
      let ends = ap is_end is ∙ ends_by ending.cause in
      absurd cc

  pub wants : (from to : Stage) (bytes left before stage_after : List ℕ) (answer : Result ServerPhase PgWireError)
      → is_end answer ≡ false → ServerTakesAll means from bytes to left before stage_after answer
      → stage_front to left ≡ More
  wants from to bytes left before stage_after answer on comes =
      wants_more to left comes.0 comes.1 answer on comes.5 comes.4
      (leads_waits (serving means) from bytes comes.1 comes.3)
