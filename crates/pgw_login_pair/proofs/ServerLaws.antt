-- The server's side: where its calls leave it.
use Rattle.std.proofs.Common.{◌≡◌, ◌≢◌, ℕ, ◌+◌, Bool, true, false, List, [], ◌++◌, length, Result, Ok, Err, refl, sym, ap, subst, ◌∙◌, arith}
use Rattle.std.specs.Prelude.{IsTrue, pos}
use Rattle.atomic_table.specs.Seated.{TableId}
use Rattle.pgw_types.specs.declared.error.PgWireError.{PgWireError}
use Rattle.pgw_types.specs.declared.error.PgWireError.TheVariants.{OutOfMemory}
use Rattle.pgw_machine.specs.Course.{Course, Waits, Over, sent_of}
use Rattle.pgw_machine.specs.Play.{Continues, Leads, waits, stops, breaks, ends, goes}
use Rattle.std.specs.FinMap as map
use Rattle.pgw_types.specs.declared.context.ProtocolVersion.TheVariants.{PROTOCOL3_2}
use Rattle.pgw_wire.specs.declared.secret_key.SecretKey.TheVariants.{I32}
use Rattle.pgw_query.specs.declared.response.TransactionStatus.TheVariants.{Idle}
use Rattle.pgw_login.specs.Client.{LoginClient}
use Rattle.pgw_login.specs.DefaultClients.{login_client}
use Rattle.pgw_login.specs.declared.client_info.DefaultClient.{DefaultClient}
use Rattle.pgw_login.specs.declared.state.LoginState.{LoginState}
use Rattle.pgw_login.specs.declared.client_info.PgWireConnectionState.{PgWireConnectionState}
use Rattle.pgw_login.specs.declared.client_info.PgWireConnectionState.TheVariants.{AwaitingSslRequest, ReadyForQuery}
use Rattle.pgw_login_server.specs.Server.{Stage, Cause, ServerEnding, Refused, Asked, begins, stage_front, serving}
use Rattle.pgw_login_server.specs.Stands.{IsAt, ServerStands, WentOn, server_answer_at, cause_result, phase_at}
use Rattle.pgw_login_server.specs.Steps.{is_end}
use Rattle.pgw_login_server.specs.Taken.{Acts}
use Rattle.pgw_login_server.specs.declared.connection.ServerCore.{ServerCore}
use Rattle.pgw_login_server.specs.declared.connection.ServerPhase.{ServerPhase}
use Rattle.pgw_login_server.specs.declared.connection.ServerPhase.TheVariants.{Waiting, Finished, CancelAsked}
use Rattle.pgw_login_pair.specs.declared.parties.ServerEnd.TheVariants as of_server
use Rattle.pgw_login_pair.specs.declared.parties.PairInput.{PairInput}
use Rattle.pgw_login_pair.specs.declared.server_side.ServerSide.{ServerSide}
use Rattle.pgw_login_pair.specs.Parties.{server_end, server_in, server_over}
use Rattle.pgw_login_pair.specs.Sides.{IsFrom, ServerAt, ServerTook, end_in}
use Rattle.pgw_login_pair.specs.World.{first_login, first_stage, party_bytes, unknown}
use Rattle.pgw_login_pair.proofs.Meets.{steady_at}

-- ---- its answer tells where it is

waits_no_end : (state : PgWireConnectionState) → is_end (Ok (phase_at state)) ≡ false
waits_no_end ReadyForQuery = refl
waits_no_end state = refl

over_is_end : (cause : Cause) → is_end (cause_result cause) ≡ true
over_is_end (Refused e) = refl
over_is_end (Asked request) = refl

phase_end : (state : PgWireConnectionState) → end_in (Ok (phase_at state)) ≡ server_in state
phase_end ReadyForQuery = refl
phase_end state = refl

cause_end : (cause : Cause) → end_in (cause_result cause) ≡ server_over cause
cause_end (Refused e) = refl
cause_end (Asked request) = refl

pub not_starved : {b : Bool} {P : Type 0} → (IsTrue b → P) × (P → IsTrue b) → b ≡ false → P → ⊥
not_starved both isnt lacks = let yes = both.1 lacks in absurd cc

pub end_at : (course : Course Stage ServerEnding) → end_in (server_answer_at course) ≡ server_end course
end_at (Waits stage out pending) = phase_end (stage.client).state
end_at (Over ending out) = cause_end ending.cause

pub at_sent : {H : Type 0} (core : ServerCore H) (put : List ℕ) (course : Course Stage ServerEnding)
    → IsAt core put course → put ≡ sent_of course
at_sent core put (Waits stage out pending) at = sym at.2
at_sent core put (Over ending out) at = sym at.2

-- ---- a piece

module _ {H : Type 0} (means : Acts) where
  -- one that has ended takes nothing
  pub ended_took : (side : ServerSide H) (bytes : List ℕ) (count : ℕ) (course : Course Stage ServerEnding)
      → is_end side.answer ≡ true → ServerAt side course → ServerTook means side side bytes count course
  ended_took side bytes count (Waits stage out pending) ended at =
      let both = sym ended ∙ ap is_end at.answer ∙ waits_no_end (stage.client).state in
      absurd cc
  ended_took side bytes count (Over ending out) ended at =
      record { there = Over ending out; goes = refl; taken = omega arith; is_at = at }

  pub went_took : (old new : ServerSide H) (bytes : List ℕ) (count : ℕ) (course : Course Stage ServerEnding)
      (piece : List ℕ) (answer : Result ServerPhase PgWireError)
      → is_end old.answer ≡ false → ServerAt old course
      → WentOn means old.core new.core (old.out).items piece (old.out).items (new.out).items course answer
      → piece ≡ party_bytes count old.taken bytes → new.answer ≡ answer → new.taken ≡ old.taken + length piece
      → answer ≢ Err OutOfMemory → ServerTook means old new bytes count course
  went_took old new bytes count (Waits stage out pending) piece answer going at
      (more, there, puts, went, is_at, answers) is now taken ample = record {
        there = there;
        goes = subst (λ (l : List ℕ). Continues (serving means) (Waits stage out pending) l there) is went;
        taken = taken ∙ ap (λ (l : List ℕ). old.taken + length l) is;
        is_at = record {
          is_at = subst (λ (l : List ℕ). IsAt new.core l there) (sym puts) is_at;
          answer = now ∙ answers (at.is_at).0;
          ample = λ lacks. ample (sym now ∙ lacks);
        };
      }
  went_took old new bytes count (Over ending out) piece answer going at went is now taken ample =
      let both = sym going ∙ ap is_end at.answer ∙ over_is_end ending.cause in
      absurd cc

  pub still_from : (old new : ServerCore H) (piece before after : List ℕ) (begin : Stage)
      → ((begin : Stage) (given put : List ℕ) → ServerStands means begin old given put → (more : List ℕ) ×
      (after ≡ before ++ more) × ServerStands means begin new (given ++ piece) (put ++ more))
      → IsFrom means begin old → IsFrom means begin new
  still_from old new piece before after begin stands (given, put, at) =
      let s = stands begin given put at in
      (given ++ piece, put ++ s.0, s.2)

-- ---- it never ends for want of memory

refused_is : {a b : PgWireError} → of_server.Refused a ≡ of_server.Refused b → a ≡ b
refused_is h = cc

in_memory : (r : Result ServerPhase PgWireError) → end_in r ≡ of_server.Refused OutOfMemory → r ≡ Err OutOfMemory
in_memory (Ok Waiting) h = cc
in_memory (Ok Finished) h = cc
in_memory (Ok (CancelAsked request)) h = cc
in_memory (Err e) h = ap Err (refused_is h)

pub never_starved : {H : Type 0} (side : ServerSide H) (course : Course Stage ServerEnding) → ServerAt side course
    → server_end course ≡ of_server.Refused OutOfMemory → ⊥
never_starved side course at h = at.ample (at.answer ∙ in_memory (server_answer_at course) (end_at course ∙ h))

-- ---- the beginning

waits_first : {H : Type 0} (means : Acts) (core : ServerCore H) (begin : Stage) (bytes : List ℕ)
    (course : Course Stage ServerEnding)
    → bytes ≡ [] → core.over ≡ false → Leads (serving means) begin bytes course → IsAt core [] course
    → IsAt core [] (Waits begin [] [])
waits_first means core begin bytes course none going (waits s bs more) at = (at.0, at.1, at.2, sym none ∙ at.3)
waits_first means core begin bytes course none going (stops s bs why ending bad refuses) at =
    let both = sym going ∙ at.0 in absurd cc
waits_first means core begin bytes course none going (breaks s bs ending b) at =
    let both = sym going ∙ at.0 in absurd cc
waits_first means core begin bytes course none going (ends s bs m len ending out whole step) at =
    let both = sym going ∙ at.0 in absurd cc
waits_first means core begin bytes course none going (goes s party_bytes bs m len out c whole step on) at =
    let both = sym ((steady_at s).none) ∙ ap (stage_front s) (sym none) ∙ whole in absurd cc

stage_is : (generator : TableId) (input : PairInput) (client : LoginClient) (state : LoginState)
    → client ≡ unknown → state ≡ first_login generator input → begins client state ≡ first_stage generator input
stage_is generator input client state new first = ap (λ c. begins c state) new ∙ ap (begins unknown) first

-- a client of which nothing is known
pub new_client : (client : DefaultClient (Unit {0})) (host : List ℕ)
    → client ≡ record {
      host = host;
      is_secure = false;
      protocol_version = PROTOCOL3_2;
      pid_secret_key = (pos 0, I32 (pos 0));
      state = AwaitingSslRequest;
      transaction_status = Idle;
      metadata = map.empty;
      session_extensions = tt;
    }
    → host ≡ [] → login_client client ≡ unknown
new_client client host is none = ap login_client is ∙ ap (λ (h : List ℕ). record unknown { host = h }) none

module _ {H : Type 0} (generator : TableId) (input : PairInput) where
  pub begun_from : (means : Acts) (core : ServerCore H) (client : LoginClient) (state : LoginState)
      → client ≡ unknown → state ≡ first_login generator input
      → ServerStands means (begins client state) core [] [] → IsFrom means (first_stage generator input) core
  begun_from means core client state new first stands = (
    [],
    [],
    subst (λ (s : Stage). ServerStands means s core [] [])
        (stage_is generator input client state new first) stands,
  )

  pub begun_at : (means : Acts) (side : ServerSide H) (client : LoginClient) (state : LoginState)
      → client ≡ unknown → state ≡ first_login generator input → (side.core).over ≡ false → (side.out).items ≡ []
      → side.answer ≡ Ok Waiting
      → ServerStands means (begins client state) side.core [] []
      → ServerAt side (Waits (first_stage generator input) [] [])
  begun_at means side client state new first going puts answer stands =
      let (course, leads, at) =
      subst (λ (s : Stage). ServerStands means s side.core [] [])
      (stage_is generator input client state new first) stands in
      record {
        is_at =
            subst (λ (l : List ℕ). IsAt side.core l (Waits (first_stage generator input) [] [])) (sym puts)
            (waits_first means side.core (first_stage generator input) [] course refl going leads at);
        answer = answer;
        ample = λ lacks. let both = sym answer ∙ lacks in absurd cc;
      }
