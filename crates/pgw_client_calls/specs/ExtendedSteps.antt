-- What the steps of a call of extended queries leave.
use Rattle.std.specs.Prelude.{◌≡◌, ◌⊎◌, ℕ, Bool, true, false, ◌||◌, List, ◌++◌, length, is_some, Result, Ok, Err}
use Rattle.pgw_backend.specs.declared.backend.PgWireBackendMessage.{PgWireBackendMessage as Backend}
use Rattle.pgw_backend.specs.ClientError.{IsUnexpected}
use Rattle.pgw_backend.specs.declared.client_error.PgWireClientError.{PgWireClientError as ClientError}
use Rattle.pgw_backend.specs.declared.client_error.PgWireClientError.TheVariants as client
use Rattle.pgw_session.specs.declared.stage.Kind.{Kind}
use Rattle.pgw_session.specs.declared.stage.Kind.TheVariants as kind
use Rattle.pgw_session.specs.declared.stage.Role.TheVariants.{Taken, Closing, Completing, Failing, Misplaced}
use Rattle.pgw_session.specs.declared.types.Request.{Request}
use Rattle.pgw_session.specs.Requests.{behind_error}
use Rattle.pgw_handlers.specs.Client.{Client, Sight}
use Rattle.pgw_handlers.specs.Handling.{standing, CallAnswer, IsCaused}
use Rattle.pgw_handlers.specs.Extended.{sync, nothing}
use Rattle.pgw_handlers.specs.declared.client_info.ReadyState.{ReadyState}
use Rattle.pgw_handlers.specs.declared.client_info.ReadyState.TheVariants.{Pending, Ready}
use Rattle.pgw_client_calls.specs.declared.gathered.Gathered.{Gathered}
use Rattle.pgw_client_calls.specs.Talk.{fresh, Next, client_after, first_error_of, is_remote, is_refusal}
use Rattle.pgw_client_calls.specs.Line.{Line, Pause, IsFlushed, EndedWell, Halts, AtEnd, Drew, MovesLine}
use Rattle.pgw_client_calls.specs.Reading.{LineGoesOn, PassedOver}
use Rattle.pgw_client_calls.specs.Calls.{IsHalted, PutAll, PutSome}
use Rattle.pgw_client_calls.specs.Extended.{Meaning, call_for, Heeds, RefusesBy, Finish, finish, is_suspended, call_role, Exchange, Requested, in_lists}

-- ---- one message

-- A message was given to its function: it was heeded, or refused, or memory was wanting for what the function gave.
pub data Heeded {H R : Type 0} (M : Meaning H R) (h : H) (c : Client) (g : Gathered (List R))
    (m : Backend) (after : H) (more : Gathered (List R)) : Result (Unit {0}) ClientError
    → Type 0 where
  heeds : Heeds M h c g m after more → Heeded M h c g m after more (Ok tt)
  refuses : (e : ClientError) → RefusesBy M (call_for m) h c after e → IsCaused e 0 0 false
      → Heeded M h c g m after more (Err e)
  wants : Heeded M h c g m after more (Err client.OutOfMemory)

-- as Heeded, and what it tells of the connection was noted.
pub data TookMessage {H R : Type 0} (M : Meaning H R) (h : H) (c : Client) (g : Gathered (List R))
    (m : Backend) (after : H) (info : Client) (more : Gathered (List R)) : Result (Unit {0})
    ClientError
    → Bool → Type 0 where
  takes : Heeds M h c g m after more → info ≡ client_after m c
      → TookMessage M h c g m after info more (Ok tt) false
  refuses : (e : ClientError) → RefusesBy M (call_for m) h c after e → IsCaused e 0 0 false
      → info ≡ c → TookMessage M h c g m after info more (Err e) true
  wants : TookMessage M h c g m after info more (Err client.OutOfMemory) true

-- ---- behind the end of an answer

-- whether Sync is due behind the server's error
abbrev pub is_sync_due : Kind → Bool
is_sync_due k = is_some (behind_error k)

-- no error leaves a usable client
abbrev pub no_error : ClientError → Bool
no_error e = false

-- What becomes of Sync, where it is due.
pub data Synced {H R : Type 0} (M : Meaning H R) (h : H) (c : Client) (old new : Line) (after : H)
    (info : Client) : Bool
    → Result (Unit {0}) ClientError → Bool → Type 0 where
  spares : new ≡ old → after ≡ h → info ≡ c → Synced M h c old new after info false (Ok tt) false
  sends : (s : Sight) → M (standing h (fresh c)) sync (standing after s) (Ok nothing)
      → s.broken ≡ false → PutAll s.wrote old new → info ≡ s.client
      → Synced M h c old new after info true (Ok tt) false
  cuts : (s : Sight) → M (standing h (fresh c)) sync (standing after s) (Ok nothing)
      → s.broken ≡ false → PutSome s.wrote old new → info ≡ s.client
      → Synced M h c old new after info true (Err client.IoError) true
  refuses : (s : Sight) (e : ClientError)
      → M (standing h (fresh c)) sync (standing after s) (Err e) → IsCaused e 0 0 s.broken
      → s.broken ≡ false → new ≡ old → info ≡ s.client
      → Synced M h c old new after info true (Err e) true
  wants : new ≡ old → Synced M h c old new after info true (Err client.OutOfMemory) true

-- the answer of messages that were passed over
abbrev pub passed_answer : ClientError → Bool → CallAnswer Bool
passed_answer client.UnexpectedEOF false = Ok (Ready false)
passed_answer e broken = Err e

-- Sync was sent where it is due, and then messages were passed over.
pub data SettlesSync {H R : Type 0} (M : Meaning H R) (due : Bool) (h : H) (c : Client)
    (old new : Line) (e : ClientError) (handler : H) (info : Client) : CallAnswer Bool
    → Bool → Type 0 where
  stops : (x : ClientError) → Synced M h c old new handler info due (Err x) true
      → SettlesSync M due h c old new e handler info (Err x) true
  passes : (mid : Line) (between : Client) (x : ClientError) (broken was : Bool)
      → Synced M h c old mid handler between due (Ok tt) was
      → PassedOver e between mid new x info broken
      → SettlesSync M due h c old new e handler info (passed_answer x broken) broken

-- ---- the messages of a call

-- what becomes of a taken message's error, and of the last one's
abbrev pub state_or_error : ReadyState Bool → Result (Unit {0}) ClientError → CallAnswer Bool
state_or_error state (Ok done) = Ok state
state_or_error state (Err e) = Err e

-- What becomes of a message by its place.
pub data HeededOne {H R : Type 0} (M : Meaning H R) (k : Kind) (h : H) (c : Client)
    (g : Gathered (List R)) (m : Backend) (old new : Line) (handler : H) (info : Client)
    (more : Gathered (List R)) : CallAnswer Bool
    → Bool → Type 0 where
  takes : (rows : Bool) (r : Result (Unit {0}) ClientError) (broken : Bool)
      → call_role k m ≡ Taken rows → TookMessage M h c g m handler info more r broken → new ≡ old
      → HeededOne M k h c g m old new handler info more (state_or_error Pending r) broken
  closes : (r : Result (Unit {0}) ClientError) (broken : Bool) → call_role k m ≡ Closing
      → TookMessage M h c g m handler info more r broken → new ≡ old
      → HeededOne M k h c g m old new handler info more
      (state_or_error (Ready (is_suspended m)) r) broken
  stops : (e : ClientError) (broken : Bool) → call_role k m ≡ Completing
      → TookMessage M h c g m handler info more (Err e) broken → new ≡ old
      → HeededOne M k h c g m old new handler info more (Err e) broken
  completes : (after : H) (between : Client) (answer : CallAnswer Bool) (was broken : Bool)
      → call_role k m ≡ Completing → TookMessage M h c g m after between more (Ok tt) was
      → SettlesSync M true after between old new client.UnexpectedEOF handler info answer broken
      → HeededOne M k h c g m old new handler info more answer broken
  fails : (answer : CallAnswer Bool) (broken : Bool) → call_role k m ≡ Failing
      → SettlesSync M (is_sync_due k) h c old new (first_error_of client.UnexpectedEOF m) handler
      info answer broken
      → more ≡ g
      → HeededOne M k h c g m old new handler info more answer broken
  misplaced : (e : ClientError) → call_role k m ≡ Misplaced → IsUnexpected m e → handler ≡ h
      → info ≡ c → new ≡ old → HeededOne M k h c g m old new handler info more (Err e) true

-- a message was taken, and the call goes on
pub record TookOne {H R : Type 0} (M : Meaning H R) (k : Kind) (h : H) (c : Client)
    (g : Gathered (List R)) (old new : Line) (handler : H) (info : Client)
    (more : Gathered (List R)) : Type 0 where
  pub taken : List ℕ
  pub message : Backend
  pub rows : Bool
  pub drew : Drew old new taken
  pub next : Next c (old.buffer ++ taken) message new.buffer
  pub takes : call_role k message ≡ Taken rows
  pub heeds : Heeds M h c g message handler more
  pub info_is : info ≡ client_after message c
  pub goes_on : LineGoesOn old new

-- messages were taken up to the call's end
pub record LineExchange {H R : Type 0} (M : Meaning H R) (k : Kind) (h : H) (c : Client)
    (g : Gathered (List R)) (old new : Line) (last : Finish H R) : Type 0 where
  pub taken : List ℕ
  pub sent : List ℕ
  pub moved : MovesLine old new taken sent
  pub exchange : Exchange M (Pause old new) k h c g (old.buffer ++ taken) sent last
  pub flushed : last.broken ≡ false → IsFlushed new
  pub well : EndedWell old new ⊎ (last.answer ≡ Err client.IoError)
  pub halts : Halts last.info (length new.tape.wrote) old new
  pub at_end : AtEnd old new (IsHalted is_remote last.answer last.broken)

-- one message was taken: the call goes on, or has ended, and this says whether the portal was suspended
abbrev pub HeededNext : {H R : Type 0} → Meaning H R → Kind → H → Client → Gathered (List R)
    → Line → Line → H → Client → Gathered (List R) → Bool → CallAnswer Bool → Type 0
HeededNext M k h c g old new handler info more broken (Ok Pending) =
    TookOne M k h c g old new handler info more × (broken ≡ false)
HeededNext M k h c g old new handler info more broken (Ok (Ready suspended)) =
    LineExchange M k h c g old new (finish (Ok (more, suspended)) handler info broken new.buffer)
HeededNext M k h c g old new handler info more broken (Err e) =
    LineExchange M k h c g old new (finish (Err e) handler info broken new.buffer)

-- as HeededNext, behind some rows: the call goes on from there as it does from the beginning, or has ended
abbrev pub HeededOn : {H R : Type 0} → Meaning H R → Kind → H → Client → Gathered (List R) → Line
    → Line → H → Client → Gathered (List R) → Bool → CallAnswer Bool → Type 0
HeededOn {H = H} {R = R} M k h c g old new handler info more broken (Ok Pending) =
    ((final : Line) (last : Finish H R) → LineExchange M k handler info more new final last →
    LineExchange M k h c g old final last) × (broken ≡ false)
HeededOn M k h c g old new handler info more broken (Ok (Ready suspended)) =
    LineExchange M k h c g old new (finish (Ok (more, suspended)) handler info broken new.buffer)
HeededOn M k h c g old new handler info more broken (Err e) =
    LineExchange M k h c g old new (finish (Err e) handler info broken new.buffer)

-- in these a handler is asked to take rows together
abbrev pub takes_rows : Kind → Bool
takes_rows kind.Execute = true
takes_rows kind.Query = true
takes_rows k = false

-- ---- a call

-- the errors that can leave a usable client: the server's, and a refused opening
abbrev pub may_stay : ClientError → Bool
may_stay e = is_remote e || is_refusal e

-- A request was asked and answered.
pub record MakesCall {H R : Type 0} (M : Meaning H R) (q : Request) (h : H) (c : Client)
    (old new : Line) (last : Finish H R) : Type 0 where
  pub taken : List ℕ
  pub sent : List ℕ
  pub moved : MovesLine old new taken sent
  pub requested : Requested M (Pause old new) q h c (old.buffer ++ taken) sent last
  pub flushed : last.broken ≡ false → IsFlushed new
  pub well : EndedWell old new ⊎ (last.answer ≡ Err client.IoError)
  pub halts : Halts last.info (length new.tape.wrote) old new
  pub at_end : AtEnd old new (IsHalted is_remote last.answer last.broken)

-- the answer made of what was gathered
abbrev pub gathered_as : {S A : Type 0} → (Gathered S → Bool → A)
    → Result (Gathered S × Bool) ClientError → Result A ClientError
gathered_as give (Ok x) = Ok (give x.0 x.1)
gathered_as give (Err e) = Err e

-- as gathered_as, for a call that makes its own answer of what was gathered, in which `listed` says what the responses are.
pub record AnswersGathered {H R S A : Type 0} (M : Meaning H R) (listed : S → List R)
    (q : Request)
    (give : Gathered S → Bool → A) (h : H) (c : Client) (old new : Line) (handler : H)
    (info : Client)
    (broken : Bool) (result : Result A ClientError) : Type 0 where
  pub answer : Result (Gathered S × Bool) ClientError
  pub gives : result ≡ gathered_as give answer
  pub called : MakesCall M q h c old new
      (finish (in_lists listed answer) handler info broken new.buffer)
