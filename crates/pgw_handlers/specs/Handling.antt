-- What a handler means, and what holds of each of its calls.
use Rattle.std.specs.Prelude.{◌≡◌, ◌≤◌, ℕ, Bool, true, false, Result, Ok, Err}
use Rattle.pgw_types.specs.Counts.{Rose}
use Rattle.pgw_startup.specs.declared.parameter_status.ParameterStatus.{ParameterStatus}
use Rattle.pgw_query.specs.declared.notification.NotificationResponse.{NotificationResponse}
use Rattle.pgw_backend.specs.declared.backend.PgWireBackendMessage.{PgWireBackendMessage as Backend}
use Rattle.pgw_backend.specs.declared.backend.PgWireBackendMessage.TheVariants as backend
use Rattle.pgw_backend.specs.declared.client_error.PgWireClientError.{PgWireClientError as ClientError}
use Rattle.pgw_backend.specs.declared.client_error.PgWireClientError.TheVariants as client
use Rattle.pgw_backend.specs.ClientError.{IsUnexpected}
use Rattle.pgw_handlers.specs.declared.client_info.ReadyState.{ReadyState}
use Rattle.pgw_handlers.specs.declared.client_info.ReadyState.TheVariants.{Pending, Ready}
use Rattle.pgw_handlers.specs.Client.{Sight, with_parameter}

-- a handler and what it sees
pub record HandlerView (H : Type 0) : Type 0 where
  pub handler : H
  pub sight : Sight

abbrev pub standing : {H : Type 0} → H → Sight → HandlerView H
standing h s = record { handler = h; sight = s }

-- what a call of any function of a handler answers: it goes on, or this is the outcome
abbrev pub CallAnswer : Type 0 → Type 0
CallAnswer A = Result (ReadyState A) ClientError

abbrev pub pending : {T A : Type 0} → Result T ClientError → CallAnswer A
pending (Ok x) = Ok Pending
pending (Err e) = Err e

abbrev pub ready_answer : {A : Type 0} → Result A ClientError → CallAnswer A
ready_answer (Ok x) = Ok (Ready x)
ready_answer (Err e) = Err e

-- hearing is over exactly behind a ReadyForQuery
abbrev pub EndsAtReady : {A : Type 0} → Backend → ReadyState A → Type 0
EndsAtReady (backend.ReadyForQuery m) (Ready x) = Unit {0}
EndsAtReady (backend.ReadyForQuery m) Pending = ⊥
EndsAtReady m (Ready x) = ⊥
EndsAtReady m Pending = Unit {0}

-- ---- what every handler does with some messages

-- nothing is done
abbrev pub HandlerStays : {H A : Type 0} → HandlerView H → HandlerView H → CallAnswer A → Type 0
HandlerStays before after answer = (after ≡ before) × (answer ≡ Ok Pending)

-- nothing is done, and the answer is such an error
abbrev pub IsRefusal : {A : Type 0} → (ClientError → Type 0) → CallAnswer A → Type 0
IsRefusal P (Ok x) = ⊥
IsRefusal P (Err e) = P e

abbrev pub HandlerRefuses : {H A : Type 0} → (ClientError → Type 0) → HandlerView H
    → HandlerView H → CallAnswer A → Type 0
HandlerRefuses P before after answer = (after ≡ before) × IsRefusal P answer

-- a parameter that the server reports is the client's from then on, unless memory runs out
abbrev pub KeepsParameter : {H A : Type 0} → ParameterStatus → HandlerView H → HandlerView H
    → CallAnswer A → Type 0
KeepsParameter m before after (Ok answer) =
    (after ≡ standing before.handler (with_parameter m.name m.value before.sight))
    × (answer ≡ Pending)
KeepsParameter m before after (Err e) = (after ≡ before) × (e ≡ client.OutOfMemory)

-- a notification has no place
abbrev pub HandlerMisplaces : {H A : Type 0} → NotificationResponse → HandlerView H
    → HandlerView H → CallAnswer A →
    Type 0
HandlerMisplaces m before after answer =
    HandlerRefuses (IsUnexpected (backend.NotificationResponse m)) before after answer

-- ---- causes, told or not

-- IoError comes only where the count of faults rose, and Broken only from a client that an error has left so
abbrev pub IsCaused : ClientError → ℕ → ℕ → Bool → Type 0
IsCaused client.IoError before now broken = Rose before now
IsCaused client.Broken before now broken = broken ≡ true
IsCaused e before now broken = Unit {0}

abbrev pub OfError : {T : Type 0} → Result T ClientError → ℕ → ℕ → Bool → Type 0
OfError (Ok x) before now broken = Unit {0}
OfError (Err e) before now broken = IsCaused e before now broken

pub record HasCause {T : Type 0} (before now : ℕ) (broken : Bool) (result : Result T ClientError)
    : Type 0 where
  pub later : before ≤ now
  pub failed : OfError result before now broken

-- of a call that sees no client: its error is not of a link that failed, nor of a client that is unusable
abbrev pub HasOwnCause : {T : Type 0} → Result T ClientError → Type 0
HasOwnCause result = (faults : ℕ) → HasCause faults faults false result

-- What a call leaves of a client, by what the client tells of itself before and behind it.
pub record Leaves {C Own Rest T : Type 0} (own_of : C → Own) (rest_of : C → Rest)
    (faults : C → ℕ) (sight : C → Sight) (old new : C) (result : Result T ClientError)
    : Type 0 where
  -- what no handler changes of the client itself is as it was,
  pub own : own_of new ≡ own_of old
  -- and of its link too.
  pub rest : rest_of new ≡ rest_of old
  -- The count of faults does not fall, and an error has its cause.
  pub cause : HasCause (faults old) (faults new) (sight new).broken result
