-- What a session over a link answers, and why.
use Rattle.std.specs.Prelude.{◌≡◌, ◌⊎◌, ◌<◌, ◌≤◌, ℕ, ◌+◌, List, [], ◌∷◌, ◌++◌, length, Some, None, Result, Ok, Err, IsErrOf}
use Rattle.pgw_types.specs.Counts.{Rose}
use Rattle.pgw_link.specs.Tape.{Tape, MovedBy}
use Rattle.pgw_backend.specs.declared.client_error.PgWireClientError.{PgWireClientError as ClientError}
use Rattle.pgw_backend.specs.declared.client_error.PgWireClientError.TheVariants as client
use Rattle.pgw_session.specs.declared.types.SessionReport.{SessionReport}
use Rattle.pgw_session.specs.Demands.{refused_config}
use Rattle.pgw_session.specs.Input.{Input}
use Rattle.pgw_session.specs.Failures.{BytesTell, HasNoPlace, IsRefused, LeftWith, Unreadable, Unsendable, IsHopeless, IsUnfinished, WaitsStill}

-- the count of faults never falls, and IoError is answered only where it rose
pub record IoHasCause {T : Type 0} (before now : ℕ) (result : Result T ClientError) : Type 0 where
  pub later : before ≤ now
  pub io : IsErrOf result client.IoError → Rose before now

-- the answer is this report, or memory was wanting
abbrev pub AnswersReport : SessionReport → Result SessionReport ClientError → Type 0
AnswersReport report (Ok answer) = answer ≡ report
AnswersReport report (Err e) = e ≡ client.OutOfMemory

-- no more was read than the limit, with one read more than bytes at most, and one write more than bytes
pub record KeepsPace (limit : ℕ) (old new : Tape) (taken sent : List ℕ) : Type 0 where
  pub within : length taken ≤ limit
  pub reads : new.reads ≤ old.reads + length taken + 1
  pub writes : new.writes ≤ old.writes + length sent + 1

-- ---- what was written

-- of what is due all was written, but for IoError and want of memory, which may leave a rest
abbrev pub LeavesUnsent : Result SessionReport ClientError → List ℕ → Type 0
LeavesUnsent (Err client.IoError) unsent = Unit {0}
LeavesUnsent (Err client.OutOfMemory) unsent = Unit {0}
LeavesUnsent result unsent = unsent ≡ []

-- what the bytes taken tell, and what was written of all that is to be sent by then
abbrev pub TellsSession : Input → Result SessionReport ClientError → List ℕ → List ℕ → Type 0
TellsSession input result taken sent =
    (unsent : List ℕ) × BytesTell input taken (sent ++ unsent) × LeavesUnsent result unsent

-- what a call wrote was flushed, if it wrote anything
abbrev pub FlushesSession : Tape → Tape → Type 0
FlushesSession old new =
    ((new.wrote ≡ old.wrote) × (new.flushed ≡ old.flushed)) ⊎ (new.flushed ≡ length new.wrote)

-- whatever the answer, but after IoError
abbrev pub LeavesFlushed : {T : Type 0} → Tape → Tape → Result T ClientError → Type 0
LeavesFlushed old new result = (IsErrOf result client.IoError → ⊥) → FlushesSession old new

-- the link's end was not answered; or it was once, all that is written had been flushed, and a message was still awaited
abbrev pub InLockstep : Input → Tape → Tape → Type 0
InLockstep input old new =
    (new.ended ≡ old.ended)
    ⊎ ((new.ended ≡ old.ended ++ length new.wrote ∷ []) × MovedBy old new (WaitsStill input))

-- ---- causes

-- the link has ended: it was asked for more, since fewer bytes than the limit were taken, and answered its end
pub record HasEnded (limit : ℕ) (taken : List ℕ) (old new : Tape) : Type 0 where
  pub below : length taken < limit
  pub asked : (n : ℕ) × (new.ended ≡ old.ended ++ n ∷ [])

-- not all that the bytes taken make due was written and flushed; before is how many bytes were written before the call
abbrev pub Unflushed : Input → List ℕ → List ℕ → ℕ → ℕ → Type 0
Unflushed input taken sent before flushed =
    (unsent : List ℕ) × BytesTell input taken (sent ++ unsent)
    × (flushed < before + length (sent ++ unsent))

-- The cause of each error, where these bytes were taken and written. No other error comes.
abbrev pub ErrorCause : Input → ℕ → Tape → Tape → List ℕ → List ℕ → ClientError → Type 0
ErrorCause input limit old new taken sent client.OutOfMemory = Unit {0}
ErrorCause input limit old new taken sent (client.InvalidConfig key) =
    ((refused_config input.config ≡ Some key) × (taken ≡ []) × (sent ≡ []))
    ⊎ ((refused_config input.config ≡ None) × IsRefused input taken sent
    (client.InvalidConfig key))
ErrorCause input limit old new taken sent client.UnexpectedEOF =
    LeftWith input taken sent None × IsUnfinished input taken × HasEnded limit taken old new
ErrorCause input limit old new taken sent client.IoError =
    Unflushed input taken sent (length old.wrote) new.flushed ⊎ WaitsStill input taken sent
ErrorCause input limit old new taken sent client.ReadLimit =
    WaitsStill input taken sent × (length taken ≡ limit)
ErrorCause input limit old new taken sent (client.PgWireError why) =
    ((Unreadable input taken sent why ⊎ Unsendable input taken sent why) × IsHopeless input taken)
    ⊎ IsRefused input taken sent (client.PgWireError why)
ErrorCause input limit old new taken sent (client.UnexpectedMessage m) =
    HasNoPlace input (HasEnded limit taken old new) taken sent m × IsHopeless input taken
ErrorCause input limit old new taken sent (client.RemoteError e) =
    IsRefused input taken sent (client.RemoteError e)
    ⊎ (LeftWith input taken sent (Some e) × IsUnfinished input taken × HasEnded limit taken
    old new)
ErrorCause input limit old new taken sent (client.ScramError fault) =
    IsRefused input taken sent (client.ScramError fault)
ErrorCause input limit old new taken sent (client.UnsupportedSASLAuthMethods methods) =
    IsRefused input taken sent (client.UnsupportedSASLAuthMethods methods)
ErrorCause input limit old new taken sent e = ⊥

abbrev pub Causes : Input → ℕ → Tape → Tape → Result SessionReport ClientError → Type 0
Causes input limit old new (Ok report) = Unit {0}
Causes input limit old new (Err e) =
    MovedBy old new (λ taken sent. ErrorCause input limit old new taken sent e)
