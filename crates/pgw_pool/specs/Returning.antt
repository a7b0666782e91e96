-- What becomes of a session that is given back.
use Rattle.std.specs.Prelude.{◌≡◌, ◌≢◌, ◌⊎◌, ℕ, Bool, true, false, List, [], ◌∷◌, ◌++◌, length, Option, Result, Ok, Err}
use Rattle.pgw_query.specs.declared.response.TransactionStatus.{TransactionStatus}
use Rattle.pgw_query.specs.declared.response.TransactionStatus.TheVariants.{Idle}
use Rattle.pgw_backend.specs.declared.client_error.PgWireClientError.{PgWireClientError as ClientError}
use Rattle.pgw_backend.specs.declared.client_error.PgWireClientError.TheVariants as client
use Rattle.pgw_types.specs.Counts.{next_count}
use Rattle.pgw_config.specs.declared.config.Config.{Config}
use Rattle.pgw_session.specs.declared.types.Request.{Request}
use Rattle.pgw_session.specs.declared.types.Response.{Response}
use Rattle.pgw_session.specs.declared.types.Answer.TheVariants as answer
use Rattle.pgw_session.specs.Events.{Event}
use Rattle.pgw_handlers.specs.Handling.{HasCause}
use Rattle.pgw_client_calls.specs.Line.{MovesLine, Pause, IsFlushed, EndedWell, Halts, AtEnd, Foretold, StaysWithin}
use Rattle.pgw_client_calls.specs.Talk.{passes}
use Rattle.pgw_client_calls.specs.Calls.{IsHalted}
use Rattle.pgw_client_laws.specs.Turns.{IsAnswered, IsPassedSegment}
use Rattle.pgw_client_laws.specs.Calls.{Comes}
use Rattle.pgw_client_laws.specs.Stands.{Made, made_call, StandsForCalls, StandsBehind}
use Rattle.pgw_pool.specs.declared.returned.Returned.{Returned}
use Rattle.pgw_pool.specs.declared.returned.Returned.TheVariants.{Kept, Dropped}
use Rattle.pgw_pool.specs.declared.returned.DropCause.{DropCause}
use Rattle.pgw_pool.specs.declared.returned.DropCause.TheVariants as cause
use Rattle.pgw_pool.specs.Histories.{History, Lent, View, reset, with_lease, made_over, IsResetIn, StandsBy, AreIdle}
use Rattle.pgw_pool.specs.Lending.{IsCutLease}

-- ---- by the answer of the reset

-- the cause by the reset's error: the server's is a refusal, where the client can still be used
abbrev pub cause_of : ClientError → Bool → DropCause
cause_of client.OutOfMemory broken = cause.OutOfMemory
cause_of (client.RemoteError e) false = cause.Refused e
cause_of e broken = cause.Failed e

-- responses keep the session where the status behind them is Idle
abbrev pub kept_by : TransactionStatus → Returned
kept_by Idle = Kept
kept_by status = Dropped (cause.Status status)

abbrev pub returned_by : Result (List Response) ClientError → TransactionStatus → Bool → Returned
returned_by (Ok rs) status broken = kept_by status
returned_by (Err e) status broken = Dropped (cause_of e broken)

-- A simple query was asked of a session, and answered so.
pub record IsAskedIn (q : Request) (old now : View) (a : Result (List Response) ClientError)
    : Type 0 where
  -- one that an earlier error left unusable is asked nothing
  pub broken : old.broken ≡ true → (a ≡ Err client.Broken) × (now ≡ old)
  -- else the answer is its own segment's, or the error has its reason
  pub comes : old.broken ≡ false → (taken sent : List ℕ) × MovesLine old.line now.line taken sent
      × Comes answer.Responses (Pause old.line now.line) q old.client
      (old.line.buffer ++ taken) sent now.client now.line.buffer a now.broken
  -- and whatever the session stood for, it stands for the query besides
  pub stands : old.broken ≡ false → (config : Config) (nonce : List ℕ) (ts : List Made)
      (read wrote : List ℕ)
      → StandsForCalls config nonce ts read wrote old.client old.line.buffer →
      (taken sent : List ℕ) × MovesLine old.line now.line taken sent
      × (now.broken ≡ false → IsFlushed now.line)
      × StandsBehind answer.Responses config nonce ts q (read ++ taken) (wrote ++ sent)
      now.client now.line.buffer a now.broken
  -- behind any answer but IoError no call of the link failed, and all that was written is flushed
  pub well : old.broken ≡ false → EndedWell old.line now.line ⊎ (a ≡ Err client.IoError)
  -- the link's end was answered at most once, where a message was awaited and all was flushed, and
  -- then it is the answer, or the error behind which messages were passed over
  pub halts : old.broken ≡ false → Halts now.client (length now.line.tape.wrote) old.line now.line
  pub at_end : old.broken ≡ false → AtEnd old.line now.line (IsHalted passes a now.broken)
  -- IoError comes only where a call of the link failed
  pub cause : HasCause old.line.faults now.line.faults old.broken a
  -- and no more is read than the session's limit
  pub within : StaysWithin old.line now.line

-- so was the reset
abbrev pub IsAsked : View → View → Result (List Response) ClientError → Type 0
IsAsked old now a = IsAskedIn reset old now a

-- a session that is kept is idle from now on, behind all others
abbrev pub idle_behind : List View → View → Returned → List View
idle_behind idle last Kept = idle ++ last ∷ []
idle_behind idle last (Dropped why) = idle

-- The session was asked the reset, and by its answer it is kept or dropped.
abbrev pub GivesBack : View → List View → List View → Returned → Type 0
GivesBack old idle now result =
    (last : View) × (a : Result (List Response) ClientError) × IsAsked old last a
    × (result ≡ returned_by a last.client.transaction_status last.broken)
    × (now ≡ idle_behind idle last result)

-- how many sessions were dropped then
abbrev pub dropped_behind : ℕ → Returned → ℕ
dropped_behind dropped Kept = dropped
dropped_behind dropped (Dropped why) = next_count dropped

-- what the links of the idle sessions have to come then
abbrev pub lefts_behind : List (Option (List ℕ)) → Option (List ℕ) → Returned →
    List (Option (List ℕ))
lefts_behind lefts left Kept = lefts ++ left ∷ []
lefts_behind lefts left (Dropped why) = lefts

-- as lefts_behind, over a link that knows what is to come: what it gave for the reset is the front of that,
-- and where it answered its end, nothing was left. So no other answer of the reset is the cause than
-- one that these bytes have, or a fault of the link's, or want of memory.
pub record GivesForetold (was : Option (List ℕ)) (old : View) (idle now : List View)
    (lefts left_now : List (Option (List ℕ))) (result : Returned) : Type 0 where
  pub last : View
  pub is : Option (List ℕ)
  pub answer : Result (List Response) ClientError
  pub asked : IsAsked old last answer
  pub foretold : Foretold was is old.line.tape last.line.tape
  pub by : result ≡ returned_by answer last.client.transaction_status last.broken
  pub idle_now : now ≡ idle_behind idle last result
  pub lefts_now : left_now ≡ lefts_behind lefts is result

-- ---- by what was done over the session

-- this query was made behind the lease, whose events are so
abbrev pub LeaseEndsBy : Request → History → Lent → (List Event → Type 0) → View → Type 0
LeaseEndsBy q h l property v =
    (es : List Event) × property es
    × StandsBy h (made_over h.over ++ (l.made ++ made_call q es ∷ [])) v

-- The query came to this error: a message without place, behind which the others were passed over;
-- or one that left the session unusable.
abbrev pub FailsBy : Request → History → Lent → View → Bool → ClientError → Type 0
FailsBy q h l v false (client.UnexpectedMessage m) = LeaseEndsBy q h l (IsPassedSegment q m) v
FailsBy q h l v true e = IsCutLease h l q e v
FailsBy q h l v broken e = ⊥

-- What a session stands for that is dropped by an error of the query. Want of memory is a cause of its
-- own.
abbrev pub IsFailed : Request → History → Lent → DropCause → View → Type 0
IsFailed q h l (cause.Refused e) v = LeaseEndsBy q h l (IsAnswered q (answer.Remote e)) v
IsFailed q h l (cause.Failed client.OutOfMemory) v = ⊥
IsFailed q h l (cause.Failed e) v = FailsBy q h l v v.broken e
IsFailed q h l cause.OutOfMemory v = IsCutLease h l q client.OutOfMemory v
IsFailed q h l (cause.Status status) v = ⊥

-- What a session stands for that is dropped by this cause: a transaction was open behind its reset, or
-- the reset failed.
abbrev pub IsDropped : History → Lent → DropCause → View → Type 0
IsDropped h l (cause.Status status) v =
    LeaseEndsBy reset h l (IsResetIn status) v × (status ≢ Idle)
IsDropped h l why v = IsFailed reset h l why v

-- The lease is over: its session is idle behind these; or they alone are, and it is dropped.
abbrev pub GivenBack : ℕ → List History → History → Lent → List View → Returned → Type 0
GivenBack lent hs h l idle Kept =
    (es : List Event) × AreIdle lent (hs ++ with_lease h l es ∷ []) idle
GivenBack lent hs h l idle (Dropped why) =
    AreIdle lent hs idle × ((last : View) × IsDropped h l why last)

-- A session is dropped that stands for this; over its link the reset alone had moved bytes since the
-- lease.
abbrev pub DropsFrom : History → Lent → View → Returned → Type 0
DropsFrom h l old Kept = Unit {0}
DropsFrom h l old (Dropped why) =
    (last : View) × IsDropped h l why last
    × ((taken sent : List ℕ) × MovesLine old.line last.line taken sent)
