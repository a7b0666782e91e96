-- What was done over the sessions of a pool.
use Rattle.std.specs.Prelude.{◌≡◌, ◌<◌, ◌≤◌, ℕ, Bool, false, List, [], ◌∷◌, ◌++◌, codes}
use Rattle.pgw_query.specs.declared.response.ReadyForQuery.{ReadyForQuery}
use Rattle.pgw_query.specs.declared.response.TransactionStatus.{TransactionStatus}
use Rattle.pgw_query.specs.declared.response.TransactionStatus.TheVariants.{Idle}
use Rattle.pgw_backend.specs.declared.backend.PgWireBackendMessage.TheVariants as backend
use Rattle.pgw_config.specs.declared.config.Config.{Config}
use Rattle.pgw_session.specs.declared.types.Request.{Request}
use Rattle.pgw_session.specs.declared.types.Request.TheVariants as request
use Rattle.pgw_session.specs.declared.types.Response.{Response}
use Rattle.pgw_session.specs.declared.types.Response.TheVariants.{EmptyQuery}
use Rattle.pgw_session.specs.declared.types.Answer.TheVariants as answer
use Rattle.pgw_session.specs.Events.{Event, Got}
use Rattle.pgw_handlers.specs.Client.{Client}
use Rattle.pgw_client_calls.specs.Line.{Line, IsFlushed}
use Rattle.pgw_client_laws.specs.Turns.{IsAnswered}
use Rattle.pgw_client_laws.specs.Stands.{Made, made_call, events_of, StandsForCalls}

-- ---- leases

-- a lease: its number, and the requests that were made in it
pub record Lent : Type 0 where
  pub number : ℕ
  pub made : List Made

-- what was done over an idle session: a lease, with the events of the reset behind it; or a check
-- whether it still answers, with its events
pub data Over : Type 0 where
  ended : (lease : Lent) (reset : List Event) → Over
  checked : (check : List Event) → Over

-- a session: what it logged in with, and its leases that are over and its checks, in their order
pub record History : Type 0 where
  pub config : Config
  pub nonce : List ℕ
  pub over : List Over

-- a session that was never lent
abbrev pub new_history : Config → List ℕ → History
new_history config nonce = record { config = config; nonce = nonce; over = [] }

-- a lease in which nothing was asked yet
abbrev pub lent_as : ℕ → Lent
lent_as number = record { number = number; made = [] }

-- the lease with one request more
abbrev pub with_request : Lent → Request → List Event → Lent
with_request l q es = record { number = l.number; made = l.made ++ made_call q es ∷ [] }

-- the session with one more lease that is over
abbrev pub with_lease : History → Lent → List Event → History
with_lease h l es = record {
  config = h.config;
  nonce = h.nonce;
  over = h.over ++ ended l es ∷ [];
}

-- the session with one more check
abbrev pub with_check : History → List Event → History
with_check h es = record {
  config = h.config;
  nonce = h.nonce;
  over = h.over ++ checked es ∷ [];
}

-- ---- their requests

-- what is asked at the end of a lease
abbrev pub reset : Request
reset = request.Simple (codes "DISCARD ALL")

-- what is asked to check a session
abbrev pub check : Request
check = request.Simple (codes "")

-- those of each lease, and a reset behind them; and those of the checks
abbrev pub made_in : Over → List Made
made_in (ended l es) = l.made ++ made_call reset es ∷ []
made_in (checked es) = made_call check es ∷ []

abbrev pub made_over : List Over → List Made
made_over [] = []
made_over (o ∷ os) = made_in o ++ made_over os

-- the last message that was got is ReadyForQuery, of this status
abbrev pub EndsInStatus : TransactionStatus → List Event → Type 0
EndsInStatus status es =
    (front : List Event) × (m : ReadyForQuery)
    × (es ≡ front ++ Got (backend.ReadyForQuery m) ∷ [])
    × (m.status ≡ status)

-- a reset was answered by responses, and this was the status behind it
abbrev pub IsResetIn : TransactionStatus → List Event → Type 0
IsResetIn status es =
    (rs : List Response) × IsAnswered reset (answer.Responses rs) es × EndsInStatus status es

abbrev pub IsReset : List Event → Type 0
IsReset es = IsResetIn Idle es

-- a check was answered by one empty query, and this was the status behind it
abbrev pub IsCheckedIn : TransactionStatus → List Event → Type 0
IsCheckedIn status es =
    IsAnswered check (answer.Responses (EmptyQuery ∷ [])) es × EndsInStatus status es

abbrev pub IsChecked : List Event → Type 0
IsChecked es = IsCheckedIn Idle es

abbrev pub IsOver : Over → Type 0
IsOver (ended l es) = IsReset es
IsOver (checked es) = IsChecked es

abbrev pub AreReset : List Over → Type 0
AreReset [] = Unit {0}
AreReset (o ∷ os) = IsOver o × AreReset os

-- the next lease begins with status Idle, unless nothing was done before it
abbrev pub BeginsIdle : List Over → Type 0
BeginsIdle [] = Unit {0}
BeginsIdle (o ∷ os) = EndsInStatus Idle (events_of (made_over (o ∷ os)))

-- the leases' numbers ascend: the first is above `low`, and none is above `high`
abbrev pub LeasesAscend : ℕ → List Over → ℕ → Type 0
LeasesAscend low [] high = low ≤ high
LeasesAscend low (ended l es ∷ os) high = (low < l.number) × LeasesAscend l.number os high
LeasesAscend low (checked es ∷ os) high = LeasesAscend low os high

-- ---- sessions

-- what is seen of a client: what it knows, its link with what was read of it and not taken yet, and
-- whether an earlier error left it unusable
pub record View : Type 0 where
  pub client : Client
  pub line : Line
  pub broken : Bool

-- the session's login and these requests were made, over all the bytes that its link gave and took
abbrev pub StandsBy : History → List Made → View → Type 0
StandsBy h ts v =
    StandsForCalls h.config h.nonce ts v.line.tape.took v.line.tape.wrote v.client v.line.buffer

-- An idle session of a pool that has lent so many leases: each of its own is over.
pub record IsIdleInPool (lent : ℕ) (h : History) (v : View) : Type 0 where
  pub stands : StandsBy h (made_over h.over) v
  pub resets : AreReset h.over
  pub ascend : LeasesAscend 0 h.over lent
  pub usable : v.broken ≡ false
  pub flushed : IsFlushed v.line

-- the idle sessions, in order
abbrev pub AreIdle : ℕ → List History → List View → Type 0
AreIdle lent [] [] = Unit {0}
AreIdle lent (h ∷ hs) (v ∷ vs) = IsIdleInPool lent h v × AreIdle lent hs vs
AreIdle lent hs vs = ⊥

-- A session that is lent: its leases before this one are over, and have lower numbers.
pub record IsLent (h : History) (l : Lent) (v : View) : Type 0 where
  pub stands : StandsBy h (made_over h.over ++ l.made) v
  pub resets : AreReset h.over
  pub last : ℕ
  pub ascend : LeasesAscend 0 h.over last
  pub above : last < l.number
  pub usable : v.broken ≡ false
  pub flushed : IsFlushed v.line
