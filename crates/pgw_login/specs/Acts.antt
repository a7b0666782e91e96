-- What a server does with a message: acts, one after the other.
use Rattle.std.specs.Prelude.{◌≡◌, ◌⊎◌, ◌≤◌, ℕ, Bool, true, false, List, [], ◌∷◌, ◌++◌, fold, Option, Some, None, Result, Ok, Err, if◌then◌else◌}
use Rattle.pgw_types.specs.declared.error.PgWireError.{PgWireError}
use Rattle.pgw_types.specs.declared.error.PgWireError.TheVariants.{OutOfMemory, InvalidSASLState}
use Rattle.pgw_backend.specs.declared.backend.PgWireBackendMessage.{PgWireBackendMessage as Message}
use Rattle.pgw_login.specs.Client.{LoginClient}
use Rattle.pgw_login.specs.Sending.{NotTaken}
use Rattle.pgw_login.specs.Registered.{CanRelease, guard_of}
use Rattle.pgw_login.specs.declared.state.LoginState.{LoginState}
use Rattle.pgw_login.specs.declared.state.SASLState.{SASLState}
use Rattle.pgw_login.specs.declared.state.SASLState.TheVariants.{Initial, ScramClientFirstReceived, ScramServerFirstSent, StoredServerFirstSent, OauthStateInit, OauthStateError, Finished, Failed}

-- what is seen of the client, the login, and how many calls of the outbox have failed
pub record Standing : Type 0 where
  pub client : LoginClient
  pub login : LoginState
  pub faults : ℕ

abbrev pub standing_in_login : LoginClient → LoginState → ℕ → Standing
standing_in_login client login faults = record { client = client; login = login; faults = faults }

abbrev pub Answer : Type 0
Answer = Result (Unit {0}) PgWireError

-- an act: where it begins, where it leads, the messages sent on the way, and its answer
abbrev pub Act : Type 1
Act = Standing → Standing → List Message → Answer → Type 0

-- ---- acts one after the other

-- one act and then the next, unless the first is refused
pub data Then (first next : Standing → Standing → List Message → Answer → Type 0) : Standing
    → Standing → List Message → Answer → Type 0 where
  halts : (before after : Standing) → (sent : List Message) → (e : PgWireError)
      → first before after sent (Err e) → Then first next before after sent (Err e)
  goes : (before mid after : Standing) → (front back : List Message) → (answer : Answer)
      → first before mid front (Ok tt) → next mid after back answer
      → Then first next before after (front ++ back) answer

-- or memory runs out, and nothing is done
abbrev pub LoginRefuses : PgWireError → Standing → Standing → List Message → Answer → Type 0
LoginRefuses e before after sent answer = (after ≡ before) × (sent ≡ []) × (answer ≡ Err e)

abbrev pub OrNoMemory : Act → Standing → Standing → List Message → Answer → Type 0
OrNoMemory act before after sent answer =
    LoginRefuses OutOfMemory before after sent answer ⊎ act before after sent answer

-- nothing is done
abbrev pub LoginStays : Standing → Standing → List Message → Answer → Type 0
LoginStays before after sent answer = (after ≡ before) × (sent ≡ []) × (answer ≡ Ok tt)

-- nothing is sent or changed, and the answer is one of these
abbrev pub AnswersLogin : (Standing → Answer → Type 0) → Standing → Standing → List Message
    → Answer → Type 0
AnswersLogin P before after sent answer = (after ≡ before) × (sent ≡ []) × P before answer

-- the client, or the login, is changed
abbrev pub Sets : (LoginClient → LoginClient) → Standing → Standing → List Message → Answer
    → Type 0
Sets f before after sent answer =
    (after ≡ record before { client = f before.client }) × (sent ≡ []) × (answer ≡ Ok tt)

abbrev pub Marks : (LoginState → LoginState) → Standing → Standing → List Message → Answer
    → Type 0
Marks f before after sent answer =
    (after ≡ record before { login = f before.login }) × (sent ≡ []) × (answer ≡ Ok tt)

-- the messages are sent, up to one that is not taken
abbrev pub Sends : List Message → Standing → Standing → List Message → Answer → Type 0
Sends due before after sent (Ok done) = (after ≡ before) × (sent ≡ due)
Sends due before after sent (Err e) =
    (m : Message) × (rest : List Message) × (due ≡ sent ++ m ∷ rest)
    × (after ≡ record before { faults = after.faults })
    × NotTaken m before.faults after.faults e

-- ---- the state of a login

abbrev pub with_sasl : SASLState → LoginState → LoginState
with_sasl sasl s = record s { sasl = sasl }

abbrev pub with_started : LoginState → LoginState
with_started s = record s { started = true }

abbrev pub failed : Standing → Standing
failed s = record s { login = with_sasl Failed s.login }

-- after a refusal the login has failed
abbrev pub login_by_answer : Answer → LoginState → LoginState
login_by_answer (Ok done) s = s
login_by_answer (Err e) s = with_sasl Failed s

abbrev pub OrFails : Act → Standing → Standing → List Message → Answer → Type 0
OrFails act before after sent (Ok done) = act before after sent (Ok done)
OrFails act before after sent (Err e) =
    (mid : Standing) × act before mid sent (Err e) × (after ≡ failed mid)

abbrev pub is_initial : SASLState → Bool
is_initial Initial = true
is_initial ScramClientFirstReceived = false
is_initial (ScramServerFirstSent server) = false
is_initial (StoredServerFirstSent server) = false
is_initial OauthStateInit = false
is_initial OauthStateError = false
is_initial Finished = false
is_initial Failed = false

-- a login begins once, and only where no message of it was refused
abbrev pub StartsFrom : Bool → Standing → Standing → List Message → Answer → Type 0
StartsFrom true = Marks with_started
StartsFrom false = LoginRefuses InvalidSASLState

abbrev pub StartsLoginAt : Bool → Standing → Standing → List Message → Answer → Type 0
StartsLoginAt true before = LoginRefuses InvalidSASLState before
StartsLoginAt false before = StartsFrom (is_initial before.login.sasl) before

abbrev pub StartsLogin : Standing → Standing → List Message → Answer → Type 0
StartsLogin before = StartsLoginAt before.login.started before

-- a password is taken once, of a login that has begun
abbrev pub awaits : LoginState → Bool
awaits s = if s.started then is_initial s.sasl else false

abbrev pub AwaitsAt : Bool → Standing → Standing → List Message → Answer → Type 0
AwaitsAt true = LoginStays
AwaitsAt false = LoginRefuses InvalidSASLState

abbrev pub LoginAwaits : Standing → Standing → List Message → Answer → Type 0
LoginAwaits before = AwaitsAt (awaits before.login) before

-- what a login may draw from, and what it has registered, is as before
abbrev pub IsSameSource : LoginState → LoginState → Type 0
IsSameSource old new =
    (new.seat ≡ old.seat) × (new.pass ≡ old.pass) × (new.registered ≡ old.registered)

-- what a login has registered can be released by its pass
abbrev pub IsReleasable : LoginState → Type 0
IsReleasable s = CanRelease (guard_of s.registered) s.pass

-- ---- what an outbox is told

-- the act was done, with the messages that it sends taken one after the other; the count of faults never falls
pub record Did {S : Type 0} (add : S → Message → S) (old new : S)
    (act : Standing → Standing → List Message → Answer → Type 0) (before after : Standing)
    (answer : Answer) : Type 0 where
  pub sent : List Message
  pub told : new ≡ fold add old sent
  pub later : before.faults ≤ after.faults
  pub done : act before after sent answer
