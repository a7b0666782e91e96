-- What a pool script comes to.
use Rattle.std.specs.Prelude.{◌≡◌, ◌≢◌, ℕ, ◌+◌, false, List, [], ◌∷◌, ◌++◌, length, replicate, Option, Some, Result, Ok, Err}
use Rattle.pgw_types.specs.declared.config_error.ConfigError.{ConfigError}
use Rattle.pgw_types.specs.declared.config_error.ConfigError.TheVariants as config_error
use Rattle.pgw_backend.specs.ClientError.{of_config}
use Rattle.pgw_backend.specs.declared.client_error.PgWireClientError.{PgWireClientError as ClientError}
use Rattle.pgw_config.specs.declared.config.Config.{Config}
use Rattle.pgw_config.specs.Parse.{HasOutcome}
use Rattle.pgw_link.specs.Dials.{new_dials}
use Rattle.pgw_pool.specs.Histories.{View}
use Rattle.pgw_pool.specs.Starting.{Dials, dials, ConnectForetold, NotStarted}
use Rattle.pgw_prog_script.specs.declared.pool_script.PoolScript.{PoolScript}
use Rattle.pgw_prog_script.specs.declared.pool_line.PoolCall.{PoolCall}
use Rattle.pgw_prog_script.specs.PoolScript.{lines_before_calls}
use Rattle.pgw_prog_pool.specs.declared.run.PoolOutcome.{PoolOutcome}
use Rattle.pgw_prog_pool.specs.declared.run.PoolOutcome.TheVariants as outcome
use Rattle.pgw_prog_pool.specs.Lines.{wants_memory}
use Rattle.pgw_prog_pool.specs.Standing.{PoolStanding, standing_in_pool, Calls, AllBack, NamesNone}

-- ---- the calls

-- the first calls were made, and the next one names a lease that is not out; its line has this number
pub record StopsAtPoolCall (first : PoolStanding) (calls : List PoolCall) (line n : ℕ) : Type 0
  where
    pub done : List PoolCall
    pub next : PoolCall
    pub behind : List PoolCall
    pub cut : calls ≡ done ++ next ∷ behind
    pub text : List ℕ
    pub there : PoolStanding
    pub made : Calls first done text there
    pub names : NamesNone next there.out
    pub number : n ≡ line + length done + 1

-- all calls were made, and the leases that were out then were given back; or there is such a line
abbrev pub PoolComesTo : PoolStanding → List PoolCall → (line : ℕ) → PoolOutcome → Type 0
PoolComesTo first calls line (outcome.Told text) =
    (there last : PoolStanding) × Calls first calls text.items there × AllBack there last
PoolComesTo first calls line (outcome.NotOut n) = StopsAtPoolCall first calls line n
PoolComesTo first calls line (outcome.Refused e) = ⊥

-- ---- the pool

-- one session for each server, all with the script's nonce
abbrev pub nonces_of : PoolScript → List (List ℕ)
nonces_of s = replicate (length s.servers) s.nonce

-- a new dialer in memory, whose links have these bytes to come
abbrev pub new_dialer : List (List ℕ) → Dials
new_dialer servers = dials new_dials (Some servers) 0

-- A pool was started over these links, each session over its own server's: these are its sessions, and what their links
-- still have to come.
abbrev pub StartsPool : Config → (limit : ℕ) → (nonces servers : List (List ℕ)) → List View →
    List (Option (List ℕ)) → Type 0
StartsPool config limit nonces servers idle lefts =
    (after : Dials) × ConnectForetold config limit (new_dialer servers) nonces after lefts idle

-- none was, for this reason
abbrev pub Unstarted : Config → (limit : ℕ) → (nonces servers : List (List ℕ)) → ClientError
    → Type 0
Unstarted config limit nonces servers e =
    (after : Dials) × NotStarted (Unit {0}) config limit nonces (new_dialer servers) after e

-- a pool was started with this configuration, and the calls come to this
abbrev pub RunsPoolScript : PoolScript → Config → PoolOutcome → Type 0
RunsPoolScript s config o =
    (idle : List View) × (lefts : List (Option (List ℕ)))
    × StartsPool config s.limit (nonces_of s) s.servers idle lefts
    × PoolComesTo (standing_in_pool 0 idle lefts []) s.calls (lines_before_calls s) o

abbrev pub ComesOf : PoolScript → Config → PoolOutcome → Type 0
ComesOf s config (outcome.Refused e) =
    Unstarted config s.limit (nonces_of s) s.servers e × (wants_memory e ≡ false)
ComesOf s config o = RunsPoolScript s config o

-- what the connection text gives: a configuration to start by; or a refusal, which is not want of memory
abbrev pub ComesBy : PoolScript → Result Config ConfigError → PoolOutcome → Type 0
ComesBy s (Ok config) o = ComesOf s config o
ComesBy s (Err e) o = (e ≢ config_error.OutOfMemory) × (o ≡ outcome.Refused (of_config e))

-- What the script comes to, by the one outcome of its connection text.
pub record RunsPool (s : PoolScript) (o : PoolOutcome) : Type 0 where
  pub outcome : Result Config ConfigError
  pub has : HasOutcome s.config outcome
  pub only : (other : Result Config ConfigError) → HasOutcome s.config other → other ≡ outcome
  pub comes : ComesBy s outcome o
