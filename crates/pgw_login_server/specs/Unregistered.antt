-- A login that is registered nowhere.
use Rattle.std.specs.Prelude.{◌≡◌, ℕ, ℤ, List, Option, None, Result}
use Rattle.pgw_wire.specs.declared.secret_key.SecretKey.{SecretKey}
use Rattle.pgw_registry.specs.Passes.{Known}
use Rattle.pgw_registry.specs.declared.error.RegistryError.{RegistryError}
use Rattle.pgw_machine.specs.Course.{Course, Waits, Over}
use Rattle.pgw_machine.specs.Play.{Leads}
use Rattle.pgw_login.specs.Registered.{HandlePair, NotRegistered}
use Rattle.pgw_login.specs.declared.state.LoginState.{LoginState}
use Rattle.pgw_login_server.specs.Server.{Stage, ServerEnding, serving}
use Rattle.pgw_login_server.specs.Taken.{Acts}

-- what a registry that registers nothing answers
abbrev pub Nowhere : Option Known → ℤ → SecretKey → Option Known
    → Result (Option HandlePair) RegistryError → Type 0
Nowhere before pid key after answer = NotRegistered before after answer

abbrev pub login_at : Course Stage ServerEnding → LoginState
login_at (Waits stage out pending) = stage.login
login_at (Over ending out) = ending.stage.login

-- whatever comes, a login that is registered nowhere stays so, and keeps its pass
abbrev pub StaysUnregistered : Acts → Type 0
StaysUnregistered means = (begin : Stage) (given : List ℕ) (course : Course Stage ServerEnding)
    → begin.login.registered ≡ None → Leads (serving means) begin given course
    → ((login_at course).registered ≡ None) × ((login_at course).pass ≡ begin.login.pass)
