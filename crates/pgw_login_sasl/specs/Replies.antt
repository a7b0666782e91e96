-- What a method replies to a message: a message or none, and how far the exchange is then.
use Rattle.std.specs.Prelude.{◌≡◌, ◌⊎◌, ℕ, List, Option, Result, Err}
use Rattle.pgw_types.specs.declared.error.PgWireError.{PgWireError}
use Rattle.pgw_types.specs.declared.error.PgWireError.TheVariants.{UnsupportedSASLAuthMethod, OutOfMemory}
use Rattle.pgw_startup.specs.declared.authentication.Authentication.{Authentication}
use Rattle.pgw_startup.specs.declared.password.PasswordMessageFamily.{PasswordMessageFamily}
use Rattle.pgw_login.specs.Login.{Login}
use Rattle.pgw_login.specs.declared.state.SASLState.{SASLState}

abbrev pub Reply : Type 0
Reply = Result (Option Authentication × SASLState) PgWireError

-- what may be replied for a login to a message, by the server's nonce and how far the exchange is
abbrev pub Replies : Type 1
Replies = Login → PasswordMessageFamily → List ℕ → SASLState → Reply → Type 0

-- a method of this name is not supported
abbrev pub RefusesMethod : List ℕ → Reply → Type 0
RefusesMethod name reply =
    (reply ≡ Err OutOfMemory) ⊎ (reply ≡ Err (UnsupportedSASLAuthMethod name))
