-- What a server's end of SCRAM replies, whatever its source keeps.
use Rattle.std.proofs.Common.{◌≡◌, Bool, true, false, ℕ, List, Option, Some, Result, Ok, Err}
use Rattle.pgw_types.specs.declared.error.PgWireError.{PgWireError}
use Rattle.pgw_startup.specs.declared.authentication.Authentication.{Authentication}
use Rattle.pgw_startup.specs.declared.authentication.Authentication.TheVariants as auth
use Rattle.pgw_startup.specs.declared.password.PasswordMessageFamily.{PasswordMessageFamily}
use Rattle.pgw_startup.specs.declared.password.PasswordMessageFamily.TheVariants as family
use Rattle.pgw_startup.specs.declared.sasl.SASLInitialResponse.{SASLInitialResponse}
use Rattle.pgw_startup.specs.declared.sasl.SASLResponse.{SASLResponse}
use Rattle.pgw_login.specs.Login.{Login}
use Rattle.pgw_login.specs.declared.state.SASLState.{SASLState}
use Rattle.pgw_login.specs.declared.state.SASLState.TheVariants as state
use Rattle.pgw_login_sasl.specs.Turns.{is_finished}

-- server-first was sent
abbrev pub is_sent : SASLState → Bool
is_sent state.Initial = false
is_sent state.ScramClientFirstReceived = false
is_sent (state.ScramServerFirstSent waiting) = true
is_sent (state.StoredServerFirstSent waiting) = true
is_sent state.OauthStateInit = false
is_sent state.OauthStateError = false
is_sent state.Finished = false
is_sent state.Failed = false

-- the states that wait are apart from each other, and from all others
pub record Apart {W : Type 0} (waits : W → SASLState) : Type 0 where
  pub one : (a b : W) → waits a ≡ waits b → a ≡ b
  pub sent : (a : W) → is_sent (waits a) ≡ true
  pub goes_on : (a : W) → is_finished (waits a) ≡ false

-- what comes of a first message: a refusal, or a server-first that was given for its payload
pub data CameFirst {W : Type 0} (waits : W → SASLState) (gives : List ℕ → List ℕ → List ℕ → W → Type 0)
    (nonce : List ℕ) (payload : Option (List ℕ)) : Result (Authentication × SASLState) PgWireError → Type 0 where
  none_given : (e : PgWireError) → CameFirst waits gives nonce payload (Err e)
  gave : (first offer : List ℕ) → (waiting : W) → payload ≡ Some first → gives first nonce offer waiting
      → CameFirst waits gives nonce payload (Ok (auth.SASLContinue offer, waits waiting))

-- what comes of a further one: a refusal, or a server-final of what waited
pub data CameFurther {W : Type 0} (waits : W → SASLState) (takes : W → List ℕ → List ℕ → Type 0) (at : SASLState)
    (payload : List ℕ) : Result (Authentication × SASLState) PgWireError → Type 0 where
  none_taken : (e : PgWireError) → CameFurther waits takes at payload (Err e)
  taken : (waiting : W) → (verifier : List ℕ) → at ≡ waits waiting → takes waiting payload verifier
      → CameFurther waits takes at payload (Ok (auth.SASLFinal verifier, state.Finished))

pub record IsEnd {W : Type 0} (E : Login → PasswordMessageFamily → List ℕ → SASLState
    → Result (Authentication × SASLState) PgWireError → Type 0)
    (G : Login → List ℕ → List ℕ → List ℕ → List ℕ → W → Type 0) (T : W → List ℕ → List ℕ → Type 0)
    (waits : W → SASLState) : Type 0 where
  pub first : (login : Login) (read : SASLInitialResponse) (nonce : List ℕ)
      (replied : Result (Authentication × SASLState) PgWireError)
      → E login (family.SASLInitialResponse read) nonce state.ScramClientFirstReceived replied
      → CameFirst waits (G login read.auth_method) nonce read.payload replied
  pub further : (login : Login) (read : SASLResponse) (nonce : List ℕ) (at : SASLState)
      (replied : Result (Authentication × SASLState) PgWireError)
      → E login (family.SASLResponse read) nonce at replied → CameFurther waits T at read.payload replied
