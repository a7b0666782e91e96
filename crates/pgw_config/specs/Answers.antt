-- What a call answers.
use Rattle.std.specs.Prelude.{◌≡◌, ◌≢◌, ℕ, List, Result, Ok, Err}
use Rattle.pgw_types.specs.declared.config_error.ConfigError.{ConfigError}
use Rattle.pgw_types.specs.declared.config_error.ConfigError.TheVariants.{InvalidConfig, UnknownConfig, OutOfMemory}

-- the answer is this value, or this refusal, or memory ran out
abbrev pub IsConfigAnswer : {A : Type 0} → Result A ConfigError → Result A ConfigError → Type 0
IsConfigAnswer (Ok x) answer = answer ≡ Ok x
IsConfigAnswer (Err e) answer = e ≢ OutOfMemory → answer ≡ Err e

-- the error says that this key's value does not do, or memory ran out
abbrev pub IsInvalid : List ℕ → ConfigError → Type 0
IsInvalid key e = e ≢ OutOfMemory → e ≡ InvalidConfig key

abbrev pub IsUnknown : List ℕ → ConfigError → Type 0
IsUnknown key e = e ≢ OutOfMemory → e ≡ UnknownConfig key
