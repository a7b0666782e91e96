-- What a call answers.
use Rattle.std.specs.Prelude.{◌≡◌, ◌≢◌, Bool, true, false, Option, Some, None, Result, Ok, Err}
use Rattle.pgw_types.specs.declared.error.PgWireError.{PgWireError}
use Rattle.pgw_types.specs.declared.error.PgWireError.TheVariants.{InvalidScramMessage, OutOfMemory}
use Rattle.pgw_types.specs.declared.error.ScramMessageFault.{ScramMessageFault}
use Rattle.pgw_types.specs.declared.scram_error.ScramClientError.{ScramClientError}
use Rattle.pgw_types.specs.declared.scram_error.ScramClientError.TheVariants as client

-- the answer is this value or this refusal, or memory ran out
abbrev pub IsScramAnswer : {A : Type 0} → Result A PgWireError → Result A PgWireError → Type 0
IsScramAnswer (Ok x) answer = answer ≡ Ok x
IsScramAnswer (Err e) answer = e ≢ OutOfMemory → answer ≡ Err e

-- as IsScramAnswer, of a client
abbrev pub AnswersClient : {A : Type 0} → Result A ScramClientError → Result A ScramClientError
    → Type 0
AnswersClient (Ok x) answer = answer ≡ Ok x
AnswersClient (Err e) answer = e ≢ client.OutOfMemory → answer ≡ Err e

-- a value, unless it is refused
abbrev pub unless : {A E : Type 0} → Option E → A → Result A E
unless None x = Ok x
unless (Some e) x = Err e

abbrev pub unless_so : {E : Type 0} → Bool → E → Option E
unless_so true e = None
unless_so false e = Some e

-- the first refusal, or else the second
abbrev pub first_of : {E : Type 0} → Option E → Option E → Option E
first_of None second = second
first_of (Some e) second = Some e

-- a reading as an answer
abbrev pub scram_result : {A : Type 0} → Result A ScramMessageFault → Result A PgWireError
scram_result (Ok parts) = Ok parts
scram_result (Err why) = Err (InvalidScramMessage why)
