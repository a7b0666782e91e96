-- What a client refuses (RFC 5802, section 5).
use Rattle.std.specs.Prelude.{ℕ, Bool, List, Option, Some, is_some, nat_eq, codes, Result, Ok, Err}
use Rattle.std.specs.List.{starts_with}
use Rattle.std.specs.Str.{bytes_eq}
use Rattle.pgw_types.specs.declared.error.PgWireError.TheVariants.{InvalidScramMessage}
use Rattle.pgw_types.specs.declared.error.ScramMessageFault.{ScramMessageFault}
use Rattle.pgw_types.specs.declared.scram_error.ScramClientError.{ScramClientError}
use Rattle.pgw_types.specs.declared.scram_error.ScramClientError.TheVariants.{PgWireError, InvalidConfig, ScramError}
use Rattle.pgw_types.specs.declared.scram_error.ScramFault.TheVariants as scram_fault
use Rattle.pgw_scram.specs.declared.messages.ServerFirst.{ServerFirst}
use Rattle.pgw_scram.specs.declared.messages.ServerFinal.{ServerFinal}
use Rattle.pgw_scram.specs.declared.messages.ServerFinal.TheVariants.{Signature, Failed}
use Rattle.pgw_scram.specs.Answers.{unless_so, first_of}
use Rattle.pgw_scram.specs.Base64.{salt_of}
use Rattle.pgw_scram.specs.Readers.{read_server_first, read_server_final}

-- the user name has no prepared form
abbrev pub user_refusal : Option (List ℕ) → Option ScramClientError
user_refusal form = unless_so (is_some form) (InvalidConfig (codes "user"))

abbrev pub begins_with : List ℕ → List ℕ → Bool
begins_with text front = starts_with nat_eq text front

-- server-first outside its grammar; or its nonce does not begin with the client's; or its salt is none
abbrev pub parts_refusal : List ℕ → Result ServerFirst ScramMessageFault → Option ScramClientError
parts_refusal nonce (Err why) = Some (PgWireError (InvalidScramMessage why))
parts_refusal nonce (Ok parts) =
    first_of (unless_so (begins_with parts.nonce nonce) (ScramError scram_fault.NonceMismatch))
    (unless_so (is_some (salt_of parts.salt)) (ScramError scram_fault.SaltNotBase64))

abbrev pub scram_first_refusal : List ℕ → List ℕ → Option ScramClientError
scram_first_refusal nonce first = parts_refusal nonce (read_server_first first)

-- server-final outside its grammar; or it tells a failure; or its signature is another
abbrev pub verifier_refusal : List ℕ → Result ServerFinal ScramMessageFault
    → Option ScramClientError
verifier_refusal expected (Err why) = Some (PgWireError (InvalidScramMessage why))
verifier_refusal expected (Ok (Failed text)) = Some (ScramError (scram_fault.ServerError text))
verifier_refusal expected (Ok (Signature text)) =
    unless_so (bytes_eq text expected) (ScramError scram_fault.SignatureMismatch)

abbrev pub scram_refusal : List ℕ → List ℕ → Option ScramClientError
scram_refusal expected final = verifier_refusal expected (read_server_final final)
