-- What the steps of a server answer (RFC 5802, section 5).
use Rattle.std.specs.Prelude.{ℕ, List, Option, Some, None, Result, Ok, Err}
use Rattle.std.specs.Str.{bytes_eq}
use Rattle.pgw_types.specs.declared.error.PgWireError.{PgWireError}
use Rattle.pgw_types.specs.declared.error.PgWireError.TheVariants.{InvalidScramMessage, SaltRequired, InvalidPassword}
use Rattle.pgw_types.specs.declared.error.ScramMessageFault.{ScramMessageFault}
use Rattle.pgw_scram.specs.declared.messages.ClientFirst.{ClientFirst}
use Rattle.pgw_scram.specs.declared.messages.ClientFinal.{ClientFinal}
use Rattle.pgw_scram.specs.declared.password.Password.{Password}
use Rattle.pgw_scram.specs.declared.server.ScramServerAuth.{ScramServerAuth}
use Rattle.pgw_scram.specs.declared.server.ScramServerAuthWaitingForClientFinal.{ScramServerAuthWaitingForClientFinal as WaitingForClientFinal}
use Rattle.pgw_scram.specs.Answers.{unless, unless_so}
use Rattle.pgw_scram.specs.Base64.{base64}
use Rattle.pgw_scram.specs.Formulas.{client_key, server_key, proof_by, signature_by}
use Rattle.pgw_scram.specs.Offers.{offer_of, channel_refusal, exchanged, final_for_offer, server_final}
use Rattle.pgw_scram.specs.Readers.{read_client_first}

-- ---- the first step

abbrev pub scram_wait : ScramServerAuth → ClientFirst → List ℕ → List ℕ → List ℕ
    → WaitingForClientFinal
scram_wait server parts salt salted own =
    record {
      offer = offer_of parts server.certificate_hash salt server.iterations own;
      client_key
          = client_key salted;
      server_key = server_key salted;
    }

-- with the server-first that it has sent
abbrev pub with_server_first : WaitingForClientFinal → List ℕ × WaitingForClientFinal
with_server_first server = (server.offer.server_first, server)

abbrev pub offered_with : ScramServerAuth → ClientFirst → Option (List ℕ) → List ℕ → List ℕ
    → Result (List ℕ × WaitingForClientFinal) PgWireError
offered_with server parts None salted own = Err SaltRequired
offered_with server parts (Some salt) salted own =
    Ok (with_server_first (scram_wait server parts salt salted own))

abbrev pub unless_misbound : {A : Type 0} → Option PgWireError → Result A PgWireError
    → Result A PgWireError
unless_misbound None answer = answer
unless_misbound (Some e) answer = Err e

-- server-first, and a server that has sent it, of the parts of client-first, the stored password and the bytes of the
-- server's nonce
abbrev pub offered_to : ScramServerAuth → ClientFirst → Password → List ℕ
    → Result (List ℕ × WaitingForClientFinal) PgWireError
offered_to server parts password own =
    unless_misbound (channel_refusal server.certificate_hash parts)
    (offered_with server parts password.salt password.password own)

abbrev pub scram_offer_as : ScramServerAuth → Result ClientFirst ScramMessageFault → Password
    → List ℕ → Result (List ℕ × WaitingForClientFinal) PgWireError
scram_offer_as server (Err why) password own = Err (InvalidScramMessage why)
scram_offer_as server (Ok parts) password own = offered_to server parts password own

-- as scram_offer_as, of client-first
abbrev pub scram_offer : ScramServerAuth → List ℕ → Password → List ℕ
    → Result (List ℕ × WaitingForClientFinal) PgWireError
scram_offer server message password own =
    scram_offer_as server (read_client_first message) password own

-- ---- the last step

-- another proof
abbrev pub proof_refusal : WaitingForClientFinal → ClientFinal → Option PgWireError
proof_refusal server parts =
    unless_so (bytes_eq parts.proof
    (base64 (proof_by server.client_key (exchanged server.offer parts))))
    (InvalidPassword server.offer.user)

abbrev pub accepted_as : WaitingForClientFinal → Result ClientFinal PgWireError
    → Result (List ℕ) PgWireError
accepted_as server (Err e) = Err e
accepted_as server (Ok parts) =
    unless (proof_refusal server parts)
    (server_final (signature_by server.server_key (exchanged server.offer parts)))

-- server-final, of client-final
abbrev pub accepted : WaitingForClientFinal → List ℕ → Result (List ℕ) PgWireError
accepted server message = accepted_as server (final_for_offer server.offer message)
