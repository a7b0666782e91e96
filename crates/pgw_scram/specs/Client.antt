-- What the steps of a client answer (RFC 5802, section 5).
use Rattle.std.specs.Prelude.{ℕ, List, Option, Some, None, Result, Ok, Err, codes}
use Rattle.pgw_hash.specs.Saslprep.{saslprep}
use Rattle.pgw_types.specs.declared.scram_error.ScramClientError.{ScramClientError}
use Rattle.pgw_types.specs.declared.scram_error.ScramClientError.TheVariants.{InvalidConfig}
use Rattle.pgw_scram.specs.declared.exchange.ClientLogin.{ClientLogin}
use Rattle.pgw_scram.specs.declared.exchange.ClientReply.{ClientReply}
use Rattle.pgw_scram.specs.declared.client.ScramClientAuth.{ScramClientAuth}
use Rattle.pgw_scram.specs.declared.client.ScramClientAuthWaitingForServerFirst.{ScramClientAuthWaitingForServerFirst as WaitingForServerFirst}
use Rattle.pgw_scram.specs.declared.client.ScramClientAuthWaitingForServerFinal.{ScramClientAuthWaitingForServerFinal as WaitingForServerFinal}
use Rattle.pgw_scram.specs.Answers.{unless}
use Rattle.pgw_scram.specs.Base64.{nonce_text}
use Rattle.pgw_scram.specs.Exchange.{client_first, client_final, signature}
use Rattle.pgw_scram.specs.Refusals.{scram_first_refusal, scram_refusal}

-- client-final, and the signature that is expected for it
abbrev pub reply_to : ClientLogin → List ℕ → ClientReply
reply_to login first =
    record { message = client_final login first; signature = signature login first }

-- the reply, or why server-first is refused
abbrev pub scram_reply : ClientLogin → List ℕ → Result ClientReply ScramClientError
scram_reply login first = unless (scram_first_refusal login.nonce first) (reply_to login first)

-- ---- steps

-- the login of a client, with its prepared user name and the nonce's text
abbrev pub scram_client_login : ScramClientAuth → List ℕ → List ℕ → ClientLogin
scram_client_login client user nonce =
    record { binding = client.binding; user = user; password = client.password; nonce = nonce }

abbrev pub began_as : ScramClientAuth → List ℕ → Option (List ℕ)
    → Result (List ℕ × WaitingForServerFirst) ScramClientError
began_as client nonce None = Err (InvalidConfig (codes "user"))
began_as client nonce (Some user) =
    Ok (
      client_first (scram_client_login client user nonce),
      record
          { login = scram_client_login client user nonce },
    )

-- client-first, and a client that has sent it, of the nonce's bytes
abbrev pub began : ScramClientAuth → List ℕ
    → Result (List ℕ × WaitingForServerFirst) ScramClientError
began client nonce = began_as client (nonce_text nonce) (saslprep client.username)

-- client-final, and a client that has sent it
abbrev pub proved : WaitingForServerFirst → List ℕ
    → Result (List ℕ × WaitingForServerFinal) ScramClientError
proved client first =
    unless (scram_first_refusal client.login.nonce first)
    (client_final client.login first, record { signature = signature client.login first })

-- the server's signature is the one that is owed
abbrev pub verified : WaitingForServerFinal → List ℕ → Result (Unit {0}) ScramClientError
verified client final = unless (scram_refusal client.signature final) tt
