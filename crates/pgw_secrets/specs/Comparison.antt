-- A server that keeps a stored secret, beside one that keeps the SaltedPassword it was made of.
use Rattle.std.specs.Prelude.{◌≡◌, ℕ, List, Some, Result, Ok, Err}
use Rattle.sha2.specs.Sha256.{sha256}
use Rattle.pgw_types.specs.declared.error.PgWireError.{PgWireError}
use Rattle.pgw_scram.specs.declared.password.Password.{Password}
use Rattle.pgw_scram.specs.declared.server.ScramServerAuth.{ScramServerAuth}
use Rattle.pgw_scram.specs.declared.server.ScramServerAuthWaitingForClientFinal.{ScramServerAuthWaitingForClientFinal as WaitingForClientFinal}
use Rattle.pgw_scram.specs.Formulas.{stored_key}
use Rattle.pgw_secrets.specs.declared.server.StoredScramAuth.{StoredScramAuth}
use Rattle.pgw_secrets.specs.declared.server.StoredScramWaiting.{StoredScramWaiting}
use Rattle.pgw_secrets.specs.Secret.{kept_secret, IsScramKey}

-- a server with the same count and certificate, which keeps the secret of this SaltedPassword
abbrev pub storing : ScramServerAuth → List ℕ → List ℕ → StoredScramAuth
storing server salt salted =
    record {
      secret = kept_secret salted salt server.iterations;
      certificate_hash = server.certificate_hash;
    }

-- the other keeps the SaltedPassword itself
abbrev pub kept_password : List ℕ → List ℕ → Password
kept_password salt salted = record { salt = Some salt; password = salted }

-- what waits for client-final: StoredKey in the place of ClientKey
abbrev pub stored_of : WaitingForClientFinal → StoredScramWaiting
stored_of server = record {
  offer = server.offer;
  stored_key = stored_key server.client_key;
  server_key = server.server_key;
}

-- the same message or the same refusal, and the same wait
abbrev pub in_its_place : Result (List ℕ × WaitingForClientFinal) PgWireError
    → Result (List ℕ × StoredScramWaiting) PgWireError
in_its_place (Ok (text, server)) = Ok (text, stored_of server)
in_its_place (Err e) = Err e

-- no other 32 bytes hash to the same
abbrev pub HashesAlone : List ℕ → Type 0
HashesAlone key = (other : List ℕ) → IsScramKey other → sha256 other ≡ sha256 key → other ≡ key
