-- What a server keeps of a password by SCRAM-SHA-256 (RFC 5802, section 3).
use Rattle.std.specs.Prelude.{◌≡◌, ◌<◌, ◌≤◌, ◌^◌, ℕ, List, ◌++◌, length, codes}
use Rattle.std.specs.Fmt.{decimal}
use Rattle.base64.specs.GeneralPurpose.{IsBytes}
use Rattle.pgw_hash.specs.Pbkdf2.{salted_password}
use Rattle.pgw_scram.specs.Base64.{base64}
use Rattle.pgw_scram.specs.Formulas.{client_key, stored_key, server_key}
use Rattle.pgw_secrets.specs.declared.secret.StoredSecret.{StoredSecret}

-- StoredKey and ServerKey of a SaltedPassword, with the salt and the count that made it
abbrev pub kept_secret : List ℕ → List ℕ → ℕ → StoredSecret
kept_secret salted salt count = record {
  count = count;
  salt = salt;
  stored_key = stored_key (client_key salted);
  server_key = server_key salted;
}

-- as kept_secret, of a password
abbrev pub secret_of : List ℕ → List ℕ → ℕ → StoredSecret
secret_of password salt count = kept_secret (salted_password password salt count) salt count

-- 32 bytes
abbrev pub IsScramKey : List ℕ → Type 0
IsScramKey key = (length key ≡ 32) × IsBytes key

-- a secret with a count, whose parts are bytes
pub record IsStoredSecret (secret : StoredSecret) : Type 0 where
  pub at_least_one : 1 ≤ secret.count
  pub in_32_bits : secret.count < 2 ^ 32
  pub salt_bytes : IsBytes secret.salt
  pub stored_bytes : IsScramKey secret.stored_key
  pub server_bytes : IsScramKey secret.server_key

-- the text of a secret, of its parts: SCRAM-SHA-256$COUNT:SALT$STORED:SERVER
-- (PostgreSQL, System Catalogs, "pg_authid")
abbrev pub secret_text : ℕ → List ℕ → List ℕ → List ℕ → List ℕ
secret_text count salt stored_key server_key =
    codes "SCRAM-SHA-256$" ++ decimal count ++ codes ":" ++ salt ++ codes "$" ++ stored_key
    ++ codes ":" ++ server_key

abbrev pub stored_secret_text : StoredSecret → List ℕ
stored_secret_text s =
    secret_text s.count (base64 s.salt) (base64 s.stored_key) (base64 s.server_key)
