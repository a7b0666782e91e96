-- What a stored secret shows of a client's proof (RFC 5802, section 3).
use Rattle.std.specs.Prelude.{◌≡◌, ℕ, List}
use Rattle.sha2.specs.Sha256.{sha256}
use Rattle.pgw_hash.specs.Xor.{xor}
use Rattle.pgw_scram.specs.Base64.{base64}
use Rattle.pgw_scram.specs.Formulas.{client_signature}
use Rattle.pgw_secrets.specs.Secret.{IsScramKey}

-- the text is the base64 of 32 bytes, and these, with the client's signature of what was
-- exchanged taken off, hash to StoredKey:
-- H(ClientProof XOR HMAC(StoredKey, AuthMessage)) = StoredKey
pub record IsProof (stored_key exchanged text : List ℕ) : Type 0 where
  pub proof : List ℕ
  pub written : text ≡ base64 proof
  pub is_key : IsScramKey proof
  pub hashes : sha256 (xor proof (client_signature stored_key exchanged)) ≡ stored_key
