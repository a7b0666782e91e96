-- What SCRAM computes (RFC 5802, section 3), with SHA-256 (RFC 7677).
-- SaltedPassword := Hi(Normalize(password), salt, i) is `salted_password` of pgw_hash.
use Rattle.std.specs.Prelude.{ℕ, List, ◌++◌, codes}
use Rattle.sha2.specs.Sha256.{sha256}
use Rattle.pgw_hash.specs.Hmac.{hmac_sha256}
use Rattle.pgw_hash.specs.Xor.{xor}

-- ClientKey := HMAC(SaltedPassword, "Client Key")
abbrev pub client_key : List ℕ → List ℕ
client_key salted_password = hmac_sha256 salted_password (codes "Client Key")

-- StoredKey := H(ClientKey)
abbrev pub stored_key : List ℕ → List ℕ
stored_key client_key = sha256 client_key

-- ServerKey := HMAC(SaltedPassword, "Server Key")
abbrev pub server_key : List ℕ → List ℕ
server_key salted_password = hmac_sha256 salted_password (codes "Server Key")

-- AuthMessage := client-first-message-bare + "," + server-first-message + "," + client-final-message-without-proof
abbrev pub auth_message : List ℕ → List ℕ → List ℕ → List ℕ
auth_message client_first_bare server_first without_proof =
    client_first_bare ++ codes "," ++ server_first ++ codes "," ++ without_proof

-- ClientSignature := HMAC(StoredKey, AuthMessage)
abbrev pub client_signature : List ℕ → List ℕ → List ℕ
client_signature stored_key auth_message = hmac_sha256 stored_key auth_message

-- ClientProof := ClientKey XOR ClientSignature, by the ClientKey
abbrev pub proof_by : List ℕ → List ℕ → List ℕ
proof_by client_key auth_message =
    xor client_key (client_signature (stored_key client_key) auth_message)

-- as proof_by, by the SaltedPassword
unfoldable pub client_proof : List ℕ → List ℕ → List ℕ
client_proof salted_password auth_message = proof_by (client_key salted_password) auth_message

-- ServerSignature := HMAC(ServerKey, AuthMessage), by the ServerKey
abbrev pub signature_by : List ℕ → List ℕ → List ℕ
signature_by server_key auth_message = hmac_sha256 server_key auth_message

-- as signature_by, by the SaltedPassword
unfoldable pub server_signature : List ℕ → List ℕ → List ℕ
server_signature salted_password auth_message =
    signature_by (server_key salted_password) auth_message
