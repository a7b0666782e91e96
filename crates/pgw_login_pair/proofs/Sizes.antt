-- How long the texts of SCRAM are.
use Rattle.std.proofs.Common.{◌≡◌, ℕ, ◌+◌, ◌*◌, ◌/◌, ◌≤◌, List, [], ◌∷◌, length, replicate, arith, length-append}
use Rattle.std.specs.Prelude.{codes}
use Rattle.std.proofs.lemmas.List.{length-replicate}
use Rattle.base64.proofs.RoundTrip.{length-encode_symbols}
use Rattle.base64.specs.Rfc4648.{encode_symbols, padding_len}
use Rattle.base64.specs.GeneralPurpose.{engine_symbols}
use Rattle.base64.specs.Engines.{standard}
use Rattle.std.proofs.Common.{◌-◌, ◌%◌}
use Rattle.sha2.proofs.Facts256.{length-sha256}
use Rattle.pgw_hash.specs.Hmac.{hmac_sha256}
use Rattle.pgw_hash.specs.Xor.{xor}
use Rattle.pgw_scram.specs.Base64.{base64}
use Rattle.pgw_scram.specs.Formulas.{client_proof, client_key, stored_key, client_signature, signature_by}

xor_short : (xs ys : List ℕ) → length (xor xs ys) ≤ length xs
unfolding xor
xor_short [] ys = omega arith
xor_short (x ∷ xs) [] = omega arith
xor_short (x ∷ xs) (y ∷ ys) = let h = xor_short xs ys in omega (arith, h)

hmac_length : (key text : List ℕ) → length (hmac_sha256 key text) ≡ 32
unfolding hmac_sha256
hmac_length key text = length-sha256 _

pub proof_short : (salted message : List ℕ) → length (client_proof salted message) ≤ 32
unfolding client_proof
proof_short salted message =
    let h =
    xor_short (client_key salted) (client_signature (stored_key (client_key salted)) message) in omega
    (arith, h, hmac_length salted (codes "Client Key"))

pub signature_short : (key message : List ℕ) → length (signature_by key message) ≤ 32
signature_short key message = let h = hmac_length key message in omega (arith, h)

-- whole groups of four
pub base64_length : (bytes : List ℕ)
    → length (base64 bytes) ≡ (4 * length bytes + 2) / 3 + (3 - length bytes % 3) % 3
unfolding base64
base64_length bytes =
    let front = encode_symbols (engine_symbols standard) bytes in
    let pad : List ℕ = replicate (padding_len (length bytes)) 61 in
    let size : length front ≡ (4 * length bytes + 2) / 3 =
    length-encode_symbols (engine_symbols standard) bytes in
    let padding : length pad ≡ (3 - length bytes % 3) % 3 = length-replicate (padding_len (length bytes)) 61 in
    omega (arith, length-append front pad, size, padding)

pub base64_short : (bytes : List ℕ) → length bytes ≤ 32 → length (base64 bytes) ≤ 48
base64_short bytes small = omega (arith, base64_length bytes, small)
