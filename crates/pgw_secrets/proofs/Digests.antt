-- Digests are bytes, and what is exclusive-ored twice is itself.
use Rattle.std.proofs.Common.{◌≡◌, ◌<◌, ◌≤◌, ◌^◌, ◌%◌, ℕ, zero, suc, List, [], ◌∷◌, ◌++◌, length, codes, refl, sym, ap, ◌∙◌, arith, bit_xor, lit<}
use Rattle.std.specs.Int.{to_be_bytes, w32}
use Rattle.std.specs.Prelude.{slice_index}
use lib.Bits.{xor_assoc, xor_self, xor_zero_r, xor_lt}
use Rattle.sha2.specs.Sha256.{sha256, digest_bytes, final_hash, initial_hash_256}
use Rattle.sha2.proofs.Facts256.{length-sha256}
use Rattle.base64.specs.GeneralPurpose.{IsBytes}
use Rattle.pgw_hash.specs.Hmac.{hmac_sha256}
use Rattle.pgw_hash.specs.Xor.{xor}
use Rattle.pgw_hash.specs.Pbkdf2.{salted_password}
use Rattle.pgw_scram.specs.Formulas.{client_key}
use Rattle.pgw_secrets.specs.Secret.{IsScramKey, IsStoredSecret, secret_of}

-- ---- bytes

bytes_append : (a b : List ℕ) → IsBytes a → IsBytes b → IsBytes (a ++ b)
bytes_append [] b x y i = y i
bytes_append (c ∷ a) b x y zero = x 0
bytes_append (c ∷ a) b x y (suc i) = bytes_append a b (λ k. x (suc k)) y i

below_256 : (n : ℕ) → n % 256 < 256
below_256 n = omega arith

four_bytes : (a b c d : ℕ) → IsBytes ((a % 256) ∷ (b % 256) ∷ (c % 256) ∷ (d % 256) ∷ [])
four_bytes a b c d zero = below_256 a
four_bytes a b c d (suc zero) = below_256 b
four_bytes a b c d (suc (suc zero)) = below_256 c
four_bytes a b c d (suc (suc (suc zero))) = below_256 d
four_bytes a b c d (suc (suc (suc (suc i)))) = lit< tt

word_bytes : (n : ℕ) → IsBytes (to_be_bytes w32 n)
word_bytes n = four_bytes _ _ _ _

no_bytes : IsBytes []
no_bytes i = lit< tt

digest_is_bytes : (h : List ℕ) (n : ℕ) → IsBytes (digest_bytes h n)
unfolding digest_bytes
digest_is_bytes h zero = no_bytes
digest_is_bytes h (suc n) =
    bytes_append (digest_bytes h n) (to_be_bytes w32 (slice_index h n)) (digest_is_bytes h n)
    (word_bytes (slice_index h n))

pub sha256_key : (m : List ℕ) → IsScramKey (sha256 m)
unfolding sha256
sha256_key m = (length-sha256 m, digest_is_bytes (final_hash initial_hash_256 m) 8)

pub hmac_key : (key text : List ℕ) → IsScramKey (hmac_sha256 key text)
unfolding hmac_sha256
hmac_key key text = sha256_key _

pub made_kept : (password salt : List ℕ) (count : ℕ) → 1 ≤ count → count < 2 ^ 32 → IsBytes salt
    → IsStoredSecret (secret_of password salt count)
made_kept password salt count least most bytes = record {
  at_least_one = least;
  in_32_bits = most;
  salt_bytes = bytes;
  stored_bytes = sha256_key (client_key (salted_password password salt count));
  server_bytes = hmac_key (salted_password password salt count) (codes "Server Key");
}

-- ---- exclusive or

twice : (a b : ℕ) → bit_xor (bit_xor a b) b ≡ a
twice a b = xor_assoc a b b ∙ ap (bit_xor a) (xor_self b) ∙ xor_zero_r a

pub xor_twice : (xs ys : List ℕ) → length xs ≡ length ys → xor (xor xs ys) ys ≡ xs
unfolding xor
xor_twice [] ys e = refl
xor_twice (x ∷ xs) [] e = absurd (omega (arith, e))
xor_twice (x ∷ xs) (y ∷ ys) e =
    let rest = xor_twice xs ys (omega (arith, e)) in
    rw (twice x y, rest) refl

xor_length : (xs ys : List ℕ) → length xs ≡ length ys → length (xor xs ys) ≡ length xs
unfolding xor
xor_length [] ys e = refl
xor_length (x ∷ xs) [] e = absurd (omega (arith, e))
xor_length (x ∷ xs) (y ∷ ys) e = let rest = xor_length xs ys (omega (arith, e)) in omega (arith, rest)

xor_bytes : (xs ys : List ℕ) → IsBytes xs → IsBytes ys → IsBytes (xor xs ys)
unfolding xor
xor_bytes [] ys a b i = lit< tt
xor_bytes (x ∷ xs) [] a b i = lit< tt
xor_bytes (x ∷ xs) (y ∷ ys) a b zero = xor_lt 8 x y (a 0) (b 0)
xor_bytes (x ∷ xs) (y ∷ ys) a b (suc i) = xor_bytes xs ys (λ k. a (suc k)) (λ k. b (suc k)) i

pub xor_key : (xs ys : List ℕ) → IsScramKey xs → IsScramKey ys → IsScramKey (xor xs ys)
xor_key xs ys a b = (xor_length xs ys (a.0 ∙ sym b.0) ∙ a.0, xor_bytes xs ys a.1 b.1)
