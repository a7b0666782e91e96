-- PBKDF2 (RFC 8018, section 5.2) with HMAC-SHA-256, for a key of one block of 32 bytes. It is the
-- function Hi of RFC 5802, section 2.2.
use Rattle.std.specs.Prelude.{ℕ, zero, suc, List, [], ◌∷◌, ◌++◌}
use Rattle.std.specs.Int.{w32, to_be_bytes}
use Rattle.std.specs.List.{fold}
use Rattle.pgw_hash.specs.Xor.{xor}
use Rattle.pgw_hash.specs.Hmac.{hmac_sha256}
use Rattle.pgw_hash.specs.Saslprep.{saltable}

-- INT (i): the number of a block as four octets, the most significant first
abbrev pub block_number : ℕ → List ℕ
block_number i = to_be_bytes w32 i

-- U 1 to U c, of which the first is given and each further one is the PRF of the one before it
unfoldable pub terms : (List ℕ → List ℕ) → List ℕ → ℕ → List (List ℕ)
terms prf u zero = []
terms prf u (suc c) = u ∷ terms prf (prf u) c

-- U 1 \xor U 2 \xor ... \xor U c
unfoldable pub xor_all : List (List ℕ) → List ℕ
xor_all [] = []
xor_all (u ∷ us) = fold xor u us

-- U 1 = PRF (P, S || INT (1))
abbrev pub first_term : List ℕ → List ℕ → List ℕ
first_term password salt = hmac_sha256 password (salt ++ block_number 1)

-- F (P, S, c, 1) = U 1 \xor U 2 \xor ... \xor U c
unfoldable pub hi : List ℕ → List ℕ → ℕ → List ℕ
hi password salt count = xor_all (terms (hmac_sha256 password) (first_term password salt) count)

-- SaltedPassword := Hi (Normalize (password), salt, i) (RFC 5802, section 3)
abbrev pub salted_password : List ℕ → List ℕ → ℕ → List ℕ
salted_password password salt iters = hi (saltable password) salt iters
