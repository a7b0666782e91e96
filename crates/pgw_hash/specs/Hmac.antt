-- HMAC (RFC 2104) with SHA-256. Section numbers are that document's.
use Rattle.std.specs.Prelude.{ℕ, ◌-◌, List, ◌++◌, length, replicate, nat_lt, if◌then◌else◌}
use Rattle.sha2.specs.Sha256.{sha256}
use Rattle.pgw_hash.specs.Xor.{xor}

-- a key longer than a block of 64 bytes is first hashed (2)
abbrev pub fitting_key : List ℕ → List ℕ
fitting_key key = if nat_lt 64 (length key) then sha256 key else key

-- zeros appended to the end, to make a string of 64 bytes (2, step 1)
unfoldable pub zero_filled : List ℕ → List ℕ
zero_filled key = key ++ replicate (64 - length key) 0

-- K, as a block
abbrev pub block_key : List ℕ → List ℕ
block_key key = zero_filled (fitting_key key)

-- the byte 0x36 repeated 64 times (2)
unfoldable pub ipad : List ℕ
ipad = replicate 64 0x36

-- the byte 0x5C repeated 64 times (2)
unfoldable pub opad : List ℕ
opad = replicate 64 0x5C

-- H(K XOR opad, H(K XOR ipad, text)) (2)
unfoldable pub hmac_sha256 : List ℕ → List ℕ → List ℕ
hmac_sha256 key text =
    sha256 (xor (block_key key) opad ++ sha256 (xor (block_key key) ipad ++ text))
