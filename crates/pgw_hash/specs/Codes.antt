-- What a code in the making holds.
use Rattle.std.specs.Prelude.{ℕ, List, ◌++◌}
use Rattle.sha2.specs.Hashers.{Holds256}
use Rattle.pgw_hash.specs.Xor.{xor}
use Rattle.pgw_hash.specs.Hmac.{block_key, ipad, opad}
use Rattle.pgw_hash.specs.declared.hmac.Hmac.{Hmac}

-- one hasher has taken in K XOR ipad and the text, the other K XOR opad (RFC 2104, section 2)
pub record HasTaken (key text : List ℕ) (code : Hmac) : Type 0 where
  pub inner : Holds256 code.inner (xor (block_key key) ipad ++ text)
  pub outer : Holds256 code.outer (xor (block_key key) opad)
