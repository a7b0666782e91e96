-- The MD5 password (PostgreSQL, Frontend/Backend Protocol, AuthenticationMD5Password).
use Rattle.std.specs.Prelude.{ℕ, List, ◌++◌, codes}
use Rattle.md5.specs.Md5.{md5}
use Rattle.hex.specs.Hex.{encode_lower}

-- md5() of that document gives its result as a lower-case text of hex digits
abbrev pub md5_hex : List ℕ → List ℕ
md5_hex message = encode_lower (md5 message)

-- concat('md5', md5(concat(md5(concat(password, username)), random-salt)))
unfoldable pub md5_password : List ℕ → List ℕ → List ℕ → List ℕ
md5_password username password salt =
    codes "md5" ++ md5_hex (md5_hex (password ++ username) ++ salt)
