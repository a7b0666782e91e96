-- Base64 (RFC 4648, section 4), as the texts of SCRAM have it (RFC 5802, section 5.1).
use Rattle.std.specs.Prelude.{ℕ, List, Option}
use Rattle.base64.specs.Engines.{standard}
use Rattle.base64.specs.GeneralPurpose.{encode_of, decoded_of}

unfoldable pub base64 : List ℕ → List ℕ
base64 bytes = encode_of standard bytes

-- the text of a nonce's bytes
abbrev pub nonce_text : List ℕ → List ℕ
nonce_text bytes = base64 bytes

-- the bytes that a salt's text stands for, if it is base64
unfoldable pub salt_of : List ℕ → Option (List ℕ)
salt_of text = decoded_of standard text
