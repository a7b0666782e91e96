-- What a server says of a login without a token (RFC 7628, section 3.2.2).
use Rattle.std.specs.Prelude.{◌≡◌, ◌⊎◌, ℕ, List, ◌++◌, codes}
use Rattle.std.specs.Str.Iter.{HasSubslice}
use Rattle.serde_json.specs.Data.{Data, string, object, member, no_members}
use Rattle.serde_json.specs.Written.{compact_text}

-- the issuer, if it names where its configuration stands, or else the usual place
abbrev pub IsConfiguration : List ℕ → List ℕ → Type 0
IsConfiguration issuer text =
    (HasSubslice issuer (codes "/.well-known/") × (text ≡ issuer))
    ⊎ (¬ (HasSubslice issuer (codes "/.well-known/")) ×
    (text ≡ issuer ++ codes "/.well-known/openid-configuration"))

abbrev pub object_of : List ℕ → List ℕ → Data
object_of configuration scope =
    object (member (codes "openid-configuration") (string configuration)
    (member (codes "scope") (string scope)
    (member (codes "status") (string (codes "invalid_token")) no_members)))

-- the compact JSON text of that object
abbrev pub IsErrorText : List ℕ → List ℕ → List ℕ → Type 0
IsErrorText issuer scope text =
    (configuration : List ℕ) × IsConfiguration issuer configuration
    × (text ≡ compact_text (object_of configuration scope))
