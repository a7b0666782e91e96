-- The methods of SASL that a server may offer (SASL Authentication; RFC 7677, RFC 7628).
use Rattle.std.specs.Prelude.{ℕ, List, [], ◌∷◌, ◌++◌, codes, Bool, true, false, ◌||◌, Option, Some, None, is_some, if◌then◌else◌}
use Rattle.std.specs.Str.{bytes_eq}
use Rattle.pgw_login_sasl.specs.declared.scram.ScramAuth.{ScramAuth}
use Rattle.pgw_login_sasl.specs.declared.methods.Method.{Method}
use Rattle.pgw_login_sasl.specs.declared.methods.Method.TheVariants.{Scram, OauthBearer}

abbrev pub sasl_method : List ℕ → Option Method
sasl_method name =
    if bytes_eq name (codes "SCRAM-SHA-256") || bytes_eq name (codes "SCRAM-SHA-256-PLUS") then
    Some Scram
    else (if bytes_eq name (codes "OAUTHBEARER") then Some OauthBearer else None)

-- ---- what is offered

-- with a channel binding where a certificate's hash is set
abbrev pub bound_methods : Option (List ℕ) → List (List ℕ)
bound_methods None = []
bound_methods (Some hash) = codes "SCRAM-SHA-256-PLUS" ∷ []

abbrev pub scram_methods : {S : Type 0} → Option (ScramAuth S) → List (List ℕ)
scram_methods None = []
scram_methods (Some scram) =
    codes "SCRAM-SHA-256" ∷ bound_methods scram.authenticator.certificate_hash

abbrev pub oauth_methods : Bool → List (List ℕ)
oauth_methods false = []
oauth_methods true = codes "OAUTHBEARER" ∷ []

-- what is set, in this order
abbrev pub offered_methods : {S O : Type 0} → Option (ScramAuth S) → Option O → List (List ℕ)
offered_methods scram oauth = scram_methods scram ++ oauth_methods (is_some oauth)
