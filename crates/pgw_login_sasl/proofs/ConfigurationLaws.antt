-- Where an issuer tells its configuration.
use Rattle.std.proofs.Common.{◌≡◌, ◌↔◌, ℕ, Bool, true, false, List, ◌++◌, codes, Result, Ok, Err, IfOk, inl, inr}
use Rattle.std.specs.Str.Iter.{HasSubslice}
use Rattle.pgw_login_sasl.specs.ErrorText.{IsConfiguration}

pub kept : {E : Type 0} (contains : Bool) (issuer : List ℕ) (r : Result (List ℕ) E)
    → (contains ≡ true) ↔ HasSubslice issuer (codes "/.well-known/") → contains ≡ true →
    IfOk r (λ t. t ≡ issuer) → IfOk r (λ t. IsConfiguration issuer t)
kept contains issuer (Ok t) means holds same = inl (means.0 holds, same)
kept contains issuer (Err e) means holds same = tt

pub usual : (contains : Bool) (issuer text : List ℕ)
    → (contains ≡ true) ↔ HasSubslice issuer (codes "/.well-known/") → contains ≡ false →
    text ≡ issuer ++ codes "/.well-known/openid-configuration" → IsConfiguration issuer text
usual contains issuer text means lacks is =
    inr (
      λ (has : HasSubslice issuer (codes "/.well-known/")). (let holds : contains ≡ true = means.1 has in cc),
      is,
    )
