-- A body that is being written.
use Rattle.std.specs.Prelude.{ℕ, List, refl}
use Rattle.std.specs.Coded.{Coded, code_by, coded×, coded_list, coded_ℕ}

-- what was written of it, and what stood before it
pub record Draft : Type 0 where
  pub before : List ℕ
  pub body : List ℕ

-- it is stored as the pair of its fields
abbrev pub draft_code : Coded Draft
draft_code =
    code_by (List ℕ × List ℕ) (coded× (coded_list coded_ℕ) (coded_list coded_ℕ))
    (λ d. (d.before, d.body)) (λ p. record { before = p.0; body = p.1 }) (λ _. refl)
