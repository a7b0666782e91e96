-- The terms of Hi from left to right.
use Rattle.std.proofs.Common.{◌≡◌, ℕ, suc, List, refl, sym}
use Rattle.std.specs.List.{fold}
use Rattle.pgw_hash.specs.Xor.{xor}
use Rattle.pgw_hash.specs.Pbkdf2.{terms, xor_all}

module _ (prf : List ℕ → List ℕ) where
  -- what is left to do after one term
  pub begins : (u : List ℕ) (n count : ℕ) → suc n ≡ count
      → fold xor u (terms prf (prf u) n) ≡ xor_all (terms prf u count)
  unfolding terms xor_all
  begins u n count e = rw (sym e) refl

  pub goes_on : (total u : List ℕ) (n m : ℕ) → n ≡ suc m
      → fold xor (xor total (prf u)) (terms prf (prf (prf u)) m) ≡ fold xor total (terms prf (prf u) n)
  unfolding terms
  goes_on total u n m e = rw e refl

  pub ends : (total u : List ℕ) (n : ℕ) → n ≡ 0 → fold xor total (terms prf (prf u) n) ≡ total
  unfolding terms
  ends total u n e = rw e refl
