-- Shares of a right that many hold together, as fractions.
use Rattle.std.specs.Prelude.{◌≡◌, ℕ, ◌+◌, ◌*◌, ◌<◌, ◌≤◌, List, [], ◌∷◌}
use Rattle.pgw_registry.specs.declared.share.Share.{Share}

abbrev pub share : ℕ → ℕ → Share
share parts whole = record { parts = parts; whole = whole }

-- the whole right
abbrev pub IsWholeShare : Share → Type 0
IsWholeShare s = s.parts ≡ s.whole

abbrev pub everything : Share
everything = share 1 1

abbrev pub none : Share
none = share 0 1

abbrev pub half : Share → Share
half s = share s.parts (s.whole + s.whole)

-- it is no more than the right
abbrev pub IsWithinWhole : Share → Type 0
IsWithinWhole s = s.parts ≤ s.whole

-- the sum of two
abbrev pub together : Share → Share → Share
together s t = share (s.parts * t.whole + t.parts * s.whole) (s.whole * t.whole)

-- it is some part of the right
abbrev pub IsSomeShare : Share → Type 0
IsSomeShare s = (0 < s.parts) × (0 < s.whole)

-- where the right has k units, the share has n of them
abbrev pub HasUnits : ℕ → ℕ → Share → Type 0
HasUnits k n s = (n * s.whole ≡ s.parts * k) × (0 < s.whole)

module _ {A : Type 0} (share_of : A → Share) where
  -- where the right has k units, the shares of these have n of them together
  abbrev pub HaveUnits : ℕ → ℕ → List A → Type 0
  HaveUnits k n [] = n ≡ 0
  HaveUnits k n (x ∷ xs) =
      (m : ℕ) × (rest : ℕ) × (n ≡ m + rest) × HasUnits k m (share_of x) × HaveUnits k rest xs

  -- together they have the whole right
  pub record AddUp (xs : List A) : Type 0 where
    pub units : ℕ
    pub some : 0 < units
    pub all : HaveUnits units units xs
