-- What a dialer and its links tell.
use Rattle.std.specs.Prelude.{ℕ, List, Option}
use Rattle.pgw_link.specs.Tape.{Tape}
use Rattle.pgw_link.specs.Dials.{DialTape}

-- Of the dialer whether the links that it offers are known, these, its dials, and how many of its
-- calls failed. Of a link whether what is to come is known, that, what it moved, and how many of
-- its calls failed.
pub record Telling (Y X : Type 0) : Type 1 where
  pub foretells : Type 0
  pub offers : Y → Option (List (List ℕ))
  pub dials : Y → DialTape
  pub failed : Y → ℕ
  pub knows : Type 0
  pub left : X → Option (List ℕ)
  pub tape : X → Tape
  pub faults : X → ℕ

abbrev pub telling : {Y X : Type 0} → Type 0 → (Y → Option (List (List ℕ))) → (Y → DialTape) →
    (Y → ℕ) → Type 0 → (X → Option (List ℕ)) → (X → Tape) → (X → ℕ) → Telling Y X
telling foretells offers dials failed knows left tape faults = record {
  foretells = foretells;
  offers = offers;
  dials = dials;
  failed = failed;
  knows = knows;
  left = left;
  tape = tape;
  faults = faults;
}
