-- What the functions of a reader find at the front of a text, or that it is not there.
use Rattle.std.specs.Prelude.{◌≡◌, ◌<◌, ℕ, List, ◌∷◌, ◌++◌, not, ◌==◌, true, Option, Some, None}
use Rattle.std.specs.List.{list_all}
use Rattle.base64.specs.GeneralPurpose.{IsBytes}
use Rattle.pgw_types.specs.Numbers.{number_in}
use Rattle.pgw_scram.specs.Base64.{base64}
use Rattle.pgw_secrets.specs.Secret.{IsScramKey}
use Rattle.pgw_secrets.specs.Text.{IsCounted, IsSalted, IsKeyed, HasSecretName, HasName}

-- ---- base64

abbrev pub BytesIn : List ℕ → Option (List ℕ) → Type 0
BytesIn text (Some bytes) = (text ≡ base64 bytes) × IsBytes bytes
BytesIn text None = (bytes : List ℕ) → text ≡ base64 bytes → IsBytes bytes → ⊥

abbrev pub KeyIn : List ℕ → Option (List ℕ) → Type 0
KeyIn text (Some key) = (text ≡ base64 key) × IsScramKey key
KeyIn text None = (key : List ℕ) → text ≡ base64 key → IsScramKey key → ⊥

-- ---- parts

-- no such mark stands in a text
abbrev pub Lacks : ℕ → List ℕ → Type 0
Lacks mark text = list_all (λ b. not (b == mark)) text ≡ true

-- what stands before the first mark, and behind it
abbrev pub CutAt : ℕ → List ℕ → Option (List ℕ × List ℕ) → Type 0
CutAt mark text (Some (before, behind)) = (text ≡ before ++ mark ∷ behind) × Lacks mark before
CutAt mark text None = Lacks mark text

abbrev pub NameIn : List ℕ → Option (List ℕ) → Type 0
NameIn text (Some behind) = HasSecretName text behind
NameIn text None = HasName text → ⊥

-- a whole number from 1 to 4294967295
abbrev pub CountOf : List ℕ → Option ℕ → Type 0
CountOf text (Some count) = (number_in 32 text ≡ Some count) × (0 < count)
CountOf text None = (count : ℕ) → number_in 32 text ≡ Some count → 0 < count → ⊥

abbrev pub CountIn : List ℕ → Option (ℕ × List ℕ) → Type 0
CountIn text (Some (count, behind)) = IsCounted text count behind
CountIn text None = (count : ℕ) (behind : List ℕ) → IsCounted text count behind → ⊥

abbrev pub SaltIn : List ℕ → Option (List ℕ × List ℕ) → Type 0
SaltIn text (Some (salt, behind)) = IsSalted text salt behind
SaltIn text None = (salt behind : List ℕ) → IsSalted text salt behind → ⊥

abbrev pub StoredKeyIn : List ℕ → Option (List ℕ × List ℕ) → Type 0
StoredKeyIn text (Some (key, behind)) = IsKeyed text key behind
StoredKeyIn text None = (key behind : List ℕ) → IsKeyed text key behind → ⊥
