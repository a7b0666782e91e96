-- Connection texts that are pairs of a key and a value. A text stands here as its characters.
use Rattle.std.specs.Prelude.{◌≡◌, ◌<◌, ℕ, List, [], ◌∷◌, ◌++◌, length, Bool, true, false, not, ◌||◌, ◌==◌, slice_index, Option, Some, None, if◌then◌else◌}
use Rattle.std.specs.List.{list_all, flat_map}
use Rattle.std.specs.Char.{is_whitespace, encode_utf8}
use Rattle.pgw_config_text.specs.declared.part.Part.{Part}
use Rattle.pgw_config_text.specs.declared.part.Part.TheVariants as part
use Rattle.pgw_config_text.specs.declared.part.Fault.{Fault}
use Rattle.pgw_config_text.specs.declared.part.Fault.TheVariants as fault

-- white space alone
abbrev pub IsBlank : List ℕ → Type 0
IsBlank text = list_all is_whitespace text ≡ true

-- white space or an equals sign ends a key
abbrev pub ends_key : ℕ → Bool
ends_key c = is_whitespace c || c == 61

-- a key has one or more characters, and none of them ends it
abbrev pub IsConninfoKey : List ℕ → Type 0
IsConninfoKey key = (0 < length key) × (list_all (λ c. not (ends_key c)) key ≡ true)

-- what ends a value: a quote where it stands in quotes, and else white space
abbrev pub ends_value : Bool → ℕ → Bool
ends_value quoted c = if quoted then c == 39 else is_whitespace c

-- characters that write a value: each stands for itself, and one that a backslash escapes for itself whatever it is
pub data WritesKeyValue : (ℕ → Bool) → List ℕ → List ℕ → Type 0 where
  nothing : {ends : ℕ → Bool} → WritesKeyValue ends [] []
  itself : {ends : ℕ → Bool} {c : ℕ} {cs value : List ℕ} → (c == 92) ≡ false → ends c ≡ false
      → WritesKeyValue ends cs value → WritesKeyValue ends (c ∷ cs) (encode_utf8 c ++ value)
  escaped : {ends : ℕ → Bool} {c : ℕ} {cs value : List ℕ} → WritesKeyValue ends cs value
      → WritesKeyValue ends (92 ∷ c ∷ cs) (encode_utf8 c ++ value)

-- a value without quotes is not empty, and no quote begins it
abbrev pub IsBareValue : List ℕ → List ℕ → Type 0
IsBareValue text value = ((slice_index text 0 == 39) ≡ false) × ((length value == 0) ≡ false)

-- a text is what writes this value, and what stands behind it
pub data IsConninfoValue : List ℕ → List ℕ → List ℕ → Type 0 where
  -- in quotes
  quoted : {text body value rest : List ℕ} → text ≡ 39 ∷ body ++ 39 ∷ rest
      → WritesKeyValue (ends_value true) body value → IsConninfoValue text value rest
  -- up to white space
  bare : {c : ℕ} {text body value rest : List ℕ} → text ≡ body ++ c ∷ rest
      → is_whitespace c ≡ true → WritesKeyValue (ends_value false) body value
      → IsBareValue text value → IsConninfoValue text value (c ∷ rest)
  -- up to the end,
  last : {text value : List ℕ} → WritesKeyValue (ends_value false) text value
      → IsBareValue text value → IsConninfoValue text value []
  -- where a backslash stands for nothing
  stopped : {text body value : List ℕ} → text ≡ body ++ 92 ∷ []
      → WritesKeyValue (ends_value false) body value → IsBareValue text value
      → IsConninfoValue text value []

-- a text is white space, a key, white space, an equals sign, white space, a value, and what stands behind it
pub record IsKeyValuePair (text key value rest : List ℕ) : Type 0 where
  pub first : List ℕ
  pub name : List ℕ
  pub second : List ℕ
  pub third : List ℕ
  pub written : List ℕ
  pub cut : text ≡ first ++ (name ++ (second ++ 61 ∷ (third ++ written)))
  pub first_blank : IsBlank first
  pub second_blank : IsBlank second
  pub third_blank : IsBlank third
  pub is_key : IsConninfoKey name
  pub says_key : key ≡ flat_map encode_utf8 name
  pub says_value : IsConninfoValue written value rest

-- a text is cut into these pairs, up to white space at its end, or up to where no pair begins
pub data IsCut : List ℕ → List Part → Option Fault → Type 0 where
  ended : {text : List ℕ} → IsBlank text → IsCut text [] None
  no_pair : {text : List ℕ} → (IsBlank text → ⊥)
      → ((key value rest : List ℕ) → IsKeyValuePair text key value rest → ⊥)
      → IsCut text [] (Some fault.Syntax)
  paired : {text key value rest : List ℕ} {parts : List Part} {e : Option Fault}
      → IsKeyValuePair text key value rest → IsCut rest parts e
      → IsCut text (part.Pair key value ∷ parts) e
