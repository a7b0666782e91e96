-- Attributes are found just where they stand.
use Rattle.std.proofs.Common.{◌≡◌, ℕ, ◌==◌, Bool, true, false, not, List, [], ◌∷◌, ◌++◌, Option, Some, None, refl, ap, ◌∙◌, cond}
use Rattle.std.specs.Option.{option_map}
use Rattle.std.specs.List.{list_all}
use Rattle.std.proofs.lemmas.Bool.{and_parts, eqb-true, eq-eqb, not-true}
use Rattle.pgw_scram.specs.Attributes.{IsValue, more_attributes, attribute}
use Rattle.pgw_scram.specs.Readers.{cut, onto_front, cut_last, behind_name, attribute_at}

-- ---- the first comma

pub cut_of : (value : List ℕ) (more : Option (List ℕ)) → IsValue value
    → cut (value ++ more_attributes more) ≡ (value, more)
unfolding cut
cut_of [] None h = refl
cut_of [] (Some more) h = refl
cut_of (b ∷ value) more h =
    let q = and_parts (not (b == 44)) (list_all (λ b. not (b == 44)) value) h in
    rw (not-true (b == 44) q.0, cut_of value more q.1) refl

abbrev IsCut : List ℕ → List ℕ × Option (List ℕ) → Type 0
IsCut text parts = (text ≡ parts.0 ++ more_attributes parts.1) × IsValue parts.0

cut_by : (b : ℕ) (text : List ℕ) (parts : List ℕ × Option (List ℕ)) (comma : Bool) → (b == 44) ≡ comma
    → IsCut text parts → IsCut (b ∷ text) (cond comma ([], Some text) (b ∷ parts.0, parts.1))
cut_by b text parts true e h = (ap (λ x. x ∷ text) (eqb-true b 44 e), refl)
cut_by b text parts false e h = (ap (λ (l : List ℕ). b ∷ l) h.0, rw (e, h.1) refl)

pub cut_is : (text : List ℕ) → (text ≡ (cut text).0 ++ more_attributes (cut text).1) × IsValue (cut text).0
unfolding cut
cut_is [] = (refl, refl)
cut_is (b ∷ text) = cut_by b text (cut text) (b == 44) refl (cut_is text)

-- ---- the last comma

pub no_comma : (value : List ℕ) → IsValue value → cut_last value ≡ None
unfolding cut_last
no_comma [] h = refl
no_comma (b ∷ value) h =
    let q = and_parts (not (b == 44)) (list_all (λ b. not (b == 44)) value) h in
    rw (no_comma value q.1, not-true (b == 44) q.0) refl

pub cut_last_of : (front value : List ℕ) → IsValue value → cut_last (front ++ 44 ∷ value) ≡ Some (front, value)
unfolding cut_last
cut_last_of [] value h = rw (no_comma value h) refl
cut_last_of (b ∷ front) value h = rw (cut_last_of front value h) refl

abbrev pub IsLastCut : List ℕ → Option (List ℕ × List ℕ) → Type 0
IsLastCut text None = IsValue text
IsLastCut text (Some parts) = (text ≡ parts.0 ++ 44 ∷ parts.1) × IsValue parts.1

last_by : (b : ℕ) (text : List ℕ) (comma : Bool) → (b == 44) ≡ comma → IsValue text
    → IsLastCut (b ∷ text) (cond comma (Some ([], text)) None)
last_by b text true e h = (ap (λ x. x ∷ text) (eqb-true b 44 e), h)
last_by b text false e h = rw (e, h) refl

last_onto : (b : ℕ) (text : List ℕ) (found : Option (List ℕ × List ℕ)) → IsLastCut text found
    → IsLastCut (b ∷ text) (onto_front b text found)
last_onto b text None h = last_by b text (b == 44) refl h
last_onto b text (Some parts) h = (ap (λ (l : List ℕ). b ∷ l) h.0, h.1)

pub cut_last_is : (text : List ℕ) → IsLastCut text (cut_last text)
unfolding cut_last
cut_last_is [] = refl
cut_last_is (b ∷ text) = last_onto b text (cut_last text) (cut_last_is text)

-- ---- names

pub behind_name_of : (name rest : List ℕ) → behind_name name (name ++ rest) ≡ Some rest
unfolding behind_name
behind_name_of [] rest = refl
behind_name_of (c ∷ name) rest = rw (eq-eqb c c refl, behind_name_of name rest) refl

name_by : (c b : ℕ) (name text rest : List ℕ) (same : Bool) → (b == c) ≡ same
    → (behind_name name text ≡ Some rest → text ≡ name ++ rest)
    → cond same (behind_name name text) None ≡ Some rest → b ∷ text ≡ c ∷ (name ++ rest)
name_by c b name text rest true e more found = rw (eqb-true b c e, more found) refl
name_by c b name text rest false e more found = cc

pub behind_name_is : (name text rest : List ℕ) → behind_name name text ≡ Some rest → text ≡ name ++ rest
unfolding behind_name
behind_name_is [] text rest found = cc
behind_name_is (c ∷ name) [] rest found = cc
behind_name_is (c ∷ name) (b ∷ text) rest found =
    name_by c b name text rest (b == c) refl (behind_name_is name text rest) found

-- ---- attributes

pub attribute_of : (name value : List ℕ) (more : Option (List ℕ)) → IsValue value
    → attribute_at name (attribute name value more) ≡ Some (value, more)
attribute_of name value more h =
    rw (behind_name_of name (value ++ more_attributes more), cut_of value more h) refl

attribute_by : (name text : List ℕ) (found : Option (List ℕ)) (parts : List ℕ × Option (List ℕ))
    → behind_name name text ≡ found → option_map cut found ≡ Some parts
    → (text ≡ attribute name parts.0 parts.1) × IsValue parts.0
attribute_by name text None parts e is = cc
attribute_by name text (Some rest) parts e is =
    let same : cut rest ≡ parts = cc in
    let whole = cut_is rest in
    rw (← same) (behind_name_is name text rest e ∙ ap (λ (l : List ℕ). name ++ l) whole.0, whole.1)

pub attribute_is : (name text : List ℕ) (parts : List ℕ × Option (List ℕ)) → attribute_at name text ≡ Some parts
    → (text ≡ attribute name parts.0 parts.1) × IsValue parts.0
attribute_is name text parts is = attribute_by name text (behind_name name text) parts refl is
