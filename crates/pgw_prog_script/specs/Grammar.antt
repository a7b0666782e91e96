-- The grammar of scripts of every kind, over the lines of a text.
use Rattle.std.specs.Prelude.{◌≡◌, ◌↔◌, ℕ, ◌+◌, List, [], ◌∷◌, ◌++◌, Bool, true, false, ◌&&◌, length, map, fold, Option, Some, None, Result, Ok, Err}
use Rattle.pgw_prog_script.specs.Form.{Form, lines_of, read_script}

-- these texts say these things
abbrev pub Say : {L P S : Type 0} → Form L P S → List (List ℕ) → List L → Type 0
Say form texts said = map form.line_of texts ≡ map Some said

-- each line may follow the one before it
abbrev pub in_order : {L P S : Type 0} → Form L P S → P → List L → Bool
in_order form before [] = true
in_order form before (l ∷ ls) =
    form.may_follow before (form.place_of l) && in_order form (form.place_of l) ls

abbrev pub last_place : {L P S : Type 0} → Form L P S → P → List L → P
last_place form before [] = before
last_place form before (l ∷ ls) = last_place form (form.place_of l) ls

-- the lines of the text are in the grammar, and together they say this
pub record IsScriptIn {L P S : Type 0} (form : Form L P S) (text : List ℕ) (script : S)
    : Type 0 where
  pub said : List L
  pub lines : Say form (lines_of text) said
  pub ordered : in_order form form.start said ≡ true
  pub ended : form.may_end (last_place form form.start said) ≡ true
  pub means : script ≡ fold form.with_line form.first said

-- a line that is none, or may not stand behind this place
abbrev pub MisplacedLine : {L P S : Type 0} → Form L P S → P → Option L → Type 0
MisplacedLine form before None = Unit {0}
MisplacedLine form before (Some l) = form.may_follow before (form.place_of l) ≡ false

-- the first of these lines may not stand behind this place; or there is none, and the script may not end there
abbrev pub Stuck : {L P S : Type 0} → Form L P S → P → List (List ℕ) → Type 0
Stuck form before [] = form.may_end before ≡ false
Stuck form before (text ∷ more) = MisplacedLine form before (form.line_of text)

-- the lines before line n are in the grammar so far, and the line n is the first outside it
pub record IsFaultIn {L P S : Type 0} (form : Form L P S) (text : List ℕ) (n : ℕ) : Type 0 where
  pub front : List (List ℕ)
  pub behind : List (List ℕ)
  pub cut : lines_of text ≡ front ++ behind
  pub said : List L
  pub lines : Say form front said
  pub ordered : in_order form form.start said ≡ true
  pub stuck : Stuck form (last_place form form.start said) behind
  pub number : n ≡ length front + 1

-- what is read of a text is what the grammar says of it, and nothing else is
abbrev pub ScriptsAreRead : {L P S : Type 0} → Form L P S → Type 0
ScriptsAreRead {S = S} form =
    (text : List ℕ) (script : S)
    → (read_script form text ≡ Ok script) ↔ IsScriptIn form text script

abbrev pub FaultsAreRead : {L P S : Type 0} → Form L P S → Type 0
FaultsAreRead form =
    (text : List ℕ) (n : ℕ) → (read_script form text ≡ Err n) ↔ IsFaultIn form text n

-- what a text is: a script, or one whose first line outside the grammar has this number
abbrev pub IsScriptReadAs : {L P S : Type 0} → Form L P S → List ℕ → Result S ℕ → Type 0
IsScriptReadAs form text (Ok script) = IsScriptIn form text script
IsScriptReadAs form text (Err n) = IsFaultIn form text n

-- it is one of these, and in one way
pub record HasOneReading {L P S : Type 0} (form : Form L P S) (text : List ℕ) : Type 0 where
  pub reading : Result S ℕ
  pub is_read : IsScriptReadAs form text reading
  pub only : (other : Result S ℕ) → IsScriptReadAs form text other → other ≡ reading

abbrev pub EachTextIsOne : {L P S : Type 0} → Form L P S → Type 0
EachTextIsOne form = (text : List ℕ) → HasOneReading form text
