-- Scripts of every kind: texts of lines, each of which says one thing.
use Rattle.std.specs.Prelude.{◌≡◌, ℕ, ◌+◌, List, [], ◌∷◌, Bool, ◌==◌, Option, Some, None, Result, Ok, Err, if◌then◌else◌}
use Rattle.std.specs.List.{slice_split}
use Rattle.pgw_prog_script.specs.declared.lines.ScriptFault.{ScriptFault}
use Rattle.pgw_prog_script.specs.declared.lines.ScriptFault.TheVariants as fault

-- the lines of a text: each ends with a line feed, which the last may lack
abbrev pub but_empty_end : List (List ℕ) → List (List ℕ)
but_empty_end [] = []
but_empty_end ([] ∷ []) = []
but_empty_end ((b ∷ bs) ∷ []) = (b ∷ bs) ∷ []
but_empty_end (l ∷ m ∷ more) = l ∷ but_empty_end (m ∷ more)

unfoldable pub lines_of : List ℕ → List (List ℕ)
lines_of text = but_empty_end (slice_split (λ b. b == 10) text)

-- A kind of scripts: what a line says, in which place it stands, which place may follow which, behind which a script may
-- end, and what a line adds to what those before it say.
pub record Form (Line Place Script : Type 0) : Type 0 where
  pub line_of : List ℕ → Option Line
  pub place_of : Line → Place
  pub may_follow : Place → Place → Bool
  pub may_end : Place → Bool
  pub start : Place
  pub first : Script
  pub with_line : Script → Line → Script

-- the place and the script behind a line that may stand there
abbrev pub step : {L P S : Type 0} → Form L P S → P → S → Option L → Option (P × S)
step form p s None = None
step form p s (Some l) =
    if form.may_follow p (form.place_of l) then Some (form.place_of l, form.with_line s l) else
    None

abbrev pub then_script_line : {P S : Type 0} → Option (P × S) → (P → S → Result S ℕ) → ℕ
    → Result S ℕ
then_script_line None rest n = Err n
then_script_line (Some next) rest n = rest next.0 next.1

-- what the lines say from a place on, where n lines stood before; or the number of the first that may not stand there,
-- one more than all where they end too early
abbrev pub read_lines : {L P S : Type 0} → Form L P S → P → S → ℕ → List (List ℕ) → Result S ℕ
read_lines form p s n [] = if form.may_end p then Ok s else Err (n + 1)
read_lines form p s n (l ∷ ls) =
    then_script_line (step form p s (form.line_of l)) (λ q t. read_lines form q t (n + 1) ls)
    (n + 1)

unfoldable pub read_script : {L P S : Type 0} → Form L P S → List ℕ → Result S ℕ
read_script form text = read_lines form form.start form.first 0 (lines_of text)

-- the answer, but for want of memory
abbrev pub ReadsScript : {S : Type 0} → Result S ScriptFault → Result S ℕ → Type 0
ReadsScript (Ok s) r = r ≡ Ok s
ReadsScript (Err (fault.Line n)) r = r ≡ Err n
ReadsScript (Err fault.OutOfMemory) r = Unit {0}
