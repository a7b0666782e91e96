-- What is written of an answer.
use Rattle.std.specs.Prelude.{◌≡◌, ◌||◌, ℕ, List, [], ◌∷◌, ◌++◌, Bool}
use Rattle.pgw_types.specs.Counts.{Rose}
use Rattle.pgw_prog_output.specs.declared.said.Said.{Said}
use Rattle.pgw_prog_output.specs.declared.answer.Answer.{Answer}
use Rattle.pgw_prog_output.specs.declared.page.Page.{Page}
use Rattle.pgw_prog_output.specs.declared.page.Stop.{Stop}
use Rattle.pgw_prog_output.specs.declared.page.Stop.TheVariants as stop
use Rattle.pgw_prog_output.specs.Answers.{columns_open, rest_text}
use Rattle.pgw_prog_output.specs.Said.{is_failed, opened_behind}

-- what was written, what waits to be written, where the printing of the answer stands, and whether
-- the server answered an error
pub record Sheet : Type 0 where
  pub wrote : List ℕ
  pub waits : List ℕ
  pub answer : Answer
  pub failed : Bool

abbrev pub sheet : List ℕ → Page → Sheet
sheet wrote page = record {
  wrote = wrote;
  waits = page.out.items;
  answer = page.answer;
  failed = page.failed;
}

-- all that is written in the end, where these messages are still to come
abbrev pub whole_text : Sheet → List Said → List ℕ
whole_text s more = (s.wrote ++ s.waits) ++ rest_text s.answer more

-- whether an error is among these, or was before
abbrev pub failed_behind : Bool → List Said → Bool
failed_behind before [] = before
failed_behind before (s ∷ more) = failed_behind (before || is_failed s) more

-- these were heard: whatever comes, what is written in the end is as it was to be of these and that
pub record PrintsHeard (heard : List Said) (old new : Sheet) : Type 0 where
  pub text : (more : List Said) → whole_text new more ≡ whole_text old (heard ++ more)
  pub failed : new.failed ≡ failed_behind old.failed heard
  pub open_is : columns_open new.answer ≡ opened_behind (columns_open old.answer) heard

-- what is written is a front of what was to be written of these
abbrev pub IsFront : List Said → Sheet → List ℕ → Type 0
IsFront heard old wrote = (rest : List ℕ) × (wrote ++ rest ≡ whole_text old heard)

-- a write failed, which the sink's count tells, or memory ran out
abbrev pub HasStopped : ℕ → ℕ → Stop → Type 0
HasStopped before now stop.Output = Rose before now
HasStopped before now stop.Memory = now ≡ before
