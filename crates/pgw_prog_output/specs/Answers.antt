-- The text of an answer.
use Rattle.std.specs.Prelude.{◌≡◌, ℕ, List, [], ◌∷◌, ◌++◌, Option, Some, None}
use Rattle.pgw_prog_output.specs.declared.printer.RowFormat.{RowFormat}
use Rattle.pgw_prog_output.specs.declared.printer.RowPrinter.{RowPrinter}
use Rattle.pgw_prog_output.specs.Columns.{Value}
use Rattle.pgw_prog_output.specs.Printing.{output_text, text_for}
use Rattle.pgw_prog_output.specs.declared.said.Said.{Said}
use Rattle.pgw_prog_output.specs.declared.said.Said.TheVariants as said
use Rattle.pgw_prog_output.specs.declared.answer.Answer.{Answer}
use Rattle.pgw_prog_output.specs.Said.{open_columns}

-- the rows of a result, whose columns stand before these messages: up to the first that is neither
-- a row nor beside the answer
abbrev pub said_rows : List Said → List (List Value)
said_rows [] = []
said_rows (said.Row values ∷ more) = values ∷ said_rows more
said_rows (said.Beside ∷ more) = said_rows more
said_rows (m ∷ more) = []

-- the text of each result of an answer, in order
abbrev pub answer_text : RowFormat → List Said → List ℕ
answer_text f [] = []
answer_text f (said.Columns columns ∷ more) =
    output_text f columns (said_rows more) ++ answer_text f more
answer_text f (m ∷ more) = answer_text f more

-- ---- an answer of which these messages are still to come

abbrev pub open_text : Option RowPrinter → List Said → List ℕ
open_text None more = []
open_text (Some printer) more = text_for printer (said_rows more)

-- what is to be printed: the rest of the result that is open, and the results behind it
abbrev pub rest_text : Answer → List Said → List ℕ
rest_text a more = open_text a.printer more ++ answer_text a.format more

-- how many columns the result has that is open, where one is
abbrev pub opened_if : Option RowPrinter → ℕ → Option ℕ
opened_if None count = None
opened_if (Some printer) count = Some count

abbrev pub columns_open : Answer → Option ℕ
columns_open a = opened_if a.printer a.columns

-- whatever comes, what is printed now and then is what was to be printed of this and of that
pub record HearsSaid (old : Answer) (this : Said) (before after : List ℕ) (new : Answer) : Type 0
  where
    pub text : (more : List Said) → after ++ rest_text new more ≡ before ++ rest_text old (this ∷
        more)
    pub open_is : columns_open new ≡ open_columns (columns_open old) this

-- what was open is printed to its end
pub record Shuts (old : Answer) (before after : List ℕ) (new : Answer) : Type 0 where
  pub text : after ≡ before ++ open_text old.printer []
  pub shut : new.printer ≡ None
  pub format : new.format ≡ old.format
