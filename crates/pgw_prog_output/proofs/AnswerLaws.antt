-- What is printed of an answer as it comes.
use Rattle.std.proofs.Common.{◌≡◌, ◌∙◌, ℕ, List, [], ◌∷◌, ◌++◌, Option, Some, None, refl, sym, ap, append_assoc, length}
use Rattle.std.proofs.lemmas.List.{append-nil}
use Rattle.pgw_prog_output.specs.declared.columns.Column.{Column}
use Rattle.pgw_prog_output.specs.declared.printer.RowFormat.{RowFormat}
use Rattle.pgw_prog_output.specs.declared.printer.RowPrinter.{RowPrinter}
use Rattle.pgw_prog_output.specs.Columns.{Value}
use Rattle.pgw_prog_output.specs.Printing.{output_text, text_for, BeginsOutput, PrintsRow}
use Rattle.pgw_prog_output.specs.declared.said.Said.{Said}
use Rattle.pgw_prog_output.specs.declared.said.Said.TheVariants as said
use Rattle.pgw_prog_output.specs.declared.answer.Answer.{Answer}
use Rattle.pgw_prog_output.specs.Said.{open_columns}
use Rattle.pgw_prog_output.specs.Answers.{said_rows, answer_text, open_text, columns_open, opened_if, rest_text, HearsSaid, Shuts}

-- nothing was open
pub shut_none : (f : RowFormat) (n : ℕ) (before : List ℕ)
    → Shuts (record { format = f; printer = None; columns = n }) before before
    (record { format = f; printer = None; columns = 0 })
shut_none f n before = record { text = sym (append-nil before); shut = refl; format = refl }

-- a result was
pub shut_some : (f : RowFormat) (n : ℕ) (printer : RowPrinter) (before after : List ℕ)
    → after ≡ before ++ text_for printer []
    → Shuts (record { format = f; printer = Some printer; columns = n }) before after
    (record { format = f; printer = None; columns = 0 })
shut_some f n printer before after e = record { text = e; shut = refl; format = refl }

-- a result begins where none is open
pub begun : (self : Answer) (columns : List Column) (printer : RowPrinter) (before after : List ℕ)
    → self.printer ≡ None → BeginsOutput self.format columns before after printer
    → HearsSaid self (said.Columns columns) before after
    (record { format = self.format; printer = Some printer; columns = length columns })
begun self columns printer before after none begins = record {
  text = λ more.
      let rest = answer_text self.format more in
      let result = output_text self.format columns (said_rows more) in
      let e : after ++ (text_for printer (said_rows more) ++ rest) ≡ before ++ (result ++ rest) =
      sym (append_assoc after (text_for printer (said_rows more)) rest)
      ∙ ap (λ (t : List ℕ). t ++ rest) (begins (said_rows more)) ∙ append_assoc before result rest in
      rw none e;
  open_is = refl;
}

-- a row of the result that is open
pub row_printed : (self : Answer) (printer next : RowPrinter) (row : List Value) (before after : List ℕ)
    → self.printer ≡ Some printer → PrintsRow printer row before after next
    → HearsSaid self (said.Row row) before after
    (record { format = self.format; printer = Some next; columns = self.columns })
row_printed self printer next row before after is prints = record {
  text = λ more.
      let rest = answer_text self.format more in
      let e : after ++ (text_for next (said_rows more) ++ rest) ≡ before ++
      (text_for printer (row ∷ said_rows more) ++
      rest) =
      sym (append_assoc after (text_for next (said_rows more)) rest)
      ∙ ap (λ (t : List ℕ). t ++ rest) (prints (said_rows more))
      ∙ append_assoc before (text_for printer (row ∷ said_rows more)) rest in
      rw is e;
  open_is = rw is refl;
}

-- and of none
pub row_passed : (f : RowFormat) (n : ℕ) (row : List Value) (before : List ℕ)
    → HearsSaid (record { format = f; printer = None; columns = n }) (said.Row row) before before
    (record { format = f; printer = None; columns = 0 })
row_passed f n row before = record { text = λ more. refl; open_is = refl }

open_beside : (o : Option RowPrinter) (more : List Said) → open_text o (said.Beside ∷ more) ≡ open_text o more
open_beside None more = refl
open_beside (Some printer) more = refl

pub beside_heard : (self : Answer) (before : List ℕ) → HearsSaid self said.Beside before before self
beside_heard self before = record {
  text = λ more. ap (λ (t : List ℕ). before ++ (t ++ answer_text self.format more)) (sym (open_beside self.printer
      more));
  open_is = refl;
}

-- ---- what ends a result

open_shut : (o : Option RowPrinter) (more : List Said) → said_rows more ≡ [] → open_text o more ≡ open_text o []
open_shut None more e = refl
open_shut (Some printer) more e = ap (text_for printer) e

-- behind what was open the results to come are printed
shut_rest : (self new : Answer) (before after : List ℕ) (more : List Said) → Shuts self before after new
    → after ++ rest_text new more ≡ before ++ (open_text self.printer [] ++ answer_text self.format more)
shut_rest self new before after more s =
    let open_is = s.shut in
    let format_is = s.format in
    let text_is = s.text in
    rw open_is (rw format_is (rw text_is (append_assoc before (open_text self.printer []) (answer_text self.format
    more))))

open_none : (a : Answer) → a.printer ≡ None → columns_open a ≡ None
open_none a e = ap (λ (p : Option RowPrinter). opened_if p a.columns) e

shut_heard : (self new : Answer) (this : Said) (before after : List ℕ) → ((more : List Said)
    → said_rows (this ∷ more) ≡ [])
    → ((more : List Said) → answer_text self.format (this ∷ more) ≡ answer_text self.format more)
    → open_columns (columns_open self) this ≡ None
    → Shuts self before after new → HearsSaid self this before after new
shut_heard self new this before after ends over shuts s = record {
  text = λ more. shut_rest self new before after more s
      ∙ ap (λ (t : List ℕ). before ++ (t ++ answer_text self.format more)) (sym (open_shut self.printer (this ∷
      more) (ends more)))
      ∙ ap (λ (t : List ℕ). before ++ (open_text self.printer (this ∷ more) ++ t)) (sym (over more));
  open_is = open_none new s.shut ∙ sym shuts;
}

pub done_heard : (self new : Answer) (before after : List ℕ) → Shuts self before after new
    → HearsSaid self said.Done before after new
done_heard self new before after s =
    shut_heard self new said.Done before after (λ more. refl) (λ more. refl) refl s

pub failed_heard : (self new : Answer) (before after : List ℕ) → Shuts self before after new
    → HearsSaid self said.Failed before after new
failed_heard self new before after s =
    shut_heard self new said.Failed before after (λ more. refl) (λ more. refl) refl s

pub ready_heard : (self new : Answer) (before after : List ℕ) → Shuts self before after new
    → HearsSaid self said.Ready before after new
ready_heard self new before after s =
    shut_heard self new said.Ready before after (λ more. refl) (λ more. refl) refl s

pub misplaced_heard : (self new : Answer) (before after : List ℕ) → Shuts self before after new
    → HearsSaid self said.Misplaced before after new
misplaced_heard self new before after s = shut_heard self new said.Misplaced before after (λ more. refl) (λ more.
    refl) refl s

-- a result ends where the next begins
pub columns_heard : (self mid new : Answer) (columns : List Column) (before between after : List ℕ)
    → Shuts self before between mid
    → HearsSaid mid (said.Columns columns) between after new
    → HearsSaid self (said.Columns columns) before after new
columns_heard self mid new columns before between after s h = record {
  text = λ more. h.text more ∙ shut_rest self mid before between (said.Columns columns ∷ more) s
      ∙ ap (λ (t : List ℕ). before ++ (t ++ answer_text self.format (said.Columns columns ∷ more)))
      (sym (open_shut self.printer (said.Columns columns ∷ more) refl));
  open_is = h.open_is;
}
