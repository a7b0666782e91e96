-- What a file of passwords answers, behind what was written before.
use Rattle.std.proofs.Common.{◌≡◌, List, ℕ, ◌++◌, sym, ap, subst, ◌∙◌, inl, inr}
use Rattle.std.proofs.lemmas.List.{append_cancel_left}
use Rattle.pgw_prog.specs.declared.passfile.Asked.{Asked}
use Rattle.pgw_prog.specs.declared.printed.Printed.{Printed}
use Rattle.pgw_prog.specs.Passfile.{AnswersFile, AnswersPassfile, PrintsFound}
use Rattle.pgw_prog.specs.Transfer.{SourceSpan, TookWhole}
use Rattle.pgw_prog.proofs.TransferLaws.{whole_short}

found_written : (asked : Asked) (file : List ℕ) (p : Printed) (before now : List ℕ) → AnswersFile asked file p
    → now ≡ before ++ p.text.items → PrintsFound asked file before now p.status
found_written asked file p before now a wrote = inr (record {
  entries = a.entries;
  answer = a.answer;
  is_file = a.is_file;
  found = a.found;
  wrote = wrote ∙ ap (λ (text : List ℕ). before ++ text) a.says.0;
  ends = a.says.1;
})

pub passfile_written : (asked : Asked) (source : SourceSpan) (p : Printed) (before now : List ℕ)
    → AnswersPassfile asked source p → now ≡ before ++ p.text.items → (file : List ℕ)
    → TookWhole source.old source.new file → PrintsFound asked file before now p.status
passfile_written asked source p before now (inl long) wrote file whole =
    absurd (whole_short source.old source.new file whole long.0)
passfile_written asked source p before now (inr (other, read, a)) wrote file whole =
    let same : other ≡ file = append_cancel_left source.old.took other file (sym read.took ∙ whole.took) in
    found_written asked file p before now (subst (λ (f : List ℕ). AnswersFile asked f p) same a) wrote
