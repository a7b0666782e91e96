-- What is printed of a text that was read as a script of one kind.
use Rattle.std.proofs.Common.{◌≡◌, ℕ, List, ◌++◌, Result, Ok, Err, sym, subst, ◌∙◌, inl, inr}
use Rattle.std.specs.Result.{IfOk}
use Rattle.std.proofs.lemmas.List.{append_cancel_left}
use Rattle.pgw_types.specs.declared.memory.OutOfMemory.{OutOfMemory}
use Rattle.pgw_prog_script.specs.Form.{Form, read_script}
use Rattle.pgw_prog_script.specs.Grammar.{IsScriptIn}
use Rattle.pgw_prog_script.proofs.GrammarLaws.{scripts, faults, same_script, no_fault}
use Rattle.pgw_prog.specs.declared.printed.Printed.{Printed}
use Rattle.pgw_prog.specs.declared.program.ScriptKind.{ScriptKind}
use Rattle.pgw_prog.specs.Program.{AnswersText, AnswersScript, ScriptPrints, SaysLine}
use Rattle.pgw_prog.specs.Transfer.{SourceSpan, TookWhole}
use Rattle.pgw_prog.proofs.TransferLaws.{whole_short}

module _ {L P S : Type 0} (form : Form L P S) (prints : S → Printed → Type 0) where
  -- of a text in the grammar, and of one that is not
  pub answers_ok : (text : List ℕ) (s : S) (r : Result Printed OutOfMemory) → read_script form text ≡ Ok s
      → IfOk r (prints s) → IfOk r (AnswersText form prints text)
  answers_ok text s (Ok p) is h = inl (s, (scripts form text s).0 is, h)
  answers_ok text s (Err e) is h = tt

  pub answers_fault : (text : List ℕ) (n : ℕ) (r : Result Printed OutOfMemory) → read_script form text ≡ Err n
      → IfOk r (SaysLine n) → IfOk r (AnswersText form prints text)
  answers_fault text n (Ok p) is h = inr (n, (faults form text n).0 is, h)
  answers_fault text n (Err e) is h = tt

  -- a text that is this script prints what is said of it
  pub text_prints : (text : List ℕ) (script : S) (p : Printed) → IsScriptIn form text script
      → AnswersText form prints text p → prints script p
  text_prints text script p is (inl (other, read, h)) =
      subst (λ (s : S). prints s p) (same_script form text other script read is) h
  text_prints text script p is (inr (n, fault, says)) = absurd (no_fault form text script n is fault)

  -- so does a source that gave that text whole
  pub script_prints : (kind : ScriptKind)
      → ((text : List ℕ) (p : Printed) → ScriptPrints kind text p → AnswersText form prints text p)
      → (source : SourceSpan) (text : List ℕ) (script : S) (p : Printed)
      → TookWhole source.old source.new text → IsScriptIn form text script → AnswersScript kind source p
      → prints script p
  script_prints kind gives source text script p whole is (inl long) =
      absurd (whole_short source.old source.new text whole long.0)
  script_prints kind gives source text script p whole is (inr (other, read, answers)) =
      let same : other ≡ text = append_cancel_left source.old.took other text (sym read.took ∙ whole.took) in
      text_prints text script p is (gives text p (subst (λ (t : List ℕ). ScriptPrints kind t p) same answers))
