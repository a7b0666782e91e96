-- What the program prints of a pair script.
use Rattle.std.proofs.Common.{◌≡◌, ℕ, List, ◌++◌, Result, Ok, Err, ap, subst, ◌∙◌, inr, append_assoc}
use Rattle.std.specs.Result.{IfOk, OnOk}
use Rattle.pgw_types.specs.declared.memory.OutOfMemory.{OutOfMemory}
use Rattle.pgw_login_pair.specs.declared.parties.PairInput.{PairInput}
use Rattle.pgw_login_pair.specs.declared.parties.PairOutcome.{PairOutcome}
use Rattle.pgw_login_pair.specs.Parties.{TwoParty}
use Rattle.pgw_prog_script.specs.declared.pair_script.PairScript.{PairScript}
use Rattle.pgw_prog_script.specs.PairScript.{IsPairScript, pair_form}
use Rattle.pgw_prog.specs.declared.printed.Printed.{Printed}
use Rattle.pgw_prog.specs.declared.program.ScriptKind.TheVariants as scripts_of
use Rattle.pgw_prog.specs.Held.{Says}
use Rattle.pgw_prog.specs.Pair.{pair_input, pair_text, PrintsEnds, PrintsPair, PrintsPairText}
use Rattle.pgw_prog.specs.Program.{AnswersScript}
use Rattle.pgw_prog.specs.Transfer.{SourceSpan, TookWhole}
use Rattle.pgw_prog.proofs.KindLaws.{script_prints}

-- three pieces, one behind the other
pub three_put : (r : Result Unit OutOfMemory) (o0 o1 o2 o3 a b c : List ℕ) → o1 ≡ o0 ++ a → o2 ≡ o1 ++ b
    → OnOk r (o3 ≡ o2 ++ c) → OnOk r (o3 ≡ o0 ++ (a ++ b ++ c))
three_put (Ok done) o0 o1 o2 o3 a b c one two three =
    let all : o0 ++ (a ++ b ++ c) ≡ o0 ++ a ++ b ++ c = simp append_assoc in
    cc
three_put (Err short) o0 o1 o2 o3 a b c one two three = tt

-- what is printed of an outcome
pub ends_printed : (input : PairInput) (o : PairOutcome) (r : Result Printed OutOfMemory) → TwoParty input o
    → IfOk r (λ p. Says p (pair_text o) 0) → IfOk r (PrintsEnds input)
ends_printed input o (Ok p) two says = (o, two, says)
ends_printed input o (Err e) two says = tt

-- of a script's login
pub login_printed : (s : PairScript) (input : PairInput) (r : Result Printed OutOfMemory) → input ≡ pair_input s
    → IfOk r (PrintsEnds input) → IfOk r (PrintsPair s)
login_printed s input r is prints = subst (λ (i : PairInput). IfOk r (PrintsEnds i)) is prints

-- what is printed is what two parties to the script's login come to
pair_text_prints : (script : PairScript) (p : Printed) (before now : List ℕ) → PrintsPair script p
    → now ≡ before ++ p.text.items → PrintsPairText script before now p.status
pair_text_prints script p before now (o, two, says) wrote =
    inr (says.1, (o, two, wrote ∙ ap (λ (t : List ℕ). before ++ t) says.0))

pub pair_written : (source : SourceSpan) (p : Printed) (before now : List ℕ)
    → AnswersScript scripts_of.Pair source p → now ≡ before ++ p.text.items
    → (text : List ℕ) → TookWhole source.old source.new text → (script : PairScript) → IsPairScript text script
    → PrintsPairText script before now p.status
pair_written source p before now answers wrote text whole script is =
    pair_text_prints script p before now
    (script_prints pair_form PrintsPair scripts_of.Pair (λ t q h. h) source text script p whole is answers)
    wrote
