-- What the program prints of a pool script.
use Rattle.std.proofs.Common.{◌≡◌, ℕ, List, ◌++◌, Result, Ok, Err, ap, ◌∙◌, inr}
use Rattle.std.specs.Result.{IfOk}
use Rattle.pgw_types.specs.declared.memory.OutOfMemory.{OutOfMemory}
use Rattle.pgw_prog_script.specs.declared.pool_script.PoolScript.{PoolScript}
use Rattle.pgw_prog_script.specs.PoolScript.{IsPoolScript, pool_form}
use Rattle.pgw_prog_pool.specs.declared.run.PoolOutcome.{PoolOutcome}
use Rattle.pgw_prog_pool.specs.Outcome.{RunsPool}
use Rattle.pgw_prog.specs.declared.printed.Printed.{Printed}
use Rattle.pgw_prog.specs.declared.program.ScriptKind.TheVariants as scripts_of
use Rattle.pgw_prog.specs.Held.{Says}
use Rattle.pgw_prog.specs.Pool.{pool_text, pool_status, PrintsPool, PrintsPoolText}
use Rattle.pgw_prog.specs.Program.{AnswersScript}
use Rattle.pgw_prog.specs.Transfer.{SourceSpan, TookWhole}
use Rattle.pgw_prog.proofs.KindLaws.{script_prints}

-- what is printed of an outcome
pub outcome_printed : (s : PoolScript) (o : PoolOutcome) (r : Result Printed OutOfMemory) → RunsPool s o
    → IfOk r (λ p. Says p (pool_text o) (pool_status o)) → IfOk r (PrintsPool s)
outcome_printed s o (Ok p) runs says = (o, runs, says)
outcome_printed s o (Err e) runs says = tt

pool_prints : (script : PoolScript) (p : Printed) (before now : List ℕ) → PrintsPool script p
    → now ≡ before ++ p.text.items → PrintsPoolText script before now p.status
pool_prints script p before now (o, runs, says) wrote =
    inr (o, runs, says.1, wrote ∙ ap (λ (t : List ℕ). before ++ t) says.0)

pub pool_written : (source : SourceSpan) (p : Printed) (before now : List ℕ)
    → AnswersScript scripts_of.Pool source p → now ≡ before ++ p.text.items
    → (text : List ℕ) → TookWhole source.old source.new text → (script : PoolScript) → IsPoolScript text script
    → PrintsPoolText script before now p.status
pool_written source p before now answers wrote text whole script is =
    pool_prints script p before now
    (script_prints pool_form PrintsPool scripts_of.Pool (λ t q h. h) source text script p whole is answers)
    wrote
