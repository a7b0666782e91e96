-- What is printed of a pool script.
use Rattle.std.specs.Prelude.{◌≡◌, ◌⊎◌, ℕ, List, ◌++◌, codes, decimal}
use Rattle.pgw_prog_script.specs.declared.pool_script.PoolScript.{PoolScript}
use Rattle.pgw_prog_pool.specs.declared.run.PoolOutcome.{PoolOutcome}
use Rattle.pgw_prog_pool.specs.declared.run.PoolOutcome.TheVariants as outcome
use Rattle.pgw_prog_pool.specs.Outcome.{RunsPool}
use Rattle.pgw_prog_sessions.specs.Pieces.{line_end}
use Rattle.pgw_prog_sessions.specs.SessionText.{error_line}
use Rattle.pgw_prog.specs.declared.printed.Printed.{Printed}
use Rattle.pgw_prog.specs.Held.{Says}

-- the text of the calls; or why no pool was started; or which line names a lease that is not out, and nothing else
abbrev pub pool_text : PoolOutcome → List ℕ
pool_text (outcome.Told text) = text.items
pool_text (outcome.Refused e) = error_line e
pool_text (outcome.NotOut n) = codes "line " ++ decimal n ++ line_end

abbrev pub pool_status : PoolOutcome → ℕ
pool_status (outcome.Told text) = 0
pool_status (outcome.Refused e) = 1
pool_status (outcome.NotOut n) = 2

abbrev pub PrintsPool : PoolScript → Printed → Type 0
PrintsPool s p = (o : PoolOutcome) × RunsPool s o × Says p (pool_text o) (pool_status o)

-- memory ran out, or that text is written, with its status
abbrev pub PrintsPoolText : PoolScript → List ℕ → List ℕ → ℕ → Type 0
PrintsPoolText s before now status =
    (status ≡ 4)
    ⊎ ((o : PoolOutcome) × RunsPool s o × (status ≡ pool_status o)
    × (now ≡ before ++ pool_text o))
