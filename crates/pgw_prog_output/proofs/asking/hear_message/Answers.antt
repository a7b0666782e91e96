use Rattle.pgw_prog_output.proofs.HearingLaws.{heard_one, heard_counts}
use Rattle.pgw_prog_output.proofs.asking.hear_message.Goals as goal

pub returns-clause-hears : goal.returns-clause-hears
returns-clause-hears g c = λ old new t.
    rw c.halt_at.ensures (heard_one c.hear.result old new _ _ c.args.message.now t c.hear.ensures.turn
    c.hear.ensures.prints c.hear.ensures.front)

pub returns-clause-counts : goal.returns-clause-counts
returns-clause-counts g c = rw c.halt_at.ensures (heard_counts c.hear.result _ _ c.hear.ensures.calm
    c.hear.ensures.cause)
