use Rattle.pgw_prog_output.proofs.HearingLaws.{one_falls, untaken}
use Rattle.pgw_prog_output.proofs.PageLaws.{none_printed}
use Rattle.pgw_prog_output.proofs.asking.step.Goals as goal

pub returns-in-Ok-Some-clause-hears : goal.returns-in-Ok-Some-clause-hears
returns-in-Ok-Some-clause-hears g c = c.hear_message.ensures.hears _ _ (rw c.in-Ok-Some.field-0-is at
    c.in-Ok-Some.ensures)

pub returns-in-Ok-Some-clause-falls : goal.returns-in-Ok-Some-clause-falls
returns-in-Ok-Some-clause-falls g c = one_falls _ _ c.in-Ok-Some.message c.hear_message.result (rw
    c.in-Ok-Some.field-0-is at c.in-Ok-Some.ensures)

pub returns-in-Ok-None-clause-hears : goal.returns-in-Ok-None-clause-hears
returns-in-Ok-None-clause-hears g c =
    let taken = rw c.in-Ok-None.field-0-is at c.in-Ok-None.ensures in
    let same = taken.1 in
    (rw same at c.wait_for_more.ensures.hears) taken.0

pub returns-in-Err-clause-hears : goal.returns-in-Err-clause-hears
returns-in-Err-clause-hears g c =
    rw c.lose.ensures (untaken c.in-Err.error _ _ _ _ (none_printed _) c.in-Err.ensures)
