use Rattle.pgw_prog_output.specs.Halting.{part}
use Rattle.pgw_prog_output.proofs.asking.end_page.Goals as goal

pub returns-in-Err : goal.returns-in-Err
returns-in-Err g c = part c.in-Err.stop c.requires c.in-Err.ensures.front c.in-Err.ensures.cause c.end_by.ensures
