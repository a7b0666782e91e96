use Rattle.pgw_prog_commands.specs.Check.{whole, front}
use Rattle.pgw_prog_commands.proofs.check.print.Goals as goal

pub returns-in-Ok : goal.returns-in-Ok
returns-in-Ok g c = whole c.in-Ok.ensures.wrote c.in-Ok.ensures.calm

pub returns-in-Err : goal.returns-in-Err
returns-in-Err g c =
    front c.in-Err.ensures.failed.count c.in-Err.ensures.failed.wrote c.in-Err.ensures.cause.failed
