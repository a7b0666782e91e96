use Rattle.std.proofs.Common.{refl}
use Rattle.pgw_prog_commands.specs.Telling.{telling}
use Rattle.pgw_prog_commands.specs.Check.{told, starved, refused}
use Rattle.pgw_prog_commands.proofs.CheckLaws.{visited}
use Rattle.pgw_prog_commands.proofs.check.run_check.Goals as goal

pub returns-in-Ok-told-clause-checked : goal.returns-in-Ok-told-clause-checked
returns-in-Ok-told-clause-checked g c =
    let t = telling g.D.Dialer.foretells g.D.Dialer.offers g.D.Dialer.tape g.D.Dialer.faults
    g.D.Link.Link.foretells g.D.Link.Link.left g.D.Link.Link.tape g.D.Link.Link.faults in
    told c.in-Ok.client c.in-Ok-told.text.items _ (visited t _ _ _ _ _ c.in-Ok.ensures.tries c.hang_up.ensures)
    c.in-Ok-told.ensures (rw c.as_slice.ensures.value at c.print.ensures)

pub returns-in-Err-told-clause-checked : goal.returns-in-Err-told-clause-checked
returns-in-Err-told-clause-checked g c =
    let t = telling g.D.Dialer.foretells g.D.Dialer.offers g.D.Dialer.tape g.D.Dialer.faults
    g.D.Link.Link.foretells g.D.Link.Link.left g.D.Link.Link.tape g.D.Link.Link.faults in
    starved c.in-Ok.client (visited t _ _ _ _ _ c.in-Ok.ensures.tries c.hang_up.ensures) refl refl

pub returns-in-Err-clause-checked : goal.returns-in-Err-clause-checked
returns-in-Err-clause-checked g c =
    rw c.status_without.ensures (refused c.in-Err.why c.in-Err.ensures.tries refl refl)
