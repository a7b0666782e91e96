use Rattle.pgw_prog_commands.specs.Telling.{telling}
use Rattle.pgw_prog_commands.proofs.QueryLaws.{held, held_none}
use Rattle.pgw_prog_commands.proofs.query.run_query.Goals as goal

pub returns-in-Ok : goal.returns-in-Ok
returns-in-Ok g c =
    let t = telling g.D.Dialer.foretells g.D.Dialer.offers g.D.Dialer.tape g.D.Dialer.faults
    g.D.Link.Link.foretells g.D.Link.Link.left g.D.Link.Link.tape g.D.Link.Link.faults in
    let tries = rw c.in-Ok.is at c.connect_first.ensures.tries in
    rw c.status_of.ensures (held t _ _ _ c.in-Ok.client c.ask_all-end.new.source.client _ _ _ _ _ _ _ _ tries
    c.connect_first.ensures.dials c.ask_all-end.ensures.asked c.ask_all-end.ensures.counts c.hang_up.ensures)

pub returns-in-Err : goal.returns-in-Err
returns-in-Err g c =
    let tries = rw c.in-Err.is at c.connect_first.ensures.tries in
    rw c.status_without.ensures (held_none _ _ _ _ _ _ _ _ _ tries c.connect_first.ensures.dials)
