use Rattle.pgw_prog_commands.proofs.FittingLaws.{asks}
use Rattle.pgw_prog_commands.proofs.targets.ask.Goals as goal

pub returns : goal.returns
returns g c =
    asks g.L.Link.foretells g.L.Link.left g.L.Link.tape g.L.Link.faults _ _ _ c.simple_query.result
    c.new-handler.ensures c.simple_query.ensures
