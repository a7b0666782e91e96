use Rattle.std.proofs.Common.{◌∙◌}
use Rattle.pgw_prog_commands.specs.Telling.{telling}
use Rattle.pgw_prog_commands.proofs.PlaceLaws.{logs_in}
use Rattle.pgw_prog_commands.proofs.places.log_in.Goals as goal

pub returns : goal.returns
returns g c =
    let t =
    telling g.D.Dialer.foretells g.D.Dialer.offers g.D.Dialer.tape g.D.Dialer.faults g.D.Link.Link.foretells
    g.D.Link.Link.left g.D.Link.Link.tape g.D.Link.Link.faults in
    logs_in t c.args.place.now _ _ _ _ c.connect.result c.in-Ok.ensures (c.new-noted.ensures
    ∙ c.new-handler.ensures)
    c.connect.ensures
