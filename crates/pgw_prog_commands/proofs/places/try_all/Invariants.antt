use Rattle.std.proofs.Common.{Result, drop}
use Rattle.pgw_client_calls.specs.State.{ClientState}
use Rattle.pgw_prog_commands.specs.declared.places.NoSession.{NoSession}
use Rattle.pgw_prog_commands.specs.Places.{TriesAll}
use Rattle.pgw_prog_commands.specs.Telling.{telling}
use Rattle.pgw_prog_commands.proofs.places.try_all.Given as goal

abbrev pub invariant-loop-place : goal.invariant-loop-place
invariant-loop-place g l =
    let t =
    telling g.D.Dialer.foretells g.D.Dialer.offers g.D.Dialer.tape g.D.Dialer.faults g.D.Link.Link.foretells
    g.D.Link.Link.left g.D.Link.Link.tape g.D.Link.Link.faults in
    (new : g.row.D.Denot) (result : Result (ClientState g.row.D-Link.Denot) NoSession)
    → TriesAll t (drop l.place-index l.places) l.dialer new result → TriesAll t l.places l.fn.dialer new result
