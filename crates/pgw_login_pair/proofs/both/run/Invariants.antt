use Rattle.std.proofs.Common.{◌≡◌, drop}
use Rattle.atomic_table.specs.Seated.{TableId}
use Rattle.pgw_login_server.specs.Server.{Stage}
use Rattle.pgw_login_pair.specs.declared.parties.PairInput.{PairInput}
use Rattle.pgw_login_pair.specs.Server.{Means}
use Rattle.pgw_login_pair.specs.Sides.{AreActs, AreIn, IsFrom, IsGoing}
use Rattle.pgw_login_pair.specs.World.{World, Runs}
use Rattle.pgw_login_pair.proofs.both.run.Given as goal

abbrev pub invariant-loop-event : goal.invariant-loop-event
invariant-loop-event g l = record {
  fits : g.H.StartupHandler.fits l.server.core.handler l.server.core.login;
  kept : l.server.core.handler ≡ l.fn.server.core.handler;
  going : IsGoing l.client.dialogue l.client.phase;
  from : (begin : Stage) → IsFrom (g.H.StartupHandler.means l.fn.server.core.handler) begin l.fn.server.core
      → IsFrom (g.H.StartupHandler.means l.fn.server.core.handler) begin l.server.core;
  -- what the other events lead to, all lead to
  runs : (generator : TableId) (input : PairInput) (w : World)
      → AreActs (g.H.StartupHandler.means l.fn.server.core.handler) (Means input)
      → AreIn generator input l.fn.client l.fn.server w →
      (mid : World) × AreIn generator input l.client l.server mid
      × ((end : World) → Runs input (drop l.event-index l.schedule) mid end → Runs input l.schedule w end);
}
