use Rattle.std.proofs.Common.{◌≡◌, take}
use Rattle.pgw_proxy.specs.Run.{IsRelayForetold, relay_links, span, start_of}
use Rattle.pgw_proxy.specs.RunSteps.{RelayRuns}
use Rattle.pgw_proxy.proofs.run.take_turns.Given as goal

abbrev pub invariant-loop-side : goal.invariant-loop-side
invariant-loop-side g l = record {
  runs : RelayRuns (take l.side-index l.turns) l.proxy l.tape.items
      (start_of (span g.A.Link.tape g.A.Link.left g.A.Link.faults l.fn.client l.client)
      (span g.B.Link.tape g.B.Link.left g.B.Link.faults l.fn.server l.server))
      (relay_links (span g.A.Link.tape g.A.Link.left g.A.Link.faults l.fn.client l.client)
      (span g.B.Link.tape g.B.Link.left g.B.Link.faults l.fn.server l.server));
  client_kept : g.A.Link.plan l.client ≡ g.A.Link.plan l.fn.client;
  server_kept : g.B.Link.plan l.server ≡ g.B.Link.plan l.fn.server;
  client : g.A.Link.foretells
      → IsRelayForetold (span g.A.Link.tape g.A.Link.left g.A.Link.faults l.fn.client l.client);
  server : g.B.Link.foretells
      → IsRelayForetold (span g.B.Link.tape g.B.Link.left g.B.Link.faults l.fn.server l.server);
}
