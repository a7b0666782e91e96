use Rattle.std.proofs.Common.{◌+◌, List, take, drop, refl, sym, subst, ◌∙◌, arith}
use Rattle.std.proofs.lemmas.List.{take_all, take_more}
use Rattle.pgw_proxy.specs.declared.recorded.Side.{Side}
use Rattle.pgw_proxy.specs.declared.recorded.Side.TheVariants.{Client, Server}
use Rattle.pgw_proxy.specs.Run.{relay_links, span, start_of}
use Rattle.pgw_proxy.specs.RunSteps.{RelayRuns, RelayStops}
use Rattle.pgw_proxy.proofs.RunLaws.{cut_at, runs_first, ran_on, ran_to, passed_all, foretold_on, foretold_first}
use Rattle.pgw_proxy.proofs.run.take_turns.Goals as goal

pub loop-side-init : goal.loop-side-init
loop-side-init g c = record {
  runs = runs_first c.new-proxy.result c.args.tape.now.items _ c.new-proxy.ensures.going
      c.new-proxy.ensures.stands c.requires;
  client_kept = refl;
  server_kept = refl;
  client = λ t. foretold_first _ _ _ _;
  server = λ t. foretold_first _ _ _ _;
}

pub returns-in-Err-clause-client : goal.returns-in-Err-clause-client
returns-in-Err-clause-client g c t =
    foretold_on _ _ _ _ _ _ _ _ _ (g.met.A.Link.knows t c.args.client.now) (c.loop-side.invariant.client t)
    (c.turn_of.ensures.client t) (g.met.A.Link.knows t c.loop-side.client)

pub returns-in-Err-clause-server : goal.returns-in-Err-clause-server
returns-in-Err-clause-server g c t =
    foretold_on _ _ _ _ _ _ _ _ _ (g.met.B.Link.knows t c.args.server.now) (c.loop-side.invariant.server t)
    (c.turn_of.ensures.server t) (g.met.B.Link.knows t c.loop-side.server)

pub returns-in-Err-clause-relays : goal.returns-in-Err-clause-relays
returns-in-Err-clause-relays g c =
    subst (λ r. RelayStops c.args.turns.now
    (span g.A.Link.tape g.A.Link.left g.A.Link.faults c.args.client.now c.turn_of.new.client)
    (span g.B.Link.tape g.B.Link.left g.B.Link.faults c.args.server.now c.turn_of.new.server)
    c.turn_of.new.tape.items r) c.in-Err.is
    (ran_to (take c.loop-side.side-index c.args.turns.now) _ _ _ _ _ _ _ _
    c.loop-side.invariant.runs _ c.turn_of.ensures.turn
    (drop (c.loop-side.side-index + 1) c.args.turns.now) c.args.turns.now
    (cut_at c.args.turns.now c.loop-side.side-index Client
    (omega (arith, c.loop-side-test.true))) c.in-Err.fault c.in-Err.is)

pub loop-side-preserved : goal.loop-side-preserved
loop-side-preserved g c = record {
  runs = subst (λ (l : List Side). RelayRuns l c.turn_of.new.proxy c.turn_of.new.tape.items
      (start_of (span g.A.Link.tape g.A.Link.left g.A.Link.faults c.args.client.now c.turn_of.new.client)
      (span g.B.Link.tape g.B.Link.left g.B.Link.faults c.args.server.now c.turn_of.new.server))
      (relay_links (span g.A.Link.tape g.A.Link.left g.A.Link.faults c.args.client.now c.turn_of.new.client)
      (span g.B.Link.tape g.B.Link.left g.B.Link.faults c.args.server.now c.turn_of.new.server)))
      (sym (take_more c.args.turns.now c.loop-side.side-index Client
      (omega (arith, c.loop-side-test.true))))
      (ran_on (take c.loop-side.side-index c.args.turns.now) _ _ _ _ _ _ _ _
      c.loop-side.invariant.runs _ c.turn_of.ensures.turn c.in-Ok.is);
  client_kept = c.turn_of.ensures.kept.0 ∙ c.loop-side.invariant.client_kept;
  server_kept = c.turn_of.ensures.kept.1 ∙ c.loop-side.invariant.server_kept;
  client =
      λ t. foretold_on _ _ _ _ _ _ _ _ _ (g.met.A.Link.knows t c.args.client.now) (c.loop-side.invariant.client t)
      (c.turn_of.ensures.client t) (g.met.A.Link.knows t c.loop-side.client);
  server =
      λ t. foretold_on _ _ _ _ _ _ _ _ _ (g.met.B.Link.knows t c.args.server.now) (c.loop-side.invariant.server t)
      (c.turn_of.ensures.server t) (g.met.B.Link.knows t c.loop-side.server);
}

pub returns-clause-relays : goal.returns-clause-relays
returns-clause-relays g c =
    passed_all c.args.turns.now c.loop-side.proxy c.loop-side.tape.items _ _
    (subst (λ (l : List Side). RelayRuns l c.loop-side.proxy c.loop-side.tape.items
    (start_of (span g.A.Link.tape g.A.Link.left g.A.Link.faults c.args.client.now c.loop-side.client)
    (span g.B.Link.tape g.B.Link.left g.B.Link.faults c.args.server.now c.loop-side.server))
    (relay_links (span g.A.Link.tape g.A.Link.left g.A.Link.faults c.args.client.now c.loop-side.client)
    (span g.B.Link.tape g.B.Link.left g.B.Link.faults c.args.server.now c.loop-side.server)))
    (take_all c.loop-side.side-index c.args.turns.now (omega (arith, c.loop-side-test.false)))
    c.loop-side.invariant.runs)
