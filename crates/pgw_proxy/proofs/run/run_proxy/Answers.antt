use Rattle.pgw_proxy.proofs.RunLaws.{told_of}
use Rattle.pgw_proxy.proofs.run.run_proxy.Goals as goal

pub returns-clause-relays : goal.returns-clause-relays
returns-clause-relays g c =
    told_of c.args.turns.now _ _ _ _ _ _ _ c.take_turns-stopped.ensures.relays c.take_turns-stopped.ensures.client
    c.take_turns-stopped.ensures.server c.ended.ensures
