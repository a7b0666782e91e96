use Rattle.std.proofs.Common.{inl}
use Rattle.pgw_session.specs.Input.{input_with}
use Rattle.pgw_tokio.proofs.EngineLaws.{has_begun}
use Rattle.pgw_tokio.proofs.engine.SessionEngine.start.Goals as goal

pub returns-in-Ok-clause-begins : goal.returns-in-Ok-clause-begins
returns-in-Ok-clause-begins c =
    inl (has_begun (input_with c.args.config.now c.args.requests.now c.args.nonce.now) c.args.limit
    c.in-Ok.dialogue
    c.args.out.now.items c.start.new.out.items c.refused_at.result c.first_turn.result c.requires
    c.in-Ok.ensures.refused c.in-Ok.ensures.starts c.refused_at.ensures c.first_turn.ensures)
