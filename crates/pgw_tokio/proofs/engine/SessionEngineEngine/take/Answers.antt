use Rattle.std.proofs.Common.{Option, ap}
use Rattle.pgw_backend.specs.declared.client_error.PgWireClientError.{PgWireClientError as ClientError}
use Rattle.pgw_tokio_moving.specs.declared.engine.Turn.{Turn}
use Rattle.pgw_tokio.proofs.EngineLaws.{feeds_by}
use Rattle.pgw_tokio.proofs.engine.SessionEngineEngine.take.Goals as goal

pub returns-clause-takes : goal.returns-clause-takes
returns-clause-takes c =
    let t = c.take-answer in
    let a = c.turn_after-turn in
    feeds_by c.args.self.now c.in-Some.dialogue t.new.self c.args.piece.now c.args.out.now.items t.new.out.items
    t.result a.result.0 a.result.1 c.in-Some.is t.ensures.takes t.ensures.after t.ensures.starved
    (ap (λ (p : Turn × Option ClientError). p.0) a.ensures)
    (ap (λ (p : Turn × Option ClientError). p.1) a.ensures)
