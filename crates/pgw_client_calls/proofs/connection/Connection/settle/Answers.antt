use Rattle.pgw_client_calls.proofs.ExtendedLaws.{settled_well, settled_ill, never}
use Rattle.pgw_client_calls.proofs.ForetoldLaws.{foretold_on}
use Rattle.pgw_client_calls.proofs.connection.Connection.settle.Goals as goal

pub returns-in-Ok-clause-settled : goal.returns-in-Ok-clause-settled
returns-in-Ok-clause-settled g c =
    settled_well g.H.ExtendedQueryHandler.means c.args.due _ _ _ _ _ _ _ c.args.error c.pass_over-passed.result _
    _ _ _ c.in-Ok.ensures.synced c.pass_over-passed.ensures.passed c.passed_answer.ensures

pub returns-in-Err-clause-settled : goal.returns-in-Err-clause-settled
returns-in-Err-clause-settled g c =
    settled_ill g.H.ExtendedQueryHandler.means c.args.due _ _ _ _ _ c.args.error c.in-Err.failure _ _
    c.in-Err.ensures.synced (never _ c.in-Err.ensures.usable)

pub returns-in-Ok-clause-foretold : goal.returns-in-Ok-clause-foretold
returns-in-Ok-clause-foretold g c =
    λ t. foretold_on _ _ _ _ _ _ (g.met.L.Link.knows t c.sync.new.self.link) (c.sync.ensures.foretold t)
    (c.pass_over-passed.ensures.foretold t)
