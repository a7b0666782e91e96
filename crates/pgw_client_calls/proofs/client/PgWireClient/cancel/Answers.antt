use Rattle.std.proofs.Common.{refl}
use Rattle.pgw_client_calls.specs.Canceling.{by, no_token}
use Rattle.pgw_client_calls.proofs.client.PgWireClient.cancel.Goals as goal

pub returns-in-Ok-clause-cancels : goal.returns-in-Ok-clause-cancels
returns-in-Ok-clause-cancels g c =
    λ usable. by c.in-Ok.token c.cancel.result c.in-Ok.ensures.token c.cancel.ensures.cancels

pub returns-in-Err-clause-cancels : goal.returns-in-Err-clause-cancels
returns-in-Err-clause-cancels g c = λ usable. no_token c.in-Err.error refl (c.in-Err.ensures.lacks usable)
