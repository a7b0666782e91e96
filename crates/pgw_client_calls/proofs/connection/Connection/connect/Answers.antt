use Rattle.std.proofs.Common.{inr}
use Rattle.std.proofs.lemmas.Result.{IfErr-weaker, IfOk-weaker}
use Rattle.pgw_client_calls.proofs.connection.Connection.connect.Goals as goal

pub returns-in-Ok-clause-connected : goal.returns-in-Ok-clause-connected
returns-in-Ok-clause-connected g c =
    IfOk-weaker c.connect_at.result _ _ (λ client made. (c.in-Ok.address, c.in-Ok.ensures.leads, made))
    c.connect_at.ensures.connected

pub returns-in-Ok-clause-refused : goal.returns-in-Ok-clause-refused
returns-in-Ok-clause-refused g c =
    IfErr-weaker c.connect_at.result _ _ (λ e failed. inr (c.in-Ok.address, c.in-Ok.ensures.leads, failed))
    c.connect_at.ensures.failed
