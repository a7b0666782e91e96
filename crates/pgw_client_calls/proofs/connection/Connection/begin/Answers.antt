use Rattle.pgw_client_calls.proofs.CallLaws.{began_starved, began_put, began_refused}
use Rattle.pgw_client_calls.proofs.connection.Connection.begin.Goals as goal

pub returns-then-self-clause-opens : goal.returns-then-self-clause-opens
returns-then-self-clause-opens g c = began_starved _ _ _ _ c.if-self.true

pub returns-in-Ok-clause-opens : goal.returns-in-Ok-clause-opens
returns-in-Ok-clause-opens g c =
    began_put _ _ _ _ _ _ c.put_out.result c.if-self.false c.in-Ok.is c.put_out.ensures.puts
    c.put_out.ensures.usable c.put_out.ensures.broken

pub returns-in-Err-clause-opens : goal.returns-in-Err-clause-opens
returns-in-Err-clause-opens g c =
    began_refused _ _ _ _ _ c.in-Err.error c.if-self.false c.in-Err.is c.is_refusal.ensures
