use Rattle.pgw_client_calls.proofs.CallLaws.{followed_starved, followed_put, followed_cut, followed_error}
use Rattle.pgw_client_calls.proofs.connection.Connection.follow.Goals as goal

pub returns-then-self-clause-follows : goal.returns-then-self-clause-follows
returns-then-self-clause-follows g c = followed_starved _ _ _ _ _ _ _ c.if-self.true

pub returns-in-Ok-put_out-clause-follows : goal.returns-in-Ok-put_out-clause-follows
returns-in-Ok-put_out-clause-follows g c =
    let p = c.in-Ok-put_out.ensures in
    followed_put _ _ _ _ _ _ _ _ c.in-Ok.state _ _ c.if-self.false c.in-Ok.is p.puts p.client p.usable

pub returns-in-Err-put_out-clause-follows : goal.returns-in-Err-put_out-clause-follows
returns-in-Err-put_out-clause-follows g c =
    let p = c.in-Err-put_out.ensures in
    followed_cut _ _ _ _ _ _ _ _ c.in-Ok.state c.in-Err-put_out.error _ _ c.if-self.false c.in-Ok.is p.puts
    p.client p.broken

pub returns-in-Err-clause-follows : goal.returns-in-Err-clause-follows
returns-in-Err-clause-follows g c =
    followed_error _ _ _ _ _ _ _ _ c.in-Err.error c.give_up.result _ _ c.if-self.false c.in-Err.is
    c.give_up.ensures.gives_up
