use Rattle.std.proofs.Common.{◌≡◌, rules}
use Rattle.futures.specs.declared.task.Poll.TheVariants.{Pending, Ready}
use Rattle.std.specs.Prelude.{IsSomeAnd}
use Rattle.pgw_tokio_moving.specs.Future.{BoxCameTo}
use Rattle.pgw_tokio_moving.specs.Moving.{held_in}
use Rattle.pgw_tokio.specs.Calling.{client_members}
use Rattle.pgw_tokio.proofs.FutureLaws.{on_pending, on_ready}
use Rattle.pgw_tokio.proofs.LoginLaws.{gives_by}
use Rattle.pgw_tokio.proofs.login.LoggingInFuture.poll.Goals as goal

pub returns-in-Ready-clause-value : goal.returns-in-Ready-clause-value
returns-in-Ready-clause-value g c =
    let p = c.poll in
    let moved = c.in-Ready.moved in
    let is : p.result ≡ Ready moved = search rules in
    gives_by g.S.AsyncRead g.S.AsyncWrite c.args.self.now moved c.logged_in_by.result
    (on_ready (λ m. IsSomeAnd c.args.self.now.moving.state
    (λ b. BoxCameTo g.S.AsyncRead g.S.AsyncWrite client_members (held_in b.value) m))
    p.result moved is p.ensures.value) c.logged_in_by.ensures

pub returns-in-Pending-clause-same : goal.returns-in-Pending-clause-same
returns-in-Pending-clause-same g c x later =
    let p = c.poll in
    let is : p.result ≡ Pending = search rules in
    gives_by g.S.AsyncRead g.S.AsyncWrite c.args.self.now later.moved x
    (on_pending p.result is p.ensures.same later.moved later.came) later.ends
