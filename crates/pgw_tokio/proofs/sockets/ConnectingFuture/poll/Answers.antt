use Rattle.std.proofs.Common.{◌≡◌, rules}
use Rattle.futures.specs.declared.task.Poll.TheVariants.{Pending}
use Rattle.pgw_tokio.proofs.FutureLaws.{limited_same, on_pending}
use Rattle.pgw_tokio.proofs.sockets.ConnectingFuture.poll.Goals as goal

pub returns-in-Limited-clause-same : goal.returns-in-Limited-clause-same
returns-in-Limited-clause-same c x later =
    let p = c.poll-in-Limited in
    let is : p.result ≡ Pending = search rules in
    rw c.in-Limited.is (limited_same c.in-Limited.timed p.new.self (on_pending p.result is p.ensures.same) x later)
