use Rattle.std.proofs.Common.{◌≡◌, true, Ok, Err, refl, rules}
use Rattle.futures.specs.declared.task.Poll.TheVariants.{Ready}
use Rattle.pgw_tokio_moving.specs.Moving.{held_in}
use Rattle.pgw_tokio_moving.proofs.MovingLaws.{flush_done, flush_failed, flush_waited, staying}
use Rattle.pgw_tokio_moving.proofs.exchange.Exchange.poll_flush.Goals as goal

pub returns-then-not-self-clause-polled : goal.returns-then-not-self-clause-polled
returns-then-not-self-clause-polled g c =
    staying g.S.AsyncRead g.S.AsyncWrite g.E.Engine (held_in c.args.self.now)
    _ refl

pub returns-clause-polled : goal.returns-clause-polled
returns-clause-polled g c = flush_waited g.S.AsyncRead g.S.AsyncWrite g.E.Engine (held_in c.args.self.now)
    c.poll_flush.new.self c.poll_flush.ensures.bytes

pub returns-in-Ok-clause-polled : goal.returns-in-Ok-clause-polled
returns-in-Ok-clause-polled g c =
    let p = c.poll_flush in
    let is : p.result ≡ Ready (Ok c.in-Ok.field-0) = search rules in
    let some : c.args.self.now.unflushed ≡ true = search rules in
    flush_done g.S.AsyncRead g.S.AsyncWrite g.E.Engine (held_in c.args.self.now) p.new.self p.result
    c.in-Ok.field-0 is p.ensures.bytes p.ensures.flushed c.requires some

pub returns-in-Err-clause-polled : goal.returns-in-Err-clause-polled
returns-in-Err-clause-polled g c =
    let p = c.poll_flush in
    let is : p.result ≡ Ready (Err c.in-Err.e) = search rules in
    let some : c.args.self.now.unflushed ≡ true = search rules in
    flush_failed g.S.AsyncRead g.S.AsyncWrite g.E.Engine (held_in c.args.self.now) p.new.self c.in-Err.e p.result
    c.failed.result is p.ensures.bytes p.ensures.failed c.requires some c.failed.ensures.value
