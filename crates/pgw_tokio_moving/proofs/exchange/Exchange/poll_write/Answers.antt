use Rattle.std.proofs.Common.{◌≡◌, Ok, Err, rules}
use Rattle.futures.specs.declared.task.Poll.TheVariants.{Ready, Pending}
use Rattle.pgw_tokio_moving.specs.Moving.{held_in}
use Rattle.pgw_tokio_moving.proofs.MovingLaws.{write_failed, write_full, write_took, write_waited}
use Rattle.pgw_tokio_moving.proofs.exchange.Exchange.poll_write.Goals as goal

pub returns-clause-polled : goal.returns-clause-polled
returns-clause-polled g c =
    let p = c.poll_write_buf in
    let is : p.result ≡ Pending = search rules in
    write_waited g.S.AsyncRead g.S.AsyncWrite g.E.Engine (held_in c.args.self.now) p.new.writer p.new.buf.items
    p.result is p.ensures.bytes p.ensures.rest

pub returns-in-Ok-eq0-clause-polled : goal.returns-in-Ok-eq0-clause-polled
returns-in-Ok-eq0-clause-polled g c =
    let p = c.poll_write_buf in
    let is : p.result ≡ Ready (Ok 0) = search rules in
    write_full g.S.AsyncRead g.S.AsyncWrite g.E.Engine (held_in c.args.self.now) p.new.writer p.new.buf.items
    c.from.result p.result is p.ensures.bytes p.ensures.rest (search rules) p.ensures.full c.requires

pub returns-in-Ok-clause-polled : goal.returns-in-Ok-clause-polled
returns-in-Ok-clause-polled g c =
    let p = c.poll_write_buf in
    let n = c.in-Ok.field-0 in
    let is : p.result ≡ Ready (Ok n) = search rules in
    write_took g.S.AsyncRead g.S.AsyncWrite g.E.Engine (held_in c.args.self.now) p.new.writer p.new.buf.items n
    p.result is (λ none. search rules) p.ensures.bytes p.ensures.rest p.ensures.bound

pub returns-in-Err-clause-polled : goal.returns-in-Err-clause-polled
returns-in-Err-clause-polled g c =
    let p = c.poll_write_buf in
    let is : p.result ≡ Ready (Err c.in-Err.e) = search rules in
    write_failed g.S.AsyncRead g.S.AsyncWrite g.E.Engine (held_in c.args.self.now) p.new.writer p.new.buf.items
    c.in-Err.e p.result c.failed.result is p.ensures.bytes p.ensures.rest p.ensures.failed c.requires
    c.failed.ensures.value
