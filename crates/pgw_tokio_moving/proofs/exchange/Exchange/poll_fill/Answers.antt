use Rattle.std.proofs.Common.{◌≡◌, take, Ok, Err, refl, rules}
use Rattle.futures.specs.declared.task.Poll.TheVariants.{Ready, Pending}
use Rattle.pgw_tokio_moving.specs.Moving.{held_in}
use Rattle.pgw_tokio_moving.proofs.MovingLaws.{read_ended, read_failed, read_gave, read_waited}
use Rattle.pgw_tokio_moving.proofs.exchange.Exchange.poll_fill.Goals as goal

pub returns-clause-met : goal.returns-clause-met
returns-clause-met g c =
    let p = c.poll_read_piece in
    let is : p.result ≡ Pending = search rules in
    read_waited g.S.AsyncRead g.S.AsyncWrite g.E.Engine (held_in c.args.self.now) p.new.stream p.new.piece
    p.result
    is p.ensures.bytes

pub returns-in-Ok-eq0-clause-met : goal.returns-in-Ok-eq0-clause-met
returns-in-Ok-eq0-clause-met g c =
    let p = c.poll_read_piece in
    let is : p.result ≡ Ready (Ok 0) = search rules in
    read_ended g.S.AsyncRead g.S.AsyncWrite g.E.Engine (held_in c.args.self.now) p.new.stream p.new.piece p.result
    is p.ensures.bytes p.ensures.end c.requires.sent c.requires.waits

pub returns-in-Ok-clause-met : goal.returns-in-Ok-clause-met
returns-in-Ok-clause-met g c =
    let p = c.poll_read_piece in
    let n = c.in-Ok.n in
    let t = c.take-self in
    let is : p.result ≡ Ready (Ok n) = search rules in
    read_gave g.S.AsyncRead g.S.AsyncWrite g.E.Engine (held_in c.args.self.now) p.new.stream t.new.self t.result
    p.new.piece (take n p.new.piece) t.new.out.items n p.result is p.ensures.bytes refl (search rules)
    (search rules)
    c.requires.sent c.requires.waits (search rules)

pub returns-in-Err-clause-met : goal.returns-in-Err-clause-met
returns-in-Err-clause-met g c =
    let p = c.poll_read_piece in
    let is : p.result ≡ Ready (Err c.in-Err.e) = search rules in
    read_failed g.S.AsyncRead g.S.AsyncWrite g.E.Engine (held_in c.args.self.now) p.new.stream p.new.piece
    c.in-Err.e p.result c.failed.result is p.ensures.bytes p.ensures.failed c.requires.sent c.requires.waits
    c.failed.ensures.value
