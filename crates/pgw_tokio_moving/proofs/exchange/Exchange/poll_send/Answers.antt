use Rattle.std.proofs.Common.{◌≡◌, [], Ok, Err, sym, rules, ◌∙◌}
use Rattle.futures.specs.declared.task.Poll.TheVariants.{Ready, Pending}
use Rattle.pgw_tokio_moving.specs.Moving.{held_in}
use Rattle.pgw_tokio_moving.proofs.MovingLaws.{no_bytes, polled_by, polled_on, went_ok, went_same}
use Rattle.pgw_tokio_moving.proofs.exchange.Exchange.poll_send.Goals as goal

pub returns-in-loop-self-clause-polled : goal.returns-in-loop-self-clause-polled
returns-in-loop-self-clause-polled g c =
    let p = c.poll_write in
    let is : p.result ≡ Pending = search rules in
    polled_by g.S.AsyncRead g.S.AsyncWrite g.E.Engine (held_in c.args.self.now) (held_in c.loop-self.self)
    (held_in p.new.self) p.result Pending is c.loop-self.invariant.went p.ensures.polled

pub returns-in-Err-clause-polled : goal.returns-in-Err-clause-polled
returns-in-Err-clause-polled g c =
    let p = c.poll_write in
    let is : p.result ≡ Ready (Err c.in-Err.e) = search rules in
    polled_by g.S.AsyncRead g.S.AsyncWrite g.E.Engine (held_in c.args.self.now) (held_in c.loop-self.self)
    (held_in p.new.self) p.result (Ready (Err c.in-Err.e)) is c.loop-self.invariant.went p.ensures.polled

pub loop-self-preserved : goal.loop-self-preserved
loop-self-preserved g c =
    let p = c.poll_write in
    let is : p.result ≡ Ready (Ok c.in-Ok.field-0) = search rules in
    record {
      went = went_ok g.S.AsyncRead g.S.AsyncWrite g.E.Engine (held_in c.args.self.now) (held_in c.loop-self.self)
          (held_in p.new.self) p.result c.in-Ok.field-0 is c.loop-self.invariant.went p.ensures.polled;
      same = (p.ensures.same.0 ∙ c.loop-self.invariant.same.0, p.ensures.same.1 ∙ c.loop-self.invariant.same.1);
      kept = search rules;
    }

pub returns-clause-polled : goal.returns-clause-polled
returns-clause-polled g c =
    let s = c.loop-self.self in
    let empty : s.out.items ≡ [] = no_bytes s.out.items (λ some. search rules) in
    let went =
    went_same g.S.AsyncRead g.S.AsyncWrite g.E.Engine (held_in c.args.self.now) s.stream s.engine s.turn
    s.unflushed s.out.items c.clear.new.self.items (empty ∙ sym c.clear.ensures.items)
    c.loop-self.invariant.went in
    polled_on g.S.AsyncRead g.S.AsyncWrite g.E.Engine (held_in c.args.self.now) _ (held_in c.poll_flush.new.self)
    c.poll_flush.result went c.poll_flush.ensures.polled
