use Rattle.std.proofs.Common.{◌≡◌, true, false, Ok, Err, rules}
use Rattle.futures.specs.declared.task.Poll.TheVariants.{Ready, Pending}
use Rattle.pgw_tokio_moving.specs.declared.engine.Turn.TheVariants.{Over}
use Rattle.pgw_tokio_moving.specs.Moving.{held_in}
use Rattle.pgw_tokio_moving.proofs.MovingLaws.{met_end, met_fault, met_ok, met_pending, ran_fault, ran_over, went_ok, went_pending}
use Rattle.pgw_tokio_moving.proofs.exchange.Exchange.poll_exchange.Goals as goal

pub returns-in-loop-clause-went : goal.returns-in-loop-clause-went
returns-in-loop-clause-went g c =
    let p = c.poll_send in
    let is : p.result ≡ Pending = search rules in
    went_pending g.S.AsyncRead g.S.AsyncWrite g.E.Engine (held_in c.args.self.now) (held_in c.loop.self)
    (held_in p.new.self) p.result is c.loop.invariant.went p.ensures.polled

pub returns-in-Err-clause-ended : goal.returns-in-Err-clause-ended
returns-in-Err-clause-ended g c =
    let p = c.poll_send in
    let is : p.result ≡ Ready (Err c.in-Err.e) = search rules in
    ran_fault g.S.AsyncRead g.S.AsyncWrite g.E.Engine (held_in c.args.self.now) (held_in c.loop.self)
    (held_in p.new.self) p.result c.in-Err.e is c.loop.invariant.went p.ensures.polled

pub returns-then-eq-clause-ended : goal.returns-then-eq-clause-ended
returns-then-eq-clause-ended g c =
    let p = c.poll_send in
    let is : p.result ≡ Ready (Ok c.in-Ok.field-0) = search rules in
    let went = went_ok g.S.AsyncRead g.S.AsyncWrite g.E.Engine (held_in c.args.self.now) (held_in c.loop.self)
    (held_in p.new.self) p.result c.in-Ok.field-0 is c.loop.invariant.went p.ensures.polled in
    let over : p.new.self.turn ≡ Over = search rules in
    ran_over g.S.AsyncRead g.S.AsyncWrite g.E.Engine (held_in c.args.self.now) (held_in p.new.self) went
    (search rules) over

pub returns-in-loop-2-clause-went : goal.returns-in-loop-2-clause-went
returns-in-loop-2-clause-went g c =
    let s = c.poll_send in
    let done : s.result ≡ Ready (Ok c.in-Ok.field-0) = search rules in
    let went = went_ok g.S.AsyncRead g.S.AsyncWrite g.E.Engine (held_in c.args.self.now) (held_in c.loop.self)
    (held_in s.new.self) s.result c.in-Ok.field-0 done c.loop.invariant.went s.ensures.polled in
    let p = c.poll_fill in
    let is : p.result ≡ Pending = search rules in
    met_pending g.S.AsyncRead g.S.AsyncWrite g.E.Engine (held_in c.args.self.now) (held_in c.poll_send.new.self)
    (held_in p.new.self) p.result is went p.ensures.met

pub returns-in-Ok-false-clause-ended : goal.returns-in-Ok-false-clause-ended
returns-in-Ok-false-clause-ended g c =
    let s = c.poll_send in
    let done : s.result ≡ Ready (Ok c.in-Ok.field-0) = search rules in
    let went = went_ok g.S.AsyncRead g.S.AsyncWrite g.E.Engine (held_in c.args.self.now) (held_in c.loop.self)
    (held_in s.new.self) s.result c.in-Ok.field-0 done c.loop.invariant.went s.ensures.polled in
    let p = c.poll_fill in
    let is : p.result ≡ Ready (Ok false) = search rules in
    met_end g.S.AsyncRead g.S.AsyncWrite g.E.Engine (held_in c.args.self.now) (held_in c.poll_send.new.self)
    (held_in p.new.self) p.result is went p.ensures.met

pub returns-in-Err-ready-clause-ended : goal.returns-in-Err-ready-clause-ended
returns-in-Err-ready-clause-ended g c =
    let s = c.poll_send in
    let done : s.result ≡ Ready (Ok c.in-Ok.field-0) = search rules in
    let went = went_ok g.S.AsyncRead g.S.AsyncWrite g.E.Engine (held_in c.args.self.now) (held_in c.loop.self)
    (held_in s.new.self) s.result c.in-Ok.field-0 done c.loop.invariant.went s.ensures.polled in
    let p = c.poll_fill in
    let is : p.result ≡ Ready (Err c.in-Err-ready.e) = search rules in
    met_fault g.S.AsyncRead g.S.AsyncWrite g.E.Engine (held_in c.args.self.now) (held_in c.poll_send.new.self)
    (held_in p.new.self) p.result c.in-Err-ready.e is went p.ensures.met

pub loop-preserved : goal.loop-preserved
loop-preserved g c =
    let s = c.poll_send in
    let done : s.result ≡ Ready (Ok c.in-Ok.field-0) = search rules in
    let went = went_ok g.S.AsyncRead g.S.AsyncWrite g.E.Engine (held_in c.args.self.now) (held_in c.loop.self)
    (held_in s.new.self) s.result c.in-Ok.field-0 done c.loop.invariant.went s.ensures.polled in
    let p = c.poll_fill in
    let is : p.result ≡ Ready (Ok true) = search rules in
    record {
      went = met_ok g.S.AsyncRead g.S.AsyncWrite g.E.Engine (held_in c.args.self.now)
          (held_in c.poll_send.new.self) (held_in p.new.self) p.result is went p.ensures.met;
      sound = p.ensures.sound;
      kept = search rules;
    }
