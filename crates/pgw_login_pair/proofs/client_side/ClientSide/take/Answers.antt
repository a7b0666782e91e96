use Rattle.std.proofs.Common.{◌+◌, length, Ok, sym, refl, subst}
use Rattle.pgw_login_pair.specs.Sides.{IsGoing}
use Rattle.pgw_login_pair.proofs.ClientLaws.{took_err, took_ok}
use Rattle.pgw_login_pair.proofs.ServerLaws.{not_starved}
use Rattle.pgw_login_pair.proofs.client_side.ClientSide.take.Goals as goal

pub returns-in-Ok-answer-clause-took : goal.returns-in-Ok-answer-clause-took
returns-in-Ok-answer-clause-took c = λ going input long at.
    took_ok input c.args.self.now
    (record {
      dialogue = Ok c.take-answer.new.self;
      phase = c.in-Ok-answer.phase;
      taken = c.args.self.now.taken +
          length c.next-piece.result.now;
      out = c.take-answer.new.out;
    })
    c.args.bytes.now c.args.count c.in-Ok.dialogue c.take-answer.new.self c.take-answer.result
    c.next-piece.result.now c.next-piece.ensures long c.in-Ok.is
    (subst (λ x. IsGoing x c.args.self.now.phase) c.in-Ok.is going) c.take-answer.ensures.takes
    c.take-answer.ensures.starved
    (not_starved c.lacks_memory.ensures c.if-lacks_memory.false) refl at c.in-Ok-answer.phase c.in-Ok-answer.is
    refl refl

pub returns-in-Err : goal.returns-in-Err
returns-in-Err c = record {
  going = λ going. subst (λ x. IsGoing x c.args.self.now.phase) (sym c.replace.ensures.after) tt;
  took = λ going input long at.
      took_err input c.args.self.now
      (record {
        dialogue = c.replace.new.dest;
        phase = c.args.self.now.phase;
        taken = c.args.self.now.taken +
            length c.next-piece.result.now;
        out = c.take-answer.new.out;
      })
      c.args.bytes.now c.args.count c.in-Ok.dialogue c.take-answer.new.self c.take-answer.result
      c.next-piece.result.now c.next-piece.ensures long c.in-Ok.is
      (subst (λ x. IsGoing x c.args.self.now.phase) c.in-Ok.is going) c.take-answer.ensures.takes
      c.take-answer.ensures.starved
      (not_starved c.lacks_memory.ensures c.if-lacks_memory.false) refl at c.in-Err.e c.in-Err.is
      c.replace.ensures.after;
}
