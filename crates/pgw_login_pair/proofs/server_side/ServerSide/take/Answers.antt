use Rattle.std.proofs.Common.{◌+◌, length, sym, ◌∙◌, refl}
use Rattle.pgw_login_pair.proofs.ServerLaws.{ended_took, not_starved, still_from, went_took}
use Rattle.pgw_login_pair.proofs.server_side.ServerSide.take.Goals as goal

pub returns-then-is_end-clause-took : goal.returns-then-is_end-clause-took
returns-then-is_end-clause-took g c = λ course at.
    ended_took (g.H.StartupHandler.means c.args.self.now.core.handler) c.args.self.now c.args.bytes.now
    c.args.count course (sym c.is_end.ensures
    ∙ c.if-is_end.true) at

pub returns-then-starved-clause-from : goal.returns-then-starved-clause-from
returns-then-starved-clause-from g c = λ begin h.
    still_from (g.H.StartupHandler.means c.args.self.now.core.handler) c.args.self.now.core c.take-answer.new.self
    c.next-piece.result.now c.args.self.now.out.items c.take-answer.new.out.items begin
    c.take-answer.ensures.stands h

pub returns-else-starved-clause-from : goal.returns-else-starved-clause-from
returns-else-starved-clause-from g c = λ begin h.
    still_from (g.H.StartupHandler.means c.args.self.now.core.handler) c.args.self.now.core c.take-answer.new.self
    c.next-piece.result.now c.args.self.now.out.items c.take-answer.new.out.items begin
    c.take-answer.ensures.stands h

pub returns-else-starved-clause-took : goal.returns-else-starved-clause-took
returns-else-starved-clause-took g c = λ course at.
    went_took (g.H.StartupHandler.means c.args.self.now.core.handler) c.args.self.now
    (record {
      core = c.take-answer.new.self;
      answer = c.replace.new.dest;
      taken = c.args.self.now.taken + length
          c.next-piece.result.now;
      out = c.take-answer.new.out;
    })
    c.args.bytes.now c.args.count course c.next-piece.result.now c.take-answer.result (sym c.is_end.ensures
    ∙ c.if-is_end.false) at (c.take-answer.ensures.continues course c.args.self.now.out.items at.is_at)
    c.next-piece.ensures c.replace.ensures.after refl
    (not_starved c.is_starved-starved.ensures c.if-starved.false)
