use Rattle.std.proofs.Common.{[], ◌++◌, sym, ◌∙◌}
use Rattle.std.proofs.lemmas.List.{append-nil}
use Rattle.pgw_login_server.specs.declared.connection.ServerCore.{ServerCore}
use Rattle.pgw_login_server.specs.Stands.{stage_of}
use Rattle.pgw_login_server.proofs.ServerLaws.{stands_still, stands_on, continues_on, continues_still, arrives, wants}
use Rattle.pgw_login_server.proofs.BoundLaws.{little_waits}
use Rattle.pgw_login_server.proofs.connection.ServerCore.take.Goals as goal

pub returns-then-self-clause-stands : goal.returns-then-self-clause-stands
returns-then-self-clause-stands g c begin given put stands = (
  [],
  sym (append-nil c.args.out.now.items),
  stands_still (g.H.StartupHandler.means c.args.self.now.handler)
      begin c.args.self.now given put c.args.piece.now c.if-self.true stands,
)

pub returns-clause-stands : goal.returns-clause-stands
returns-clause-stands g c begin given put stands =
    let new : ServerCore g.row.H.Denot = record c.receive-answer.new.self { over = c.is_end-self.result } in
    stands_on (g.H.StartupHandler.means c.args.self.now.handler) begin c.args.self.now new given put
    c.args.piece.now c.args.out.now.items c.receive-answer.new.out.items c.receive-answer.result
    c.if-self.false c.is_end-self.ensures stands c.receive-answer.ensures.comes

pub returns-clause-answers : goal.returns-clause-answers
returns-clause-answers g c on begin given put stands =
    let new : ServerCore g.row.H.Denot = record c.receive-answer.new.self { over = c.is_end-self.result } in
    arrives (g.H.StartupHandler.means c.args.self.now.handler) begin c.args.self.now new given put
    c.args.piece.now c.args.out.now.items c.receive-answer.new.out.items c.receive-answer.result on
    c.is_end-self.ensures stands c.receive-answer.ensures.comes

pub returns-clause-more : goal.returns-clause-more
returns-clause-more g c on =
    wants (g.H.StartupHandler.means c.args.self.now.handler) (stage_of c.args.self.now)
    (stage_of c.receive-answer.new.self) (c.args.self.now.inbox.items ++ c.args.piece.now)
    c.receive-answer.new.self.inbox.items c.args.out.now.items c.receive-answer.new.out.items
    c.receive-answer.result (sym c.is_end-self.ensures
    ∙ on) c.receive-answer.ensures.comes

pub returns-then-self-clause-continues : goal.returns-then-self-clause-continues
returns-then-self-clause-continues g c course put at =
    continues_still (g.H.StartupHandler.means c.args.self.now.handler) c.args.self.now put c.args.piece.now
    c.args.out.now.items course _ c.if-self.true at

pub returns-clause-continues : goal.returns-clause-continues
returns-clause-continues g c course put at =
    let new : ServerCore g.row.H.Denot = record c.receive-answer.new.self { over = c.is_end-self.result } in
    continues_on (g.H.StartupHandler.means c.args.self.now.handler) c.args.self.now new put c.args.piece.now
    c.args.out.now.items c.receive-answer.new.out.items course c.receive-answer.result c.if-self.false
    c.is_end-self.ensures at c.receive-answer.ensures.comes

pub returns-clause-little : goal.returns-clause-little
returns-clause-little g c bound is on asks =
    little_waits (stage_of c.receive-answer.new.self) bound c.receive-answer.new.self.inbox.items (is, asks)
    (returns-clause-more g c on)
