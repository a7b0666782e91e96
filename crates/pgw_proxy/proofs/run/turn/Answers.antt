use Rattle.std.proofs.Common.{refl, arith}
use Rattle.pgw_proxy.specs.Run.{span}
use Rattle.pgw_proxy.specs.Turns.{other}
use Rattle.pgw_proxy.proofs.RunLaws.{turn_unread, turn_ended, turn_sent, turn_unsent, foretold_unsent}
use Rattle.pgw_proxy.proofs.run.turn.Goals as goal

pub returns-in-Err-clause-turn : goal.returns-in-Err-clause-turn
returns-in-Err-clause-turn g c =
    turn_unread c.args.side _ _
    (span g.F.Link.tape g.F.Link.left g.F.Link.faults c.args.from.now c.read_piece.new.link)
    (span g.T.Link.tape g.T.Link.left g.T.Link.faults c.args.to.now c.args.to.now) c.in-Err.fault
    c.requires c.in-Err.ensures.came c.in-Err.ensures.cause.failed refl refl

pub returns-then-n-eq0-clause-turn : goal.returns-then-n-eq0-clause-turn
returns-then-n-eq0-clause-turn g c =
    turn_ended c.args.side _ _
    (span g.F.Link.tape g.F.Link.left g.F.Link.faults c.args.from.now c.read_piece.new.link)
    (span g.T.Link.tape g.T.Link.left g.T.Link.faults c.args.to.now c.args.to.now) c.in-Ok.n _ c.requires
    c.in-Ok.ensures.came c.in-Ok.ensures.calm (c.if-n-eq0.true) refl refl

pub returns-in-Ok-deliver-clause-turn : goal.returns-in-Ok-deliver-clause-turn
returns-in-Ok-deliver-clause-turn g c =
    turn_sent c.args.side (other c.args.side) _ _ _ _
    (span g.F.Link.tape g.F.Link.left g.F.Link.faults c.args.from.now c.read_piece.new.link)
    (span g.T.Link.tape g.T.Link.left g.T.Link.faults c.args.to.now c.deliver.new.link) c.in-Ok.n _
    c.in-Ok.ensures.came c.in-Ok.ensures.calm (omega (arith, c.if-n-eq0.false)) _ _ _ _ _ refl
    c.new-due.ensures.items c.pass-passed.ensures c.as_slice.ensures
    c.in-Ok-deliver.ensures.delivers c.in-Ok-deliver.ensures.calm

pub returns-clause-turn : goal.returns-clause-turn
returns-clause-turn g c =
    turn_unsent c.args.side _ _ _ _ _
    (span g.F.Link.tape g.F.Link.left g.F.Link.faults c.args.from.now c.read_piece.new.link)
    (span g.T.Link.tape g.T.Link.left g.T.Link.faults c.args.to.now c.deliver.new.link) c.in-Ok.n _
    c.in-Ok.ensures.came c.in-Ok.ensures.calm (omega (arith, c.if-n-eq0.false)) _ _ _ _ _
    c.in-Err-deliver.fault _ refl c.new-due.ensures.items c.pass-passed.ensures c.as_slice.ensures
    c.other.ensures c.in-Err-deliver.ensures.delivers c.in-Err-deliver.ensures.cause.failed
    c.graver.ensures

pub returns-clause-to : goal.returns-clause-to
returns-clause-to g c t =
    foretold_unsent _ _ _ _ _ _ _ _ _ (c.in-Err-deliver.ensures.left t) c.in-Err-deliver.ensures.delivers
