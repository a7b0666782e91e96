use Rattle.std.proofs.Common.{sym}
use Rattle.pgw_prog_pool.proofs.CallLaws.{printed_none, printed_next}
use Rattle.pgw_prog_pool.proofs.run.make_calls.Goals as goal

pub loop-at-init : goal.loop-at-init
loop-at-init c = (c.requires, printed_none _ c.args.text.now.items)

pub loop-at-preserved : goal.loop-at-preserved
loop-at-preserved c = (
  c.make_call.ensures.room,
  printed_next _ _ _ c.args.calls.now c.loop-at.at _ _ _ _ c.loop-at-test.true
      (sym c.index-calls-at.is) c.loop-at.invariant.1
      (rw c.if-not-branch.false at c.in_ok-make_call.ensures.called),
)
