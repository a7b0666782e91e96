use Rattle.std.proofs.Common.{length}
use Rattle.pgw_proxy.specs.Taking.{RelaysUpTo}
use Rattle.pgw_proxy.proofs.taking.take_all.Given as goal

abbrev pub invariant-messages : goal.invariant-messages
invariant-messages g l = record {
  runs : RelaysUpTo l.fn.side l.fn.context l.fn.bytes l.context (g.B.Buffer.held l.left) l.fn.out.items
      l.out.items l.fn.tape.items l.tape.items;
}

abbrev pub decreases-messages : goal.decreases-messages
decreases-messages g l = length (g.B.Buffer.held l.left)
