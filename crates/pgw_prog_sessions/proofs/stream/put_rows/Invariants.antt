use Rattle.std.proofs.Common.{◌<◌, ◌^◌}
use Rattle.pgw_prog_sessions.proofs.StreamLaws.{PutSome}
use Rattle.pgw_prog_sessions.proofs.stream.put_rows.Given as goal

abbrev pub invariant-loop-left : goal.invariant-loop-left
invariant-loop-left l = record {
  bound : l.number < 2 ^ 31;
  some : PutSome l.fn.count l.fn.before l.left l.number l.fn.out.items l.out.items;
}

abbrev pub decreases-loop-left : goal.decreases-loop-left
decreases-loop-left l = l.left
