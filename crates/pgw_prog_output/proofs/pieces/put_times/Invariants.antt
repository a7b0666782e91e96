use Rattle.std.proofs.Common.{◌≡◌, ◌++◌, replicate}
use Rattle.pgw_prog_output.proofs.pieces.put_times.Given as goal

abbrev pub invariant-loop-at : goal.invariant-loop-at
invariant-loop-at l = l.out.items ≡ l.initial.out.items ++ replicate l._at l.byte
