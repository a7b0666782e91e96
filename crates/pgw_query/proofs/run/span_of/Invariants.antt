use Rattle.std.proofs.Common.{length, ◌-◌}
use Rattle.pgw_query.proofs.RunLaws.{Spans}
use Rattle.pgw_query.proofs.run.span_of.Given as goal

abbrev pub invariant-loop-len : goal.invariant-loop-len
invariant-loop-len l = Spans l.bytes l.rows l.end

abbrev pub decreases-loop-len : goal.decreases-loop-len
decreases-loop-len l = length l.bytes - l.end
