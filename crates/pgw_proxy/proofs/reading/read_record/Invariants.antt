use Rattle.std.proofs.Common.{◌≤◌, ◌+◌, length}
use Rattle.pgw_proxy.specs.Context.{first}
use Rattle.pgw_proxy.specs.ReadingSteps.{ReadOn}
use Rattle.pgw_proxy.proofs.reading.read_record.Given as goal

abbrev pub invariant-loop-rest : goal.invariant-loop-rest
invariant-loop-rest l = record {
  on : ReadOn first 0 l.fn.bytes l.messages l.context l.number l.rest;
  counted : l.number + length l.rest ≤ length l.fn.bytes;
}

abbrev pub decreases-loop-rest : goal.decreases-loop-rest
decreases-loop-rest l = length l.rest
