use Rattle.std.proofs.Common.{length}
use Rattle.pgw_prog_script.specs.ServerBytes.{AddsFront}
use Rattle.pgw_prog_script.proofs.server_bytes.ServerBytes.add_whole_pairs.Given as goal

abbrev pub invariant-loop-rest : goal.invariant-loop-rest
invariant-loop-rest l = AddsFront l.rest l.fn.text l.fn.self l.self-inside.bytes.items

abbrev pub decreases-loop-rest : goal.decreases-loop-rest
decreases-loop-rest l = length l.rest
