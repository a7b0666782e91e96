use Rattle.std.proofs.Common.{length}
use Rattle.pgw_prog_script.proofs.HexLaws.{Told}
use Rattle.pgw_prog_script.proofs.server_bytes.ServerBytes.add_spread_pairs.Given as goal

abbrev pub invariant-loop-first : goal.invariant-loop-first
invariant-loop-first l = Told l.fn.self l.self-inside.bytes.items l.rest l.fn.text

abbrev pub decreases-loop-first : goal.decreases-loop-first
decreases-loop-first l = length l.rest
