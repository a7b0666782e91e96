use Rattle.std.proofs.Common.{◌∙◌, arith}
use Rattle.pgw_hash.specs.Xor.{xor}
use Rattle.pgw_hash.proofs.Xoring.{xor_more, xor_done}
use Rattle.pgw_hash.proofs.xor.xor_into.Goals as goal

pub loop-i-preserved : goal.loop-i-preserved
loop-i-preserved c =
    xor_more c.loop-i.octets c.args.other.now c.loop-i.i (omega arith) (omega arith) ∙ c.loop-i.invariant

pub returns : goal.returns
returns c =
    xor_done c.loop-i.octets c.args.other.now (xor c.args.octets.now c.args.other.now) c.loop-i.i (omega arith)
    c.loop-i.invariant
