use Rattle.std.proofs.Common.{take}
use Rattle.pgw_wire.specs.Sound.{IsOid}
use Rattle.std.specs.List.{AllByRecursion}
use Rattle.pgw_wire.proofs.sound.are_oids.Given as goal

abbrev pub invariant-loop-oid : goal.invariant-loop-oid
invariant-loop-oid l = AllByRecursion IsOid (take l.oid-index l.oids)
