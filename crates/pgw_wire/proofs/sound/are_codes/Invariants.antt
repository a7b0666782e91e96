use Rattle.std.proofs.Common.{take}
use Rattle.pgw_wire.specs.Sound.{IsCode}
use Rattle.std.specs.List.{AllByRecursion}
use Rattle.pgw_wire.proofs.sound.are_codes.Given as goal

abbrev pub invariant-loop-code : goal.invariant-loop-code
invariant-loop-code l = AllByRecursion IsCode (take l.code-index l.codes)
