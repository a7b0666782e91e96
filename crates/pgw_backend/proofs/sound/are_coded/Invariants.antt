use Rattle.std.proofs.Common.{take}
use Rattle.pgw_query.specs.Sound.{IsCoded}
use Rattle.std.specs.List.{AllByRecursion}
use Rattle.pgw_backend.proofs.sound.are_coded.Given as goal

abbrev pub invariant-loop-field : goal.invariant-loop-field
invariant-loop-field l = AllByRecursion IsCoded (take l.field-index l.fields)
