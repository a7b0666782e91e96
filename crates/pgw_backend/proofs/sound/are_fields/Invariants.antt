use Rattle.std.proofs.Common.{take}
use Rattle.pgw_query.specs.Sound.{IsField}
use Rattle.std.specs.List.{AllByRecursion}
use Rattle.pgw_backend.proofs.sound.are_fields.Given as goal

abbrev pub invariant-loop-field : goal.invariant-loop-field
invariant-loop-field l = AllByRecursion IsField (take l.field-index l.fields)
