use Rattle.std.proofs.Common.{take, IsUtf8}
use Rattle.std.specs.List.{AllByRecursion}
use Rattle.pgw_wire.proofs.sound.are_texts.Given as goal

abbrev pub invariant-loop-text : goal.invariant-loop-text
invariant-loop-text l = AllByRecursion IsUtf8 (take l.text-index l.texts)
