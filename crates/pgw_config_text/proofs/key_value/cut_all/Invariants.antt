use Rattle.std.proofs.Common.{List, ◌++◌, length, Option}
use Rattle.pgw_config_text.specs.KeyValue.{IsCut}
use Rattle.pgw_config_text.specs.declared.part.Part.{Part}
use Rattle.pgw_config_text.specs.declared.part.Fault.{Fault}
use Rattle.pgw_config_text.proofs.key_value.cut_all.Given as goal

abbrev pub invariant-loop-parts : goal.invariant-loop-parts
invariant-loop-parts l =
    (parts : List Part) (end : Option Fault) → IsCut l.rest parts end → IsCut l.fn.text (l.parts ++ parts) end

abbrev pub decreases-loop-parts : goal.decreases-loop-parts
decreases-loop-parts l = length l.rest
