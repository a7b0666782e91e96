use Rattle.std.proofs.Common.{◌≡◌, map}
use Rattle.pgw_query.specs.Fields.{field_info_of}
use Rattle.pgw_dialogue.proofs.answers.columns.Given as goal

abbrev pub invariant-loop-field : goal.invariant-loop-field
invariant-loop-field l = l.columns ≡ map field_info_of l.yielded
