use Rattle.std.proofs.Common.{◌≡◌, take}
use Rattle.pgw_prog_output.specs.Said.{columns_of}
use Rattle.pgw_prog_output.proofs.answer_columns.columns.Given as goal

abbrev pub invariant-loop-field : goal.invariant-loop-field
invariant-loop-field l = l.columns ≡ columns_of (take l.field-index l.fields)
