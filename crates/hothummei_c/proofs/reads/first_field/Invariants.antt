use Rattle.std.proofs.Common.{◌≡◌, drop}
use Rattle.hothummei_c.specs.Reads.{first_field}
use Rattle.hothummei_c.proofs.reads.first_field.Given as goal

abbrev pub invariant-loop-field : goal.invariant-loop-field
invariant-loop-field l = first_field l.code (drop l.field-index l.fields) ≡ first_field l.code l.fields
