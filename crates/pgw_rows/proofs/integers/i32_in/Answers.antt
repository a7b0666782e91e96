use Rattle.std.proofs.Common.{ap, ◌∙◌}
use Rattle.std.specs.Int.{w32}
use Rattle.pgw_rows.specs.Values.{integer_in}
use Rattle.pgw_rows.proofs.NumberLaws.{parsed, not_a_number}
use Rattle.pgw_rows.proofs.integers.i32_in.Goals as goal

pub returns-in-Ok : goal.returns-in-Ok
returns-in-Ok c =
    c.ok.ensures.value ∙ parsed w32 c.in-Ok.text.now c.parse.result c.parse.ensures.value.0
    ∙ ap (integer_in w32) c.in-Ok.ensures.cases.0

pub returns-in-Err : goal.returns-in-Err
returns-in-Err c = not_a_number w32 c.args.text.now c.in-Err.ensures.cases.0
