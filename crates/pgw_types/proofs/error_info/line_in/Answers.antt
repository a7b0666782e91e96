use Rattle.std.proofs.Common.{ap, ◌∙◌}
use Rattle.std.specs.Prelude.{unwrap_or}
use Rattle.pgw_types.specs.Numbers.{number_in}
use Rattle.pgw_types.proofs.NumberLaws.{parsed, result_unwrap_or-ok}
use Rattle.pgw_types.proofs.error_info.line_in.Goals as goal

pub returns : goal.returns
returns c =
    c.unwrap_or.ensures ∙ result_unwrap_or-ok c.parse.result 0
    ∙ ap (λ o. unwrap_or o 0) (parsed 64 c.as_str.result.now c.parse.result c.parse.ensures.value.0
    ∙ ap (number_in 64) c.as_str.ensures.value)
