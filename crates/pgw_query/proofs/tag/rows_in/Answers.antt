use Rattle.std.proofs.Common.{◌∙◌}
use Rattle.pgw_types.proofs.NumberLaws.{parsed}
use Rattle.pgw_query.proofs.tag.rows_in.Goals as goal

pub returns : goal.returns
returns c = c.ok.ensures.value ∙ parsed 64 c.args.text.now c.parse.result c.parse.ensures.value.0
