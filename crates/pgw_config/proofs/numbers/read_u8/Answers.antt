use Rattle.pgw_types.proofs.NumberLaws.{parsed}
use Rattle.std.proofs.Common.{◌∙◌}
use Rattle.pgw_config.proofs.numbers.read_u8.Goals as goal

pub returns : goal.returns
returns c = c.ok.ensures.value ∙ parsed 8 c.args.text.now c.parse.result c.parse.ensures.value.0
