use Rattle.std.proofs.Common.{◌∙◌}
use Rattle.pgw_config.proofs.NumberLaws.{parsed}
use Rattle.pgw_config.proofs.numbers.read_seconds.Goals as goal

pub returns : goal.returns
returns c = c.ok.ensures.value ∙ parsed c.args.text.now c.parse.result c.parse.ensures.value.0
