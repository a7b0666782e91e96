use Rattle.std.proofs.Common.{◌∙◌}
use Rattle.pgw_types.proofs.NumberLaws.{parsed}
use Rattle.pgw_prog_commands.proofs.options.number.Goals as goal

pub returns : goal.returns
returns c = c.ok.ensures.value ∙ parsed 32 c.args.word.now c.parse.result c.parse.ensures.value.0
