use Rattle.std.proofs.Common.{◌∙◌}
use Rattle.pgw_prog_script.proofs.SignedLaws.{parsed_16}
use Rattle.pgw_prog_script.proofs.request_line.parse_i16.Goals as goal

pub returns : goal.returns
returns c = c.ok.ensures.value ∙ parsed_16 c.args.text.now c.parse.result c.parse.ensures.value.0
