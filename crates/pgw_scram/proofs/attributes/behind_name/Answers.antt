use Rattle.pgw_scram.proofs.CutLaws.{strips}
use Rattle.pgw_scram.proofs.attributes.behind_name.Goals as goal

pub returns : goal.returns
returns c = strips c.args.name.now c.args.text.now c.strip_prefix.result c.strip_prefix.ensures.cases
