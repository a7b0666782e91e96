use Rattle.pgw_scram.proofs.CutLaws.{cuts_last}
use Rattle.pgw_scram.proofs.attributes.cut_last.Goals as goal

pub returns : goal.returns
returns c = cuts_last c.args.text.now c.rsplit_once.result c.rsplit_once.ensures.cases
