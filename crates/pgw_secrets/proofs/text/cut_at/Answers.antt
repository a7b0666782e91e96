use Rattle.pgw_secrets.proofs.Marks.{cuts}
use Rattle.pgw_secrets.proofs.text.cut_at.Goals as goal

pub returns : goal.returns
returns c = cuts c.args.mark c.args.text.now c.split_once.result c.split_once.ensures.cases c.requires
