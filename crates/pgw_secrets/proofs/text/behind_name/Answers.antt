use Rattle.pgw_secrets.proofs.Parts.{named}
use Rattle.pgw_secrets.proofs.text.behind_name.Goals as goal

pub returns : goal.returns
returns c = named c.args.text.now c.strip_prefix.result c.strip_prefix.ensures.cases
