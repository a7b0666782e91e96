use Rattle.pgw_secrets.proofs.Parts.{no_count}
use Rattle.pgw_secrets.proofs.text.count_at.Goals as goal

pub returns-in-None : goal.returns-in-None
returns-in-None c =
    no_count c.args.text.now c.in-Some.written.now c.in-Some.behind.now c.in-Some.ensures c.in-None.ensures
