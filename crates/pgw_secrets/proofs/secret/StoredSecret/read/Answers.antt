use Rattle.pgw_secrets.proofs.Parts.{only_reading}
use Rattle.pgw_secrets.proofs.secret.StoredSecret.read.Goals as goal

pub returns-clause-only : goal.returns-clause-only
returns-clause-only c other is = only_reading c.args.text.now c.read_text.result other c.read_text.ensures is
