use Rattle.pgw_secrets.proofs.Parts.{no_key}
use Rattle.pgw_secrets.proofs.text.key_at.Goals as goal

pub returns-in-None : goal.returns-in-None
returns-in-None c =
    no_key c.args.text.now c.in-Some.written.now c.in-Some.behind.now c.in_ok-key.field-0 c.in-None.is
    c.in-Some.ensures c.in_ok-key.ensures
