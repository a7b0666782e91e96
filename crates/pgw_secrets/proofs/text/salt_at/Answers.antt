use Rattle.pgw_secrets.proofs.Parts.{no_salt}
use Rattle.pgw_secrets.proofs.text.salt_at.Goals as goal

pub returns-in-None : goal.returns-in-None
returns-in-None c =
    no_salt (λ v. v.items) c.args.text.now c.in-Some.written.now c.in-Some.behind.now c.in_ok-salt.field-0
    c.in-None.is c.in-Some.ensures c.in_ok-salt.ensures
