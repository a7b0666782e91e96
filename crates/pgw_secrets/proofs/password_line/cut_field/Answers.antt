use Rattle.pgw_secrets.proofs.Fields.{cut_found, not_found}
use Rattle.std.proofs.Common.{sym}
use Rattle.pgw_secrets.proofs.password_line.cut_field.Goals as goal

pub returns-in-Some : goal.returns-in-Some
returns-in-Some c = cut_found c.args.text.now c.in-Some.at (sym c.in-Some.ensures.place)

pub returns-in-None : goal.returns-in-None
returns-in-None c = not_found c.args.text.now (sym c.in-None.ensures.place)
