use Rattle.std.proofs.Common.{ap, ◌∙◌}
use Rattle.pgw_login_pair.specs.Sides.{end_in}
use Rattle.pgw_login_pair.proofs.ServerLaws.{end_at}
use Rattle.pgw_login_pair.proofs.server_side.ServerSide.end.Goals as goal

pub returns-clause-is : goal.returns-clause-is
returns-clause-is g c = λ course at. c.end_of.ensures ∙ ap end_in at.answer ∙ end_at course
