use Rattle.std.proofs.Common.{refl}
use Rattle.pgw_login.proofs.ActLaws.{did_quiet}
use Rattle.pgw_login_sasl.proofs.handler.SASLAuthStartupHandler.answer.Goals as goal

pub returns-in-Other-clause-answered : goal.returns-in-Other-clause-answered
returns-in-Other-clause-answered g c =
    rw c.in-Other.is (did_quiet (refl, refl, refl))
