use Rattle.std.proofs.Common.{refl}
use Rattle.pgw_login.proofs.ActLaws.{did_quiet}
use Rattle.pgw_login_sasl.proofs.handler.tell.Goals as goal

pub returns-in-None-clause-told : goal.returns-in-None-clause-told
returns-in-None-clause-told g c =
    λ client login. rw c.in-None.is (did_quiet (refl, refl))
