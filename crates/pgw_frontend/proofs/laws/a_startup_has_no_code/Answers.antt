use Rattle.pgw_frontend.proofs.FrontendLaws.{startup_has}
use Rattle.pgw_frontend.proofs.laws.a_startup_has_no_code.Goals as goal

pub returns : goal.returns
returns c = startup_has
