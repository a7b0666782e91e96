use Rattle.pgw_control.proofs.OpeningLaws.{cancel_has}
use Rattle.pgw_control.proofs.laws.a_cancel_request_has_its_code.Goals as goal

pub returns : goal.returns
returns c = cancel_has
