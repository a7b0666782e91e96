use Rattle.pgw_proxy.proofs.CameLaws.{passed_on_came}
use Rattle.pgw_proxy.proofs.laws.what_is_passed_on_came.Goals as goal

pub returns : goal.returns
returns c = passed_on_came
