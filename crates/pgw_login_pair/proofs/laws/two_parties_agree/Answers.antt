use Rattle.pgw_login_pair.proofs.Whole.{two_parties_agree}
use Rattle.pgw_login_pair.proofs.laws.two_parties_agree.Goals as goal

pub returns : goal.returns
returns c = two_parties_agree
