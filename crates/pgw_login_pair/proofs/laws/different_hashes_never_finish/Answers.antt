use Rattle.pgw_login_pair.proofs.Whole.{different_hashes_never_finish}
use Rattle.pgw_login_pair.proofs.laws.different_hashes_never_finish.Goals as goal

pub returns : goal.returns
returns c = different_hashes_never_finish
