use Rattle.pgw_session.proofs.FailureLaws.{told}
use Rattle.pgw_session.proofs.laws.all_bytes_are_told.Goals as goal

pub returns : goal.returns
returns c = told
