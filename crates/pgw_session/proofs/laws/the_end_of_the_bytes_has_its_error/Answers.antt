use Rattle.pgw_session.proofs.FailureLaws.{ends_as}
use Rattle.pgw_session.proofs.laws.the_end_of_the_bytes_has_its_error.Goals as goal

pub returns : goal.returns
returns c = ends_as
