use Rattle.pgw_backend.proofs.BackendLaws.{goes_on}
use Rattle.pgw_backend.proofs.laws.no_spelling_goes_on.Goals as goal

pub returns : goal.returns
returns c = goes_on
