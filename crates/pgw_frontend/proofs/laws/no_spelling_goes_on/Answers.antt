use Rattle.pgw_frontend.proofs.FrontendLaws.{ends, same}
use Rattle.pgw_frontend.proofs.laws.no_spelling_goes_on.Goals as goal

pub returns : goal.returns
returns c = record { ends = ends; same = same }
