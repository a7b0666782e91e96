use Rattle.pgw_secrets.proofs.Comparing.{shown}
use Rattle.pgw_secrets.proofs.laws.an_accepted_proof_hashes_to_the_stored_key.Goals as goal

pub returns : goal.returns
returns c server message final is = shown server message final is
