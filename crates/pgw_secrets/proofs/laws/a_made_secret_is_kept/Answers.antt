use Rattle.pgw_secrets.proofs.Digests.{made_kept}
use Rattle.pgw_secrets.proofs.laws.a_made_secret_is_kept.Goals as goal

pub returns : goal.returns
returns c password salt count least most bytes = made_kept password salt count least most bytes
