use Rattle.pgw_secrets.proofs.Comparing.{refused_alike}
use Rattle.pgw_secrets.proofs.laws.a_secret_refuses_alike_before_the_proof.Goals as goal

pub returns : goal.returns
returns c server message e is = refused_alike server message e is
