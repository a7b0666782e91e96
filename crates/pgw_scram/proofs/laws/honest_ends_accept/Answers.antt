use Rattle.pgw_scram.proofs.HonestLaws.{both_accept}
use Rattle.pgw_scram.proofs.laws.honest_ends_accept.Goals as goal

pub returns : goal.returns
returns c client server password client_nonce server_nonce =
    both_accept client server password client_nonce server_nonce
