use Rattle.pgw_secrets.proofs.Comparing.{waiting_key}
use Rattle.pgw_secrets.proofs.laws.a_waiting_server_has_a_key.Goals as goal

pub returns : goal.returns
returns c server salt salted own message text waits e = waiting_key server salt salted own message text waits e
