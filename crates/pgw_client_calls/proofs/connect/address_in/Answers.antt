use Rattle.pgw_client_calls.proofs.ConnectLaws.{lacks}
use Rattle.pgw_client_calls.proofs.connect.address_in.Goals as goal

pub returns-in-Err-clause-lacks : goal.returns-in-Err-clause-lacks
returns-in-Err-clause-lacks c = lacks c.args.config.now c.in-Err.why c.from.result c.in-Err.ensures c.from.ensures
