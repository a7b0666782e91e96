use Rattle.pgw_client_push.proofs.CallLaws.{ends}
use Rattle.pgw_client_push.proofs.client.PushClient.at_end.Goals as goal

pub returns-clause-cause : goal.returns-clause-cause
returns-clause-cause c = ends c.args.self.now c.end_error.result c.requires c.end_error.ensures.is
