use Rattle.std.proofs.Common.{rules}
use Rattle.pgw_scram.proofs.MessageLaws.{server_first_form}
use Rattle.pgw_scram.proofs.messages.ServerFirst.read.Goals as goal

pub returns-clause-form : goal.returns-clause-form
returns-clause-form c = server_first_form c.args.message.now _ (search rules)
