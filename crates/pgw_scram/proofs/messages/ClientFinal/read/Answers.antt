use Rattle.std.proofs.Common.{rules}
use Rattle.pgw_scram.proofs.MessageLaws.{client_final_form}
use Rattle.pgw_scram.proofs.messages.ClientFinal.read.Goals as goal

pub returns-clause-form : goal.returns-clause-form
returns-clause-form c = client_final_form c.args.message.now _ (search rules)
