use Rattle.std.proofs.Common.{rules}
use Rattle.pgw_scram.proofs.MessageLaws.{server_final_form}
use Rattle.pgw_scram.proofs.messages.ServerFinal.read.Goals as goal

pub returns-in_ok-from_str-in-Ok-Signature-clause-form : goal.returns-in_ok-from_str-in-Ok-Signature-clause-form
returns-in_ok-from_str-in-Ok-Signature-clause-form c = server_final_form c.args.message.now _ (search rules)

pub returns-in_ok-from_str-in-Ok-Failed-clause-form : goal.returns-in_ok-from_str-in-Ok-Failed-clause-form
returns-in_ok-from_str-in-Ok-Failed-clause-form c = server_final_form c.args.message.now _ (search rules)
