use Rattle.pgw_scram.specs.Exchange.{client_final, signature}
use Rattle.pgw_scram.specs.Refusals.{scram_first_refusal}
use Rattle.pgw_scram.specs.Client.{reply_to}
use Rattle.pgw_scram.proofs.RefusalLaws.{passed_on}
use Rattle.pgw_scram.proofs.client.ScramClientAuthWaitingForServerFirst.build_client_final.Goals as goal

pub returns-in_err-reply : goal.returns-in_err-reply
returns-in_err-reply c =
    let login = c.args.self.now.login in
    let first = c.args.message.now in
    passed_on (scram_first_refusal login.nonce first) (reply_to login first)
    (client_final login first, record { signature = signature login first }) c.in_err-reply.field-0.0
    c.from_residual.result
    c.in_err-reply.ensures c.from_residual.ensures.1
