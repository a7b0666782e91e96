use Rattle.std.proofs.Common.{ap}
use Rattle.pgw_scram.specs.Readers.{read_server_first}
use Rattle.pgw_scram.specs.Refusals.{parts_refusal, scram_first_refusal}
use Rattle.pgw_scram.specs.Client.{reply_to}
use Rattle.pgw_scram.proofs.RefusalLaws.{read_is, refused}
use Rattle.pgw_scram.proofs.exchange.client_final.Goals as goal

pub returns-in_err-parts : goal.returns-in_err-parts
returns-in_err-parts c =
    let login = c.args.login.now in
    let first = c.args.server_first.now in
    refused (read_server_first first) (scram_first_refusal login.nonce first) (reply_to login first)
    c.in_err-parts.field-0.0 c.from_residual.result
    (λ why e. ap (parts_refusal login.nonce) e) c.in_err-parts.ensures.value c.from_residual.ensures.1

pub reply_to-requires : goal.reply_to-requires
reply_to-requires c =
    read_is (read_server_first c.args.server_first.now) c.in_ok-parts.parts c.in_ok-parts.ensures.value
