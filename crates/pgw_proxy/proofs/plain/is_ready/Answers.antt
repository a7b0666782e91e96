use Rattle.std.proofs.Common.{arith}
use Rattle.std.proofs.lemmas.Bool.{OnTrue_at, OnTrue_from}
use Rattle.pgw_proxy.proofs.PlainLaws.{ready_is}
use Rattle.pgw_proxy.proofs.plain.is_ready.Goals as goal

pub returns : goal.returns
returns c =
    OnTrue_from c.is_status.result _
    (λ is. ready_is c.args.body.now (omega arith) (OnTrue_at is c.is_status.ensures))
