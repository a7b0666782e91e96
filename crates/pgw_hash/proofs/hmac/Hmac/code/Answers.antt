use Rattle.std.proofs.Common.{[], sym, subst}
use Rattle.pgw_hash.specs.declared.hmac.Hmac.{Hmac}
use Rattle.pgw_hash.specs.Codes.{HasTaken}
use Rattle.pgw_hash.proofs.hmac.Hmac.code.Goals as goal

pub returns : goal.returns
returns c key taken =
    c.finalize.ensures key _
    (c.update.ensures key [] (subst (λ (code : Hmac). HasTaken key [] code) (sym c.copy-code.ensures) taken))
