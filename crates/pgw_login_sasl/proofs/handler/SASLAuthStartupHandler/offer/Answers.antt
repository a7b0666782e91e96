use Rattle.std.proofs.Common.{refl, inl}
use Rattle.std.proofs.lemmas.Result.{err_from_is_err_and}
use Rattle.pgw_login.proofs.ActLaws.{did_quiet}
use Rattle.pgw_login_sasl.proofs.OfferLaws.{did_offer}
use Rattle.pgw_login_sasl.proofs.handler.SASLAuthStartupHandler.offer.Goals as goal

pub returns-in_err-methods-clause-offered : goal.returns-in_err-methods-clause-offered
returns-in_err-methods-clause-offered g c =
    let p = err_from_is_err_and c.from_residual.result c.from_residual.ensures.1 in
    λ client login. rw (p.1, p.2) (did_quiet (inl (refl, refl, refl)))

pub returns-clause-offered : goal.returns-clause-offered
returns-clause-offered g c =
    λ client login. did_offer _ c.in_ok-methods.ensures (c.send.ensures.sent client login)
