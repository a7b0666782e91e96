use Rattle.std.proofs.Common.{refl, ap, inl, inr, [], ◌≡◌}
use Rattle.std.proofs.lemmas.Result.{err_from_is_err_and}
use Rattle.pgw_login.proofs.ActLaws.{did_then, did_halt, did_quiet, did_set, did_mark, did_settle, did_introduce, did_saved, did_not_saved}
use Rattle.pgw_login.specs.Acts.{standing_in_login, with_sasl, halts, goes}
use Rattle.pgw_login.specs.declared.state.SASLState.TheVariants.{Finished}
use Rattle.pgw_login.proofs.finish.finish.Goals as goal

pub returns-in_err-accept-clause-finished : goal.returns-in_err-accept-clause-finished
returns-in_err-accept-clause-finished g c =
    let p = err_from_is_err_and c.from_residual.result c.from_residual.ensures.1 in
    rw (p.1, p.2) (did_halt (did_quiet (c.in_err-accept.ensures.accepted _)))

pub returns-in_err-finish_authentication-clause-finished :
    goal.returns-in_err-finish_authentication-clause-finished
returns-in_err-finish_authentication-clause-finished g c =
    let p =
    err_from_is_err_and c.from_residual-in_err-finish_authentication.result
    c.from_residual-in_err-finish_authentication.ensures.1 in
    rw (p.1, p.2) (did_then (did_quiet (c.in_ok-accept.ensures.accepted _))
    (did_halt (c.in_err-finish_authentication.ensures.finished _)))

pub returns-clause-finished : goal.returns-clause-finished
returns-clause-finished g c =
    did_then (did_quiet (c.in_ok-accept.ensures.accepted _))
    (did_then (c.in_ok-finish_authentication.ensures.finished _) (did_mark (with_sasl Finished) _ _ refl))
