use Rattle.std.proofs.Common.{refl, ap, inl, inr, [], ◌≡◌}
use Rattle.std.proofs.lemmas.Result.{err_from_is_err_and}
use Rattle.pgw_login.proofs.ActLaws.{did_then, did_halt, did_quiet, did_set, did_mark, did_settle, did_introduce, did_saved, did_not_saved}
use Rattle.pgw_login.specs.Acts.{standing_in_login, with_sasl, halts, goes}
use Rattle.pgw_login.proofs.negotiation.begin.Goals as goal

pub returns-in_err-start-clause-begun : goal.returns-in_err-start-clause-begun
returns-in_err-start-clause-begun g c =
    let p = err_from_is_err_and c.from_residual.result c.from_residual.ensures.1 in
    rw (p.1, p.2) (did_halt (did_quiet (c.in_err-start.ensures.started _ _)))

pub returns-in_err-protocol_negotiation-clause-begun : goal.returns-in_err-protocol_negotiation-clause-begun
returns-in_err-protocol_negotiation-clause-begun g c =
    let p =
    err_from_is_err_and c.from_residual-in_err-protocol_negotiation.result
    c.from_residual-in_err-protocol_negotiation.ensures.1 in
    rw (p.1, p.2) (did_then (did_quiet (c.in_ok-start.ensures.started _ _))
    (did_halt (c.in_err-protocol_negotiation.ensures.negotiated _)))

pub returns-in_err-save_startup_parameters_to_metadata-clause-begun :
    goal.returns-in_err-save_startup_parameters_to_metadata-clause-begun
returns-in_err-save_startup_parameters_to_metadata-clause-begun g c =
    let p =
    err_from_is_err_and c.from_residual-in_err-save_startup_parameters_to_metadata.result
    c.from_residual-in_err-save_startup_parameters_to_metadata.ensures.1 in
    rw (p.1, p.2) (did_then (did_quiet (c.in_ok-start.ensures.started _ _))
    (did_then (c.in_ok-protocol_negotiation.ensures.negotiated _)
    (did_not_saved c.args.startup.now _ _ c.in_err-save_startup_parameters_to_metadata.ensures.refused)))

pub returns-clause-begun : goal.returns-clause-begun
returns-clause-begun g c =
    did_then (did_quiet (c.in_ok-start.ensures.started _ _))
    (did_then (c.in_ok-protocol_negotiation.ensures.negotiated _)
    (did_saved c.args.startup.now _ _ c.in_ok-save_startup_parameters_to_metadata.ensures.saved))
