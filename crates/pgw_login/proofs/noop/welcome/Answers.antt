use Rattle.std.proofs.Common.{refl, ap, inl, inr, [], ◌≡◌}
use Rattle.std.proofs.lemmas.Result.{err_from_is_err_and}
use Rattle.pgw_login.proofs.ActLaws.{did_then, did_halt, did_quiet, did_set, did_mark, did_settle, did_introduce, did_saved, did_not_saved}
use Rattle.pgw_login.specs.Acts.{standing_in_login, with_sasl, halts, goes}
use Rattle.pgw_login.specs.declared.state.SASLState.TheVariants.{Finished}
use Rattle.pgw_login.proofs.noop.welcome.Goals as goal

pub returns-in_err-begin-clause-welcomed : goal.returns-in_err-begin-clause-welcomed
returns-in_err-begin-clause-welcomed g c =
    let p = err_from_is_err_and c.from_residual.result c.from_residual.ensures.1 in
    rw (p.1, p.2) (did_halt c.in_err-begin.ensures.begun)

pub returns-in_err-accept-clause-welcomed : goal.returns-in_err-accept-clause-welcomed
returns-in_err-accept-clause-welcomed g c =
    let p = err_from_is_err_and c.from_residual-in_err-accept.result c.from_residual-in_err-accept.ensures.1 in
    rw (p.1, p.2) (did_then c.in_ok-begin.ensures.begun
    (did_halt (did_quiet (rw c.connection_manager.ensures at
    (c.in_err-accept.ensures.accepted (g.O.Outbox.faults c.begin.new.out))))))

pub returns-in_err-introduce_default-clause-welcomed : goal.returns-in_err-introduce_default-clause-welcomed
returns-in_err-introduce_default-clause-welcomed g c =
    let p =
    err_from_is_err_and c.from_residual-in_err-introduce_default.result
    c.from_residual-in_err-introduce_default.ensures.1 in
    rw (p.1, p.2) (did_then c.in_ok-begin.ensures.begun
    (did_then (did_quiet (rw c.connection_manager.ensures at
    (c.in_ok-accept.ensures.accepted (g.O.Outbox.faults c.begin.new.out))))
    (did_halt (c.in_err-introduce_default.ensures _))))

pub returns-in_err-post_startup-clause-welcomed : goal.returns-in_err-post_startup-clause-welcomed
returns-in_err-post_startup-clause-welcomed g c =
    let p =
    err_from_is_err_and c.from_residual-in_err-post_startup.result
    c.from_residual-in_err-post_startup.ensures.1 in
    rw (p.1, p.2) (did_then c.in_ok-begin.ensures.begun
    (did_then (did_quiet (rw c.connection_manager.ensures at
    (c.in_ok-accept.ensures.accepted (g.O.Outbox.faults c.begin.new.out))))
    (did_then (c.in_ok-introduce_default.ensures _) (did_halt (c.in_err-post_startup.ensures _)))))

pub returns-in_err-ready-clause-welcomed : goal.returns-in_err-ready-clause-welcomed
returns-in_err-ready-clause-welcomed g c =
    let p = err_from_is_err_and c.from_residual-in_err-ready.result c.from_residual-in_err-ready.ensures.1 in
    rw (p.1, p.2) (did_then c.in_ok-begin.ensures.begun
    (did_then (did_quiet (rw c.connection_manager.ensures at
    (c.in_ok-accept.ensures.accepted (g.O.Outbox.faults c.begin.new.out))))
    (did_then (c.in_ok-introduce_default.ensures _)
    (did_then (c.in_ok-post_startup.ensures _) (did_halt (c.in_err-ready.ensures.readied _))))))

pub returns-clause-welcomed : goal.returns-clause-welcomed
returns-clause-welcomed g c =
    did_then c.in_ok-begin.ensures.begun
    (did_then (did_quiet (rw c.connection_manager.ensures at
    (c.in_ok-accept.ensures.accepted (g.O.Outbox.faults c.begin.new.out))))
    (did_then (c.in_ok-introduce_default.ensures _)
    (did_then (c.in_ok-post_startup.ensures _)
    (did_then (c.in_ok-ready.ensures.readied _)
    (did_mark (with_sasl Finished) _ _ c.set_sasl.ensures)))))
