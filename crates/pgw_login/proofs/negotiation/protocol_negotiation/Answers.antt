use Rattle.std.proofs.Common.{refl, ap, inl, inr, [], ◌≡◌}
use Rattle.std.proofs.lemmas.Result.{err_from_is_err_and}
use Rattle.pgw_login.proofs.ActLaws.{did_then, did_halt, did_quiet, did_set, did_mark, did_settle, did_introduce, did_saved, did_not_saved}
use Rattle.pgw_login.specs.Client.{with_version, with_state}
use Rattle.pgw_login.proofs.negotiation.protocol_negotiation.Goals as goal

pub returns-in_err-tell-clause-negotiated : goal.returns-in_err-tell-clause-negotiated
returns-in_err-tell-clause-negotiated g c =
    let p = err_from_is_err_and c.from_residual-in_err-tell.result c.from_residual-in_err-tell.ensures.1 in
    λ login. rw (p.1, p.2)
    (rw (← c.in_ok-version.ensures)
    (did_halt (c.in_err-tell.ensures.told (g.C.ClientInfo.sight c.args.client.now) login)))

pub returns-clause-negotiated : goal.returns-clause-negotiated
returns-clause-negotiated g c =
    λ login. rw (← c.in_ok-version.ensures)
    (did_then (c.in_ok-tell.ensures.told (g.C.ClientInfo.sight c.args.client.now) login)
    (did_set (with_version c.in_ok-version.version) login _ c.set_protocol_version.ensures))
