use Rattle.std.proofs.Common.{refl, ap, inl, inr, [], ◌≡◌}
use Rattle.std.proofs.lemmas.Result.{err_from_is_err_and}
use Rattle.pgw_login.proofs.ActLaws.{did_then, did_halt, did_quiet, did_set, did_mark, did_settle, did_introduce, did_saved, did_not_saved}
use Rattle.pgw_login.specs.Client.{with_version, with_state}
use Rattle.pgw_login.specs.declared.client_info.PgWireConnectionState.TheVariants.{AuthenticationInProgress, ReadyForQuery}
use Rattle.pgw_login.proofs.finish.ready.Goals as goal

pub returns-in_err-send-clause-readied : goal.returns-in_err-send-clause-readied
returns-in_err-send-clause-readied g c =
    let p = err_from_is_err_and c.from_residual.result c.from_residual.ensures.1 in
    λ login. rw (p.1, p.2) (did_halt (c.in_err-send.ensures.sent (g.C.ClientInfo.sight c.args.client.now) login))

pub returns-clause-readied : goal.returns-clause-readied
returns-clause-readied g c =
    λ login. did_then (c.in_ok-send.ensures.sent (g.C.ClientInfo.sight c.args.client.now) login)
    (did_set (with_state ReadyForQuery) login _ c.set_state.ensures)
