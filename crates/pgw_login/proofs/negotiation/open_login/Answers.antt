use Rattle.std.proofs.Common.{refl, ap, inl, inr, [], ◌≡◌}
use Rattle.std.proofs.lemmas.Result.{err_from_is_err_and}
use Rattle.pgw_login.proofs.ActLaws.{did_then, did_halt, did_quiet, did_set, did_mark, did_settle, did_introduce, did_saved, did_not_saved}
use Rattle.pgw_login.specs.Client.{with_version, with_state}
use Rattle.pgw_login.specs.declared.client_info.PgWireConnectionState.TheVariants.{AuthenticationInProgress, ReadyForQuery}
use Rattle.pgw_login.proofs.negotiation.open_login.Goals as goal

pub returns-in_err-begin-clause-opened : goal.returns-in_err-begin-clause-opened
returns-in_err-begin-clause-opened g c =
    let p = err_from_is_err_and c.from_residual.result c.from_residual.ensures.1 in
    rw (p.1, p.2) (did_halt c.in_err-begin.ensures.begun)

pub returns-clause-opened : goal.returns-clause-opened
returns-clause-opened g c =
    did_then c.in_ok-begin.ensures.begun (did_set (with_state AuthenticationInProgress) _ _ c.set_state.ensures)
