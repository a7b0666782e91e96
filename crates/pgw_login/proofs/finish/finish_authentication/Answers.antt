use Rattle.std.proofs.Common.{refl, ap, inl, inr, [], ◌≡◌}
use Rattle.std.proofs.lemmas.Result.{err_from_is_err_and}
use Rattle.pgw_login.proofs.ActLaws.{did_then, did_halt, did_quiet, did_set, did_mark, did_settle, did_introduce, did_saved, did_not_saved}
use Rattle.pgw_login.proofs.finish.finish_authentication.Goals as goal

pub returns-in_err-introduce-clause-finished : goal.returns-in_err-introduce-clause-finished
returns-in_err-introduce-clause-finished g c =
    let p = err_from_is_err_and c.from_residual.result c.from_residual.ensures.1 in
    λ login. rw (p.1, p.2) (did_halt (c.in_err-introduce.ensures login))

pub returns-clause-finished : goal.returns-clause-finished
returns-clause-finished g c =
    λ login. did_then (c.in_ok-introduce.ensures login) (c.ready.ensures.readied login)
