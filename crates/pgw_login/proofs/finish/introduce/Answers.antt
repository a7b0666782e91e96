use Rattle.std.proofs.Common.{refl, ap, inl, inr, [], ◌≡◌}
use Rattle.std.proofs.lemmas.Result.{err_from_is_err_and}
use Rattle.pgw_login.proofs.ActLaws.{did_then, did_halt, did_quiet, did_set, did_mark, did_settle, did_introduce, did_saved, did_not_saved}
use Rattle.pgw_login.proofs.finish.introduce.Goals as goal

pub returns-in_err-messages : goal.returns-in_err-messages
returns-in_err-messages g c =
    let p = err_from_is_err_and c.from_residual.result c.from_residual.ensures.1 in
    λ login. rw (p.1, p.2) (did_quiet (inl (refl, refl, refl)))

pub returns : goal.returns
returns g c =
    λ login. let i =
    c.in_ok-messages.ensures in did_introduce _ i.0 i.1 i.2
    (c.feed_all.ensures (g.C.ClientInfo.sight c.args.client.now) login)
