use Rattle.std.proofs.Common.{refl, ap, inl, inr, [], ◌≡◌}
use Rattle.std.proofs.lemmas.Result.{err_from_is_err_and}
use Rattle.pgw_login.proofs.ActLaws.{did_then, did_halt, did_quiet, did_set, did_mark, did_settle, did_introduce, did_saved, did_not_saved}
use Rattle.pgw_login.specs.Acts.{standing_in_login, with_sasl, halts, goes}
use Rattle.pgw_login.proofs.finish.accept.Goals as goal

pub returns-in_err-draw-clause-accepted : goal.returns-in_err-draw-clause-accepted
returns-in_err-draw-clause-accepted g c =
    let p = err_from_is_err_and c.from_residual.result c.from_residual.ensures.1 in
    λ faults. rw (p.1, p.2) (halts _ _ _ _ (c.in_err-draw.ensures.drawn faults))

pub returns-clause-accepted : goal.returns-clause-accepted
returns-clause-accepted g c =
    λ faults. goes _ _ _ [] [] _ (c.in_ok-draw.ensures.drawn faults) (c.enroll.ensures.enrolled faults)
