use Rattle.std.proofs.Common.{map, ap, ◌∙◌, subst}
use Rattle.std.proofs.lemmas.List.{take_all}
use Rattle.pgw_pool.specs.Views.{lease_number}
use Rattle.pgw_prog_pool.specs.Standing.{IsNotOut}
use Rattle.pgw_prog_pool.specs.Views.{seat_place}
use Rattle.pgw_prog_pool.proofs.CallLaws.{none_more}
use Rattle.pgw_prog_pool.proofs.desk.place_of.Goals as goal

pub loop-at-preserved : goal.loop-at-preserved
loop-at-preserved c =
    none_more c.args.out.now c.loop-at.at c.args.number c.index-out-at.result c.loop-at-test.true
    (λ same. c.if-number.false (c.number.ensures ∙ ap (λ s. lease_number s.lease) c.index-out-at.is
    ∙ same)) c.loop-at.invariant

pub returns : goal.returns
returns c =
    subst (λ out. IsNotOut c.args.number (map seat_place out))
    (take_all c.loop-at.at c.args.out.now c.loop-at-test.false) c.loop-at.invariant
