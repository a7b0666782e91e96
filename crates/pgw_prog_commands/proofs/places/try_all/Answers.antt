use Rattle.std.proofs.Common.{arith}
use Rattle.pgw_prog_commands.specs.Places.{no_more, next, stopped, let_in}
use Rattle.pgw_prog_commands.proofs.PlaceLaws.{place_at, all_tried}
use Rattle.pgw_prog_commands.proofs.places.try_all.Goals as goal

pub loop-place-preserved : goal.loop-place-preserved
loop-place-preserved g c = λ new result rest.
    let is =
    place_at c.args.places.now c.loop-place.place-index c.place-item.result (omega arith) c.place-item.is in
    let passes = rw c.in-Err-None.field-0-is at c.in-Err-None.ensures in
    c.loop-place.invariant new result (rw is (next _ _ _ _ _ _ passes rest))

pub returns-in-Ok : goal.returns-in-Ok
returns-in-Ok g c =
    let is =
    place_at c.args.places.now c.loop-place.place-index c.place-item.result (omega arith) c.place-item.is in
    c.loop-place.invariant _ _ (rw is (let_in _ _ _ _ _ c.in-Ok.ensures))

pub returns-in-Err-Some : goal.returns-in-Err-Some
returns-in-Err-Some g c =
    let is =
    place_at c.args.places.now c.loop-place.place-index c.place-item.result (omega arith) c.place-item.is in
    let passes = rw c.in-Err-Some.field-0-is at c.in-Err-Some.ensures in
    c.loop-place.invariant _ _ (rw is (stopped _ _ _ _ _ passes))

pub returns : goal.returns
returns g c =
    let is = all_tried c.args.places.now c.loop-place.place-index (omega arith) in
    c.loop-place.invariant _ _ (rw is (no_more _))
