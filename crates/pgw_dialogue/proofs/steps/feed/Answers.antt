use Rattle.std.proofs.Common.{length, arith, refl, Ok, Err, true, false}
use Rattle.pgw_dialogue.specs.Input.{input_of}
use Rattle.pgw_dialogue.proofs.StepLaws.{all_fed, last_fed, more_fed, none_fed}
use Rattle.pgw_dialogue.proofs.steps.feed.Goals as goal

pub parts-init : goal.parts-init
parts-init c = record {
  at_in = omega arith;
  fed = none_fed (input_of c.args.input.now) c.args.notes.now c.args.inbox.now c.args.bytes.now
      c.args.out.now.items;
}

pub returns-in-Ok-true-clause-took : goal.returns-in-Ok-true-clause-took
returns-in-Ok-true-clause-took c =
    let t = rw c.in-Ok-true.field-0-test at c.in-Ok-true.ensures.took in
    last_fed (input_of c.args.input.now) c.args.notes.now c.parts.notes c.feed_part.new.notes c.args.inbox.now
    c.parts.inbox c.feed_part.new.inbox c.args.bytes.now
    c.args.out.now.items c.parts.out.items c.feed_part.new.out.items c.parts.at c.part_end-end.result (Ok true)
    (omega (arith, c.part_end-end.ensures, c.parts.invariant.at_in)) (λ e. cc) c.parts.invariant.fed t

pub returns-in-Err-clause-took : goal.returns-in-Err-clause-took
returns-in-Err-clause-took c =
    last_fed (input_of c.args.input.now) c.args.notes.now c.parts.notes c.feed_part.new.notes c.args.inbox.now
    c.parts.inbox c.feed_part.new.inbox c.args.bytes.now
    c.args.out.now.items c.parts.out.items c.feed_part.new.out.items c.parts.at c.part_end-end.result
    (Err c.in-Err.e) (omega (arith, c.part_end-end.ensures, c.parts.invariant.at_in)) (λ e. cc)
    c.parts.invariant.fed c.in-Err.ensures.took

pub parts-preserved : goal.parts-preserved
parts-preserved c =
    let t = rw c.in-Ok-false.field-0-test at c.in-Ok-false.ensures.took in
    record {
      at_in = omega (arith, c.part_end-end.ensures);
      fed = more_fed (input_of c.args.input.now) c.args.notes.now c.parts.notes c.feed_part.new.notes
          c.args.inbox.now c.parts.inbox c.feed_part.new.inbox c.args.bytes.now
          c.args.out.now.items c.parts.out.items c.feed_part.new.out.items c.parts.at c.part_end-end.result
          (omega (arith, c.part_end-end.ensures, c.parts.invariant.at_in)) c.parts.invariant.fed t;
    }

pub returns-then-end-bytes-clause-took : goal.returns-then-end-bytes-clause-took
returns-then-end-bytes-clause-took c =
    let t = rw c.in-Ok-false.field-0-test at c.in-Ok-false.ensures.took in
    all_fed (input_of c.args.input.now) c.args.notes.now c.parts.notes c.feed_part.new.notes c.args.inbox.now
    c.parts.inbox c.feed_part.new.inbox c.args.bytes.now
    c.args.out.now.items c.parts.out.items c.feed_part.new.out.items c.parts.at c.part_end-end.result
    (omega (arith, c.part_end-end.ensures, c.parts.invariant.at_in)) c.if-end-bytes.true c.parts.invariant.fed
    t
