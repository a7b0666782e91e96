use Rattle.std.proofs.Common.{[], ◌∷◌, ◌++◌, arith, refl, sym, ◌∙◌}
use Rattle.example_requests.proofs.AskLaws.{adds_first, adds_next, adds_all, caused_before, stops_next, stops_wanting}
use Rattle.example_requests.proofs.asking.ask_all.Goals as goal

pub loop-question-init : goal.loop-question-init
loop-question-init g c = record {
  usable = sym c.is_broken.ensures.broken ∙ c.if-is_broken.false;
  later = omega arith;
  adds = adds_first c.args.questions.now _ c.new-replies.result _ _ refl c.new-replies.ensures;
}

pub loop-question-preserved : goal.loop-question-preserved
loop-question-preserved g c = record {
  usable = c.in-Ok.ensures.usable;
  later = (let l = c.loop-question.invariant.later in let m = c.in-Ok.ensures.cause.later in omega (arith, l, m));
  adds = rw c.in-Ok-push.ensures.ok
      (adds_next c.args.questions.now c.loop-question.question-index c.question-item.result
      c.loop-question.replies c.in-Ok.reply _ _ _ _ _ _ c.loop-question-test.true c.question-item.is
      c.loop-question.invariant.adds c.in-Ok.ensures.adds);
}

pub returns-clause-adds : goal.returns-clause-adds
returns-clause-adds g c =
    adds_all c.args.questions.now c.loop-question.question-index c.loop-question.replies _ _ _ _
    c.loop-question-test.false c.loop-question.invariant.adds

pub returns-clause-cause : goal.returns-clause-cause
returns-clause-cause g c = record { later = c.loop-question.invariant.later; failed = tt }

pub returns-in-Err-clause-stops : goal.returns-in-Err-clause-stops
returns-in-Err-clause-stops g c =
    λ _. stops_next c.args.questions.now c.loop-question.question-index c.question-item.result
    c.loop-question.replies _ _ _ _ _ _ _ c.in-Err.error c.loop-question-test.true c.question-item.is
    c.loop-question.invariant.adds c.in-Err.ensures.fails

pub returns-in-Err-clause-cause : goal.returns-in-Err-clause-cause
returns-in-Err-clause-cause g c =
    caused_before _ _ _ _ c.in-Err.error (sym c.is_broken.ensures.broken
    ∙ c.if-is_broken.false) c.loop-question.invariant.later c.in-Err.ensures.cause

pub returns-in-Err-push-clause-stops : goal.returns-in-Err-push-clause-stops
returns-in-Err-push-clause-stops g c = λ _.
    stops_wanting c.args.questions.now c.loop-question.question-index
    (c.loop-question.replies ++ c.in-Ok.reply ∷ []) _ _ _ _ _ c.in-Ok.ensures.usable
    (adds_next c.args.questions.now c.loop-question.question-index c.question-item.result c.loop-question.replies
    c.in-Ok.reply _ _ _ _ _ _ c.loop-question-test.true c.question-item.is c.loop-question.invariant.adds
    c.in-Ok.ensures.adds)

pub returns-in-Err-push-clause-cause : goal.returns-in-Err-push-clause-cause
returns-in-Err-push-clause-cause g c =
    record {
      later = (let l = c.loop-question.invariant.later in let m = c.in-Ok.ensures.cause.later in
          omega (arith, l, m));
      failed = tt;
    }
