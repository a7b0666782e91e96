use Rattle.std.proofs.Common.{◌∙◌, refl}
use Rattle.pgw_prog_output.specs.declared.asking.Halt.TheVariants as halt
use Rattle.pgw_prog_output.proofs.HearingLaws.{heard_none, hearing_on}
use Rattle.pgw_prog_output.proofs.asking.hear_answer.Goals as goal

pub messages-init : goal.messages-init
messages-init g c = record { heard = heard_none _ _; same = refl }

pub messages-preserved : goal.messages-preserved
messages-preserved g c = record {
  heard = hearing_on _ _ _ _ _ _ halt.GoesOn c.messages.invariant.heard c.in-GoesOn.ensures.hears;
  same = c.in-GoesOn.ensures.counts ∙ c.messages.invariant.same;
}

pub returns-in-Ready-clause-hears : goal.returns-in-Ready-clause-hears
returns-in-Ready-clause-hears g c = hearing_on _ _ _ _ _ _ halt.Ready c.messages.invariant.heard
    c.in-Ready.ensures.hears

pub returns-in-Misplaced-clause-hears : goal.returns-in-Misplaced-clause-hears
returns-in-Misplaced-clause-hears g c = hearing_on _ _ _ _ _ _ halt.Misplaced c.messages.invariant.heard
    c.in-Misplaced.ensures.hears

pub returns-in-Lost-clause-hears : goal.returns-in-Lost-clause-hears
returns-in-Lost-clause-hears g c =
    hearing_on _ _ _ _ _ _ halt.Lost c.messages.invariant.heard c.in-Lost.ensures.hears

pub returns-in-Stopped-clause-hears : goal.returns-in-Stopped-clause-hears
returns-in-Stopped-clause-hears g c = hearing_on _ _ _ _ _ _ (halt.Stopped c.in-Stopped.stop)
    c.messages.invariant.heard c.in-Stopped.ensures.hears
