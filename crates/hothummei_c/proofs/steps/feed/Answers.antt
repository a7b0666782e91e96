use Rattle.std.proofs.Common.{◌++◌, List, ℕ, subst}
use Rattle.pgw_dialogue.specs.Input.{input_of}
use Rattle.pgw_dialogue.specs.Steps.{TookInbox}
use Rattle.pgw_dialogue.proofs.StepLaws.{unkept}
use Rattle.hothummei_c.proofs.steps.feed.Goals as goal

pub returns-in-Ok-clause-took : goal.returns-in-Ok-clause-took
returns-in-Ok-clause-took c =
    subst (λ (b : List ℕ). TookInbox (input_of c.args.input.now) c.args.notes.now c.take_all.new.notes b
    c.take_all.new.inbox c.args.out.now.items c.take_all.new.out.items c.take_all.result) c.in-Ok.ensures.ok
    c.take_all.ensures.took

pub returns-in-Err-clause-took : goal.returns-in-Err-clause-took
returns-in-Err-clause-took c =
    unkept (input_of c.args.input.now) c.args.notes.now (c.args.inbox.now ++ c.args.bytes.now) c.append.new.self
    c.args.out.now.items
