use Rattle.pgw_dialogue.specs.Input.{input_of}
use Rattle.pgw_dialogue.proofs.StepLaws.{first, went, waits, done, refused}
use Rattle.pgw_dialogue.proofs.steps.take_all.Goals as goal

pub messages-init : goal.messages-init
messages-init c = first (input_of c.args.input.now) c.args.notes.now c.args.inbox.now c.args.out.now.items

pub returns-in-Ok-More-clause-took : goal.returns-in-Ok-More-clause-took
returns-in-Ok-More-clause-took c =
    let step = rw c.in-Ok-More.field-0-is at c.in-Ok-More.ensures.step in
    waits (input_of c.args.input.now) c.args.notes.now c.messages.notes c.advance.new.notes c.args.inbox.now
    c.messages.inbox c.advance.new.buffer c.args.out.now.items c.messages.out.items c.advance.new.out.items
    c.messages.invariant step

pub returns-in-Ok-Done-clause-took : goal.returns-in-Ok-Done-clause-took
returns-in-Ok-Done-clause-took c =
    let step = rw c.in-Ok-Done.field-0-is at c.in-Ok-Done.ensures.step in
    done (input_of c.args.input.now) c.args.notes.now c.messages.notes c.advance.new.notes c.args.inbox.now
    c.messages.inbox c.advance.new.buffer c.args.out.now.items c.messages.out.items c.advance.new.out.items
    c.messages.invariant step

pub returns-in-Err-clause-took : goal.returns-in-Err-clause-took
returns-in-Err-clause-took c =
    refused (input_of c.args.input.now) c.args.notes.now c.messages.notes c.advance.new.notes c.args.inbox.now
    c.messages.inbox c.advance.new.buffer c.args.out.now.items c.messages.out.items c.advance.new.out.items
    c.in-Err.e c.messages.invariant c.in-Err.ensures.step

pub messages-preserved : goal.messages-preserved
messages-preserved c =
    let step = rw c.in-Ok-Went.field-0-is at c.in-Ok-Went.ensures.step in
    went (input_of c.args.input.now) c.args.notes.now c.messages.notes c.advance.new.notes c.args.inbox.now
    c.messages.inbox c.advance.new.buffer c.args.out.now.items c.messages.out.items c.advance.new.out.items
    c.messages.invariant step
