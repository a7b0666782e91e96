use Rattle.std.proofs.Common.{rules}
use Rattle.pgw_dialogue.specs.Input.{input_of}
use Rattle.pgw_client_push.proofs.ServingLaws.{first, nothing, went, waits, closed, refused}
use Rattle.pgw_client_push.proofs.serving.serve.Goals as goal

pub messages-init : goal.messages-init
messages-init c = first (input_of c.args.input.now) c.args.notes.now c.args.inbox.now c.args.out.now.items

pub returns-then-len-eq0-clause-serves : goal.returns-then-len-eq0-clause-serves
returns-then-len-eq0-clause-serves c =
    nothing (input_of c.args.input.now) c.args.notes.now c.args.inbox.now c.args.out.now.items (search rules)

pub returns-in-Ok-More-clause-serves : goal.returns-in-Ok-More-clause-serves
returns-in-Ok-More-clause-serves c =
    let step = rw c.in-Ok-More.field-0-is at c.in-Ok-More.ensures.step in
    waits (input_of c.args.input.now) c.args.notes.now c.messages.notes c.advance.new.notes c.args.inbox.now
    c.messages.inbox c.advance.new.buffer c.args.out.now.items c.messages.out.items c.advance.new.out.items
    c.messages.invariant step

pub returns-in-Ok-Done-clause-serves : goal.returns-in-Ok-Done-clause-serves
returns-in-Ok-Done-clause-serves c =
    let step = rw c.in-Ok-Done.field-0-is at c.in-Ok-Done.ensures.step in
    let front = rw c.in-Ok-Done.field-0-is at c.in-Ok-Done.ensures.front in
    closed (input_of c.args.input.now) c.args.notes.now c.messages.notes c.advance.new.notes c.args.inbox.now
    c.messages.inbox c.advance.new.buffer c.args.out.now.items c.messages.out.items c.advance.new.out.items
    c.messages.invariant step front

pub returns-in-Err-clause-serves : goal.returns-in-Err-clause-serves
returns-in-Err-clause-serves c =
    refused (input_of c.args.input.now) c.args.notes.now c.messages.notes c.advance.new.notes c.args.inbox.now
    c.messages.inbox c.advance.new.buffer c.args.out.now.items c.messages.out.items c.advance.new.out.items
    c.in-Err.e c.messages.invariant c.in-Err.ensures.step

pub messages-preserved : goal.messages-preserved
messages-preserved c =
    let front = rw c.in-Ok-Went.field-0-is at c.in-Ok-Went.ensures.front in
    went (input_of c.args.input.now) c.args.notes.now c.messages.notes c.advance.new.notes c.args.inbox.now
    c.messages.inbox c.advance.new.buffer c.args.out.now.items c.messages.out.items c.advance.new.out.items
    c.messages.invariant front
