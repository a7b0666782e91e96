use Rattle.std.proofs.Common.{ap, ◌∙◌, ◌++◌, List, ℕ, arith, length, length-append}
use Rattle.pgw_proxy.specs.Record.{relay_entry}
use Rattle.pgw_proxy.proofs.MetLaws.{met}
use Rattle.pgw_proxy.proofs.TakingLaws.{ran_none, ran_fault, ran_broken_at, runs_one, bytes_are}
use Rattle.pgw_proxy.proofs.taking.take_next.Goals as goal

pub returns-in-Ok-None : goal.returns-in-Ok-None
returns-in-Ok-None g c =
    let d = rw c.in-Ok-None.field-0-is at c.in-Ok-None.ensures in
    ran_none c.args.side c.args.context.now c.take_message.new.context (g.B.Buffer.held c.args.left.now)
    (g.B.Buffer.held c.take_message.new.bytes) c.args.out.now.items c.args.tape.now.items d.0 d.1 d.2

pub returns-in-Err : goal.returns-in-Err
returns-in-Err g c =
    ran_fault c.args.side c.args.context.now c.take_message.new.context (g.B.Buffer.held c.args.left.now)
    (g.B.Buffer.held c.take_message.new.bytes) c.args.out.now.items c.args.tape.now.items c.in-Err.fault
    c.in-Err.ensures

pub message_bytes-message-requires-clause-ordered : goal.message_bytes-message-requires-clause-ordered
message_bytes-message-requires-clause-ordered g c =
    let left = g.B.Buffer.held c.args.left.now in
    let rest = g.B.Buffer.held c.take_message.new.bytes in
    let found = rw c.in-Ok-Some.field-0-is at c.in-Ok-Some.ensures in
    let h = met c.args.side c.args.context.now left rest c.in-Ok-Some.message c.take_message.new.context found in
    omega (
      arith,
      ap length c.bytes-before.ensures,
      ap length c.bytes.ensures,
      ap length h.cut,
      length-append h.g
          rest,
    )

pub pass_on-requires : goal.pass_on-requires
pass_on-requires g c =
    let left = g.B.Buffer.held c.args.left.now in
    let rest = g.B.Buffer.held c.take_message.new.bytes in
    let found = rw c.in-Ok-Some.field-0-is at c.in-Ok-Some.ensures in
    let h = met c.args.side c.args.context.now left rest c.in-Ok-Some.message c.take_message.new.context found in
    let is =
    bytes_are c.args.bytes.now left rest c.bytes-before.result.now c.bytes.result.now h.g c.requires h.cut
    c.bytes-before.ensures c.bytes.ensures in
    omega (arith, h.short, ap length (c.message_bytes-message.ensures ∙ is))

pub returns-in-Ok : goal.returns-in-Ok
returns-in-Ok g c =
    let left = g.B.Buffer.held c.args.left.now in
    let rest = g.B.Buffer.held c.take_message.new.bytes in
    let found = rw c.in-Ok-Some.field-0-is at c.in-Ok-Some.ensures in
    let h = met c.args.side c.args.context.now left rest c.in-Ok-Some.message c.take_message.new.context found in
    let is =
    c.message_bytes-message.ensures
    ∙ bytes_are c.args.bytes.now left rest c.bytes-before.result.now c.bytes.result.now h.g c.requires
    h.cut c.bytes-before.ensures c.bytes.ensures in
    runs_one c.args.side c.args.context.now c.take_message.new.context left rest c.args.out.now.items
    c.pass_on.new.out.items c.args.tape.now.items c.pass_on.new.tape.items c.in-Ok-Some.message h found
    (c.in-Ok.ensures.out ∙ ap (λ (l : List ℕ). c.args.out.now.items ++ l) is) (c.in-Ok.ensures.tape
    ∙ ap (λ (l : List ℕ). c.args.tape.now.items ++ relay_entry c.args.side l) is)

pub returns-in-Err-pass_on : goal.returns-in-Err-pass_on
returns-in-Err-pass_on g c =
    ran_broken_at c.args.side c.args.context.now c.take_message.new.context (g.B.Buffer.held c.args.left.now)
    (g.B.Buffer.held c.take_message.new.bytes) c.args.out.now.items c.pass_on.new.out.items
    c.args.tape.now.items c.pass_on.new.tape.items c.in-Err-pass_on.ensures.err.0
    c.in-Err-pass_on.ensures.err.1
