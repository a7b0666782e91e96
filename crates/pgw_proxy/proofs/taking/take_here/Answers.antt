use Rattle.std.proofs.Common.{◌∙◌, sym, ap, length, Ok}
use Rattle.pgw_proxy.specs.Taking.{IsCutOf}
use Rattle.pgw_proxy.proofs.TakingLaws.{ran_cut, ran_same, left_is, left_within}
use Rattle.pgw_proxy.proofs.taking.take_here.Goals as goal

pub overflow_sub-taken : goal.overflow_sub-taken
overflow_sub-taken c =
    let left = c.take_all.new.left.bytes.now in
    let cut =
    ran_cut c.args.side c.args.context.now c.take_all.new.context c.as_slice-2.result.now left
    c.args.out.now.items c.take_all.new.out.items c.args.tape.now.items c.take_all.new.tape.items
    c.in-Ok.ensures in
    left_within c.as_slice-2.result.now left c.len.result cut (c.len.ensures.value
    ∙ ap length (sym c.as_slice-2.ensures))

pub returns : goal.returns
returns c =
    let left = c.take_all.new.left.bytes.now in
    let items = c.args.waiting.now.items in
    let cut =
    ran_cut c.args.side c.args.context.now c.take_all.new.context c.as_slice-2.result.now left
    c.args.out.now.items c.take_all.new.out.items c.args.tape.now.items c.take_all.new.tape.items
    c.in-Ok.ensures in
    let here : IsCutOf items left = (cut.0, sym c.as_slice-2.ensures ∙ cut.1) in
    ran_same c.args.side c.args.context.now c.take_all.new.context c.as_slice-2.result.now items left
    c.advance.new.self.items c.args.out.now.items c.take_all.new.out.items c.args.tape.now.items
    c.take_all.new.tape.items (Ok tt)
    c.as_slice-2.ensures (sym (c.advance.ensures.items
    ∙ left_is items left c.len.result here c.len.ensures.value)) c.in-Ok.ensures
