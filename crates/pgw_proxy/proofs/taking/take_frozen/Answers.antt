use Rattle.std.proofs.Common.{◌≡◌, ◌∙◌, arith}
use Rattle.std.proofs.lemmas.List.{take_all}
use Rattle.pgw_proxy.specs.declared.fault.ProxyFault.TheVariants as fault
use Rattle.std.proofs.Common.{refl, Err}
use Rattle.pgw_proxy.proofs.TakingLaws.{ran_broken, ran_then_broken, ran_same}
use Rattle.pgw_proxy.proofs.taking.take_frozen.Goals as goal

pub returns-in-Err : goal.returns-in-Err
returns-in-Err c =
    ran_broken c.args.side c.args.context.now c.args.context.now c.args.waiting.now.items
    c.freeze_to.new.self.items c.args.out.now.items c.args.tape.now.items

pub returns-in-Err-duplicate : goal.returns-in-Err-duplicate
returns-in-Err-duplicate c =
    ran_broken c.args.side c.args.context.now c.args.context.now c.args.waiting.now.items
    c.freeze_to.new.self.items c.args.out.now.items c.args.tape.now.items

pub returns : goal.returns
returns c =
    let items = c.args.waiting.now.items in
    let left = c.freeze_to.new.self.items in
    let same : c.as_slice.result.now ≡ items =
    c.as_slice.ensures ∙ c.from_bytes-all.ensures ∙ c.in-Ok.ensures.front
    ∙ take_all c.len.result items (omega (arith, c.len.ensures.value)) in
    let broken =
    ran_then_broken c.args.side c.args.context.now c.take_all.new.context c.take_all.new.context
    c.as_slice.result.now c.take_all.new.left left
    c.args.out.now.items c.take_all.new.out.items c.args.tape.now.items c.take_all.new.tape.items
    c.take_all.result c.take_all.ensures in
    ran_same c.args.side c.args.context.now c.take_all.new.context c.as_slice.result.now items left left
    c.args.out.now.items c.take_all.new.out.items c.args.tape.now.items c.take_all.new.tape.items
    (Err fault.OutOfMemory) same refl broken
