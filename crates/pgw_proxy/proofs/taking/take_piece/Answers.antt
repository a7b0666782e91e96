use Rattle.std.proofs.Common.{◌++◌, ap, sym, drop, List, ℕ, refl}
use Rattle.pgw_query.proofs.RunLaws.{rest_of}
use Rattle.pgw_proxy.proofs.PassingLaws.{ran_breaks, runs_same}
use Rattle.pgw_proxy.proofs.TakingLaws.{ran_behind}
use Rattle.pgw_proxy.proofs.taking.take_piece.Goals as goal

pub returns-in-Ok : goal.returns-in-Ok
returns-in-Ok c =
    let side = c.args.side in
    let d = c.args.context.now in
    let all : List ℕ = c.args.waiting.now.items ++ c.args.piece.now in
    let left = c.pass_front.new.waiting.items in
    let n = c.in-Ok.taken in
    let runs =
    runs_same side d d all all (left ++ drop n c.args.piece.now) _ c.args.out.now.items
    c.pass_front.new.out.items c.args.tape.now.items c.pass_front.new.tape.items refl
    (ap (λ (l : List ℕ). left ++ l) (sym (rest_of c.args.piece.now n))) c.in-Ok.ensures.ok in
    ran_behind side d d c.take_behind.new.context all _ c.take_behind.new.waiting.items c.args.out.now.items
    c.pass_front.new.out.items c.take_behind.new.out.items c.args.tape.now.items c.pass_front.new.tape.items
    c.take_behind.new.tape.items c.take_behind.result runs c.take_behind.ensures

pub returns-in-Err : goal.returns-in-Err
returns-in-Err c =
    ran_breaks c.args.side c.args.context.now c.args.context.now (c.args.waiting.now.items ++ c.args.piece.now)
    c.pass_front.new.waiting.items c.args.out.now.items c.pass_front.new.out.items c.args.tape.now.items
    c.pass_front.new.tape.items c.in-Err.ensures.err
