use Rattle.std.proofs.Common.{refl, sym, ◌∙◌, length}
use Rattle.std.proofs.lemmas.Bool.{eqb-true}
use Rattle.pgw_proxy.proofs.PassingLaws.{nothing_found}
use Rattle.pgw_proxy.proofs.TakingLaws.{ran_none}
use Rattle.pgw_proxy.proofs.taking.take_whole.Goals as goal

pub returns-then-is_empty : goal.returns-then-is_empty
returns-then-is_empty c =
    let waiting = c.args.waiting.now.items in
    ran_none c.args.side c.args.context.now c.args.context.now waiting waiting c.args.out.now.items
    c.args.tape.now.items refl refl
    (nothing_found c.args.side c.args.context.now waiting (eqb-true (length waiting) 0 (sym c.is_empty.ensures
    ∙ c.if-is_empty.true)))
