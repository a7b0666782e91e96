use Rattle.std.proofs.Common.{Some, None, cond, ap, sym, ◌∙◌}
use Rattle.pgw_registry.specs.Nested.{in_one}
use Rattle.pgw_registry.proofs.pairs.of_one.Goals as goal

pub returns-then-is_key : goal.returns-then-is_key
unfolding in_one
returns-then-is_key c =
    ap (λ b. cond b (Some c.args.one.now.handle) None) (sym c.if-is_key.true ∙ c.is_key.ensures)

pub returns-else-is_key : goal.returns-else-is_key
unfolding in_one
returns-else-is_key c =
    ap (λ b. cond b (Some c.args.one.now.handle) None) (sym c.if-is_key.false ∙ c.is_key.ensures)
