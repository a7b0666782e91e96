use Rattle.std.proofs.Common.{rules, ◌≡◌, List, [], ◌∷◌, map, Some, Option, sym, subst}
use mathlib.Core.Option as math
use Rattle.pgw_registry.specs.Sequential.{Book, nothing}
use Rattle.pgw_registry.specs.History.{KeepsHistory, founder}
use Rattle.pgw_registry.proofs.Steps.{begins}
use Rattle.pgw_registry.proofs.manager.ConnectionManager.new.Goals as goal

pub new-requires-2 : goal.new-requires-2
new-requires-2 c = let items : c.push.new.self.items ≡ Some nothing ∷ [] = search rules in
    subst (λ (l : List (Option Book)). KeepsHistory (0 ∷ 0 ∷ []) (map (λ x. math.some x) l) (founder ∷ []))
    (sym items) begins
