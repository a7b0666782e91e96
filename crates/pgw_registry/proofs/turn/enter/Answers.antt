use Rattle.std.proofs.Common.{rules, length, sym, ap, ◌∙◌}
use Rattle.pgw_registry.specs.declared.sight.Sight.{Sight}
use Rattle.pgw_registry.proofs.Steps.{takes_turn}
use Rattle.pgw_registry.proofs.Events.{events_are}
use Rattle.pgw_registry.proofs.turn.enter.Goals as goal

pub swap-requires : goal.swap-requires
swap-requires g c = (search rules, search rules, takes_turn _ _ _)

pub returns-then-swap-eq0-clause-events : goal.returns-then-swap-eq0-clause-events
returns-then-swap-eq0-clause-events g c = let t = c.swap.ensures.2.0 c.if-swap-eq0.true in
    ap (λ (v : Sight). v.state.events) t.2 ∙ events_are t.0 ∙ sym (ap (λ (v : Sight). length v.seen) t.2)
