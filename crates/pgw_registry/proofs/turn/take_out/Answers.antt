use Rattle.std.proofs.Common.{rules, ℕ, List, ◌∷◌, Some, Option, ap, sym, ◌∙◌}
use Rattle.atomic_table.specs.Table.{rest}
use Rattle.pgw_registry.specs.Sequential.{Book}
use Rattle.pgw_registry.proofs.turn.take_out.Goals as goal

pub exchange-requires : goal.exchange-requires
exchange-requires c =
    let h =
    c.requires.full in (
      search rules,
      (
        Some h.0,
        h.1
            ∙ ap (λ (t : List (ℕ × Option Book)). (0, Some h.0) ∷ t) (sym (ap rest h.1)),
      ),
    )
