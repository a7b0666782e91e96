use Rattle.std.proofs.Common.{◌≡◌, None, map, drop}
use Rattle.std.specs.Option.{option_copied}
use Rattle.pgw_login_sasl.specs.Data.{with_pairs}
use Rattle.pgw_login_sasl.proofs.data.auth_of.Given as goal

abbrev pub invariant-loop-pair : goal.invariant-loop-pair
invariant-loop-pair l =
    with_pairs None (map (λ piece. piece.now) l.pairs) ≡ with_pairs (option_copied l.auth)
    (map (λ piece. piece.now) (drop l.pair-index l.pairs))
