-- The code of the registry's state, as the tuple of its parts.
use Rattle.std.specs.Prelude.{ℕ, refl}
use Rattle.std.specs.Coded.{Coded, code_by, coded×, coded_ℕ, coded_ℤ, coded_list}
use Rattle.std.specs.FinMap as map
use Rattle.pgw_registry.specs.Pairs.{PairMap}
use Rattle.pgw_registry.specs.Sequential.{Book, ProcessHandles, QueryPhases}
use Rattle.pgw_registry.specs.contracts.call.Handle as handle
use Rattle.pgw_registry.specs.contracts.call.Phase as phase

abbrev pub pairs_code : Coded PairMap
pairs_code = map.code (coded× coded_ℤ (coded_list coded_ℕ)) coded_ℕ

abbrev pub handles_code : Coded ProcessHandles
handles_code = map.code coded_ℕ handle.the_row.coded

abbrev pub queries_code : Coded QueryPhases
queries_code = map.code coded_ℕ phase.the_row.coded

abbrev pub book_code : Coded Book
book_code =
    code_by (PairMap × (ProcessHandles × (QueryPhases × (ℕ × (ℕ × ℕ)))))
    (coded× pairs_code (coded× handles_code (coded× queries_code
    (coded× coded_ℕ (coded× coded_ℕ coded_ℕ)))))
    (λ b. (b.pairs, (b.handles, (b.queries, (b.handles_made, (b.queries_made, b.events))))))
    (λ p. record {
      pairs = p.0;
      handles = p.1.0;
      queries = p.1.1.0;
      handles_made = p.1.1.1.0;
      queries_made = p.1.1.1.1.0;
      events = p.1.1.1.1.1;
    })
    (λ _. refl)
