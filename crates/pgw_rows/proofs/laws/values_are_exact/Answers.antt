use Rattle.std.proofs.Common.{◌≡◌, Some, Result, Ok, Err, ap, ◌∙◌}
use Rattle.std.specs.Result.{result_ok}
use Rattle.pgw_types.specs.declared.error.PgWireError.{PgWireError}
use Rattle.pgw_wire.specs.Values.{nullable_at}
use Rattle.pgw_wire.proofs.ValueLaws.{nullable_reads}
use Rattle.pgw_rows.proofs.laws.values_are_exact.Goals as goal

was_ok : {A : Type 0} (r : Result A PgWireError) (x : A) → result_ok r ≡ Some x → r ≡ Ok x
was_ok (Ok y) x e = cc
was_ok (Err d) x e = absurd cc

pub returns-clause-found : goal.returns-clause-found
returns-clause-found c =
    λ bytes value rest short e. nullable_reads.found bytes value rest short
    (was_ok (nullable_at bytes) (value, rest) e)

pub returns-clause-given : goal.returns-clause-given
returns-clause-given c = λ value values bytes h.
    let given : nullable_at bytes ≡ Ok (value, h.1) =
    ap nullable_at h.2 ∙ nullable_reads.only value h.0 h.1 h.3 in
    (h.1, ap result_ok given, h.4)
