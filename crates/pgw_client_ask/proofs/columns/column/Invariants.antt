-- No column so far has the name.
use Rattle.std.proofs.Common.{◌≢◌}
use Rattle.std.specs.List.{AllWithin}
use Rattle.pgw_client_ask.proofs.columns.column.Given as goal

abbrev pub invariant-loop-place : goal.invariant-loop-place
invariant-loop-place l = AllWithin (λ f. f.name ≢ l.name) l.fields 0 l.place
