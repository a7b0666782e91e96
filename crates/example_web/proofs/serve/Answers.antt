use Rattle.std.proofs.Common.{rules}
use Rattle.example_web.proofs.Served.{IsTurned-Maps}
use Rattle.example_web.proofs.serve.Goals as goal

pub run_all-requires-clause-items : goal.run_all-requires-clause-items
run_all-requires-clause-items g c = λ xs x m. let called = (IsTurned-Maps _ _ _ xs x m).turned in search rules
