use Rattle.std.proofs.Common.{refl}
use Rattle.pgw_client_calls.proofs.ForetoldLaws.{foretold_still}
use Rattle.pgw_client_ask.proofs.asking.ask.Goals as goal

pub returns-then-is_broken-clause-foretold : goal.returns-then-is_broken-clause-foretold
returns-then-is_broken-clause-foretold g c = λ t. foretold_still _ _

pub returns-then-is_broken-clause-within : goal.returns-then-is_broken-clause-within
returns-then-is_broken-clause-within g c = record { limit = refl; within = λ was. was }
