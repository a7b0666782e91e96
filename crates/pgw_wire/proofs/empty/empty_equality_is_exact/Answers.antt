use Rattle.std.proofs.Common.{refl}
use Rattle.pgw_wire.proofs.EqualLaws.{one_exact}
use Rattle.pgw_wire.proofs.empty.empty_equality_is_exact.Goals as goal

pub returns-clause-request : goal.returns-clause-request
returns-clause-request g c = one_exact (λ x y. refl)

pub returns-clause-response : goal.returns-clause-response
returns-clause-response g c = one_exact (λ x y. refl)
