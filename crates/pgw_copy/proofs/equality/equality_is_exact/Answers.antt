use Rattle.std.proofs.Common.{refl}
use Rattle.std.specs.Cmp.Lexicographic.{bytes_decides}
use Rattle.pgw_copy.specs.declared.data.CopyData.{CopyData}
use Rattle.pgw_copy.specs.declared.data.CopyFail.{CopyFail}
use Rattle.pgw_wire.proofs.EqualLaws.{made_exact}
use Rattle.pgw_copy.proofs.equality.equality_is_exact.Goals as goal

pub returns-clause-copy_data : goal.returns-clause-copy_data
returns-clause-copy_data c =
    made_exact {Y = CopyData} (λ x. x.payload) (λ p. record { payload = p }) (λ x. refl) _ bytes_decides

pub returns-clause-copy_fail : goal.returns-clause-copy_fail
returns-clause-copy_fail c =
    made_exact {Y = CopyFail} (λ x. x.message) (λ p. record { message = p }) (λ x. refl) _ bytes_decides
