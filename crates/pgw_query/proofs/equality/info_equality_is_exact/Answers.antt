use Rattle.std.proofs.Common.{refl}
use Rattle.std.proofs.lemmas.Bool.Decides.{Decides-eqb}
use Rattle.std.specs.Cmp.Lexicographic.{pointwise_decides, bytes_decides}
use Rattle.pgw_query.specs.declared.response.InfoResponse.{InfoResponse}
use Rattle.pgw_wire.proofs.EqualLaws.{both_exact, made_exact}
use Rattle.pgw_query.proofs.equality.info_equality_is_exact.Goals as goal

pub returns : goal.returns
returns g c =
    made_exact {Y = InfoResponse g.row.TYPE} (λ x. x.fields) (λ p. record { fields = p }) (λ x. refl) _
    (pointwise_decides (both_exact _ _ Decides-eqb bytes_decides))
