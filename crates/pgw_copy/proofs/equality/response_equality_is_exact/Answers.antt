use Rattle.std.proofs.Common.{refl}
use Rattle.std.proofs.lemmas.Bool.Decides.{Decides-int_eq}
use Rattle.std.specs.Cmp.Lexicographic.{pointwise_decides}
use Rattle.pgw_copy.specs.declared.response.CopyResponse.{CopyResponse}
use Rattle.pgw_wire.proofs.EqualLaws.{both_exact, made_exact}
use Rattle.pgw_copy.proofs.equality.response_equality_is_exact.Goals as goal

pub returns : goal.returns
returns g c =
    made_exact {Y = CopyResponse g.row.TYPE} (λ x. (x.format, (x.columns, x.column_formats)))
    (λ p. record { format = p.0; columns = p.1.0; column_formats = p.1.1 }) (λ x. refl) _
    (both_exact _ _ Decides-int_eq (both_exact _ _ Decides-int_eq (pointwise_decides Decides-int_eq)))
