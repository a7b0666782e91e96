use Rattle.std.proofs.Common.{refl}
use Rattle.std.proofs.lemmas.Bool.Decides.{Decides-eqb}
use Rattle.std.specs.Cmp.Lexicographic.{bytes_decides}
use Rattle.pgw_prog_sessions.specs.declared.summary.GenSummary.{GenSummary}
use Rattle.pgw_wire.proofs.EqualLaws.{both_exact, made_exact}
use Rattle.pgw_prog_sessions.proofs.equality.equality_is_exact.Goals as goal

pub returns : goal.returns
returns c =
    made_exact {Y = GenSummary} (λ x. (x.rows, x.digest)) (λ p. record { rows = p.0; digest = p.1 }) (λ x. refl) _
    (both_exact _ _ Decides-eqb bytes_decides)
