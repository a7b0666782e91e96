use Rattle.std.proofs.Common.{refl}
use Rattle.pgw_config.specs.Choices.{ssl_mode_of}
use Rattle.pgw_config.proofs.choices.ssl_mode_in.Goals as goal

pub returns-then-eq-3 : goal.returns-then-eq-3
unfolding ssl_mode_of
returns-then-eq-3 c = rw (← c.if-eq.ensures, ← c.if-eq-2.ensures, ← c.if-eq-3.ensures) refl
