use Rattle.std.proofs.Common.{refl}
use Rattle.pgw_startup.specs.declared.response.EncryptionResponse.TheVariants as answer
use Rattle.pgw_startup.proofs.equality.encryption_equality_is_exact.Goals as goal

pub returns : goal.returns
returns g c answer.Accept answer.Accept = (λ e. refl, λ e. refl)
returns g c answer.Refuse answer.Refuse = (λ e. refl, λ e. refl)
returns g c x y = (λ e. absurd cc, λ e. absurd cc)
