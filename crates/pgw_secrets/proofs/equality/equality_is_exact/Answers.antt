use Rattle.std.proofs.Common.{refl}
use Rattle.pgw_secrets.specs.declared.secret.SecretFault.TheVariants as fault
use Rattle.pgw_secrets.proofs.equality.equality_is_exact.Goals as goal

pub returns : goal.returns
returns c fault.Prefix fault.Prefix = (λ e. refl, λ e. refl)
returns c fault.Count fault.Count = (λ e. refl, λ e. refl)
returns c fault.Salt fault.Salt = (λ e. refl, λ e. refl)
returns c fault.StoredKey fault.StoredKey = (λ e. refl, λ e. refl)
returns c fault.ServerKey fault.ServerKey = (λ e. refl, λ e. refl)
returns c fault.OutOfMemory fault.OutOfMemory = (λ e. refl, λ e. refl)
returns c x y = (λ e. absurd cc, λ e. absurd cc)
