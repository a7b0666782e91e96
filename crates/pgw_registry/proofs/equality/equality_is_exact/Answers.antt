use Rattle.std.proofs.Common.{refl}
use Rattle.std.proofs.lemmas.Bool.Decides.{Decides-eqb}
use Rattle.pgw_registry.specs.declared.call.Phase.TheVariants as phase
use Rattle.pgw_registry.specs.declared.call.Handle.{Handle}
use Rattle.pgw_registry.specs.declared.error.RegistryError.TheVariants as registry
use Rattle.pgw_registry.specs.declared.error.LookError.TheVariants as look
use Rattle.pgw_registry.specs.declared.error.PidError.TheVariants as pid
use Rattle.pgw_wire.proofs.EqualLaws.{both_exact, made_exact, option_exact}
use Rattle.pgw_registry.proofs.equality.equality_is_exact.Goals as goal

pub returns-clause-phase : goal.returns-clause-phase
returns-clause-phase c phase.Waiting phase.Waiting = (λ e. refl, λ e. refl)
returns-clause-phase c phase.Fired phase.Fired = (λ e. refl, λ e. refl)
returns-clause-phase c phase.Taken phase.Taken = (λ e. refl, λ e. refl)
returns-clause-phase c phase.Replaced phase.Replaced = (λ e. refl, λ e. refl)
returns-clause-phase c x y = (λ e. absurd cc, λ e. absurd cc)

pub returns-clause-handle : goal.returns-clause-handle
returns-clause-handle c =
    made_exact {Y = Handle} (λ x. (x.active, x.holders)) (λ p. record { active = p.0; holders = p.1 }) (λ x. refl)
    _ (both_exact _ _ (option_exact _ Decides-eqb) Decides-eqb)

pub returns-clause-registry_error : goal.returns-clause-registry_error
returns-clause-registry_error c registry.Gone registry.Gone = (λ e. refl, λ e. refl)
returns-clause-registry_error c registry.Exhausted registry.Exhausted = (λ e. refl, λ e. refl)
returns-clause-registry_error c registry.OutOfMemory registry.OutOfMemory = (λ e. refl, λ e. refl)
returns-clause-registry_error c x y = (λ e. absurd cc, λ e. absurd cc)

pub returns-clause-look_error : goal.returns-clause-look_error
returns-clause-look_error c look.Canceled look.Canceled = (λ e. refl, λ e. refl)
returns-clause-look_error c look.Exhausted look.Exhausted = (λ e. refl, λ e. refl)
returns-clause-look_error c x y = (λ e. absurd cc, λ e. absurd cc)

pub returns-clause-pid_error : goal.returns-clause-pid_error
returns-clause-pid_error c pid.PidsExhausted pid.PidsExhausted = (λ e. refl, λ e. refl)
returns-clause-pid_error c pid.OutOfMemory pid.OutOfMemory = (λ e. refl, λ e. refl)
returns-clause-pid_error c x y = (λ e. absurd cc, λ e. absurd cc)
