use Rattle.std.proofs.Common.{refl}
use Rattle.pgw_prog.specs.declared.transfer.ReadFault.TheVariants as fault
use Rattle.pgw_prog.specs.declared.program.Stop.TheVariants as stop
use Rattle.pgw_prog.proofs.equality.equality_is_exact.Goals as goal

pub returns-clause-read_fault : goal.returns-clause-read_fault
returns-clause-read_fault c fault.TooLong fault.TooLong = (λ e. refl, λ e. refl)
returns-clause-read_fault c fault.Source fault.Source = (λ e. refl, λ e. refl)
returns-clause-read_fault c fault.OutOfMemory fault.OutOfMemory = (λ e. refl, λ e. refl)
returns-clause-read_fault c x y = (λ e. absurd cc, λ e. absurd cc)

pub returns-clause-stop : goal.returns-clause-stop
returns-clause-stop c stop.Source stop.Source = (λ e. refl, λ e. refl)
returns-clause-stop c stop.OutOfMemory stop.OutOfMemory = (λ e. refl, λ e. refl)
returns-clause-stop c x y = (λ e. absurd cc, λ e. absurd cc)
