use Rattle.std.proofs.Common.{refl}
use Rattle.pgw_dialogue.specs.declared.phase.DialoguePhase.TheVariants as phase
use Rattle.pgw_dialogue.proofs.equality.equality_is_exact.Goals as goal

pub returns : goal.returns
returns c phase.Waiting phase.Waiting = (λ e. refl, λ e. refl)
returns c phase.Ready phase.Ready = (λ e. refl, λ e. refl)
returns c phase.Done phase.Done = (λ e. refl, λ e. refl)
returns c x y = (λ e. absurd cc, λ e. absurd cc)
