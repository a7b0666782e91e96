use Rattle.std.proofs.Common.{ap, refl}
use Rattle.pgw_login.specs.declared.client_info.PgWireConnectionState.TheVariants as state
use Rattle.pgw_wire.proofs.EqualLaws.{bool_exact}
use Rattle.pgw_login.proofs.equality.equality_is_exact.Goals as goal

pub returns : goal.returns
returns c state.AwaitingSslRequest state.AwaitingSslRequest = (λ e. refl, λ e. refl)
returns c state.AwaitingStartup state.AwaitingStartup = (λ e. refl, λ e. refl)
returns c state.AuthenticationInProgress state.AuthenticationInProgress = (λ e. refl, λ e. refl)
returns c state.ReadyForQuery state.ReadyForQuery = (λ e. refl, λ e. refl)
returns c state.QueryInProgress state.QueryInProgress = (λ e. refl, λ e. refl)
returns c state.AwaitingSync state.AwaitingSync = (λ e. refl, λ e. refl)
returns c (state.CopyInProgress x) (state.CopyInProgress y) =
    (λ e. ap (λ z. state.CopyInProgress z) ((bool_exact x y).0 e), λ e. (bool_exact x y).1 cc)
returns c x y = (λ e. absurd cc, λ e. absurd cc)
