use Rattle.std.proofs.Common.{ap, refl}
use Rattle.pgw_login_sasl.specs.declared.methods.Method.TheVariants.{Scram, OauthBearer}
use Rattle.pgw_login_sasl.specs.declared.turn.Stage.TheVariants.{First, Further, Over}
use Rattle.pgw_login_sasl.proofs.equality.equality_is_exact.Goals as goal

pub returns-clause-method : goal.returns-clause-method
returns-clause-method c Scram Scram = (λ e. refl, λ e. refl)
returns-clause-method c OauthBearer OauthBearer = (λ e. refl, λ e. refl)
returns-clause-method c x y = (λ e. absurd cc, λ e. absurd cc)

pub returns-clause-stage : goal.returns-clause-stage
returns-clause-stage c First First = (λ e. refl, λ e. refl)
returns-clause-stage c (Further x) (Further y) =
    (λ e. ap (λ z. Further z) ((returns-clause-method c x y).0 e), λ e. (returns-clause-method c x y).1 cc)
returns-clause-stage c Over Over = (λ e. refl, λ e. refl)
returns-clause-stage c x y = (λ e. absurd cc, λ e. absurd cc)
