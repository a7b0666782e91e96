use Rattle.std.proofs.Common.{refl}
use Rattle.std.specs.Prelude.{true, false}
use Rattle.pgw_session.specs.declared.stage.Kind.TheVariants as kind
use Rattle.pgw_session.specs.declared.stage.Role.TheVariants as role
use Rattle.pgw_session.proofs.equality.equality_is_exact.Goals as goal

pub returns-clause-kind : goal.returns-clause-kind
returns-clause-kind c kind.Simple kind.Simple = (λ e. refl, λ e. refl)
returns-clause-kind c kind.Prepare kind.Prepare = (λ e. refl, λ e. refl)
returns-clause-kind c kind.Bind kind.Bind = (λ e. refl, λ e. refl)
returns-clause-kind c kind.Execute kind.Execute = (λ e. refl, λ e. refl)
returns-clause-kind c kind.DescribeStatement kind.DescribeStatement = (λ e. refl, λ e. refl)
returns-clause-kind c kind.DescribePortal kind.DescribePortal = (λ e. refl, λ e. refl)
returns-clause-kind c kind.Close kind.Close = (λ e. refl, λ e. refl)
returns-clause-kind c kind.Query kind.Query = (λ e. refl, λ e. refl)
returns-clause-kind c x y = (λ e. absurd cc, λ e. absurd cc)

pub returns-clause-role : goal.returns-clause-role
returns-clause-role c role.Closing role.Closing = (λ e. refl, λ e. refl)
returns-clause-role c role.Completing role.Completing = (λ e. refl, λ e. refl)
returns-clause-role c role.Failing role.Failing = (λ e. refl, λ e. refl)
returns-clause-role c role.Misplaced role.Misplaced = (λ e. refl, λ e. refl)
returns-clause-role c (role.Taken true) (role.Taken true) = (λ e. refl, λ e. refl)
returns-clause-role c (role.Taken false) (role.Taken false) = (λ e. refl, λ e. refl)
returns-clause-role c x y = (λ e. absurd cc, λ e. absurd cc)
