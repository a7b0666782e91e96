use Rattle.std.proofs.Common.{◌&&◌, ◌==◌, refl}
use Rattle.std.proofs.lemmas.Bool.Decides.{Decides-eqb}
use Rattle.std.specs.declared.time.Duration.{Duration}
use Rattle.pgw_link.specs.declared.dialer.DialError.TheVariants as dial
use Rattle.pgw_link.specs.declared.socket_dialer.Timeouts.{Timeouts}
use Rattle.pgw_wire.specs.Equal.{IsExact}
use Rattle.pgw_wire.proofs.EqualLaws.{both_exact, made_exact, one_exact, option_exact}
use Rattle.pgw_link.proofs.equality.equality_is_exact.Goals as goal

pub returns-clause-link_fault : goal.returns-clause-link_fault
returns-clause-link_fault c = one_exact (λ x y. refl)

pub returns-clause-source_fault : goal.returns-clause-source_fault
returns-clause-source_fault c = one_exact (λ x y. refl)

pub returns-clause-sink_fault : goal.returns-clause-sink_fault
returns-clause-sink_fault c = one_exact (λ x y. refl)

pub returns-clause-dial_error : goal.returns-clause-dial_error
returns-clause-dial_error c dial.Fault dial.Fault = (λ e. refl, λ e. refl)
returns-clause-dial_error c dial.OutOfMemory dial.OutOfMemory = (λ e. refl, λ e. refl)
returns-clause-dial_error c x y = (λ e. absurd cc, λ e. absurd cc)

duration_exact : IsExact {X = Duration} (λ x y. (x.secs == y.secs) && (x.nanos == y.nanos))
duration_exact =
    made_exact {Y = Duration} (λ x. (x.secs, x.nanos)) (λ p. record { secs = p.0; nanos = p.1 }) (λ x. refl) _
    (both_exact _ _ Decides-eqb Decides-eqb)

pub returns-clause-timeouts : goal.returns-clause-timeouts
returns-clause-timeouts c =
    made_exact {Y = Timeouts} (λ x. (x.connect, (x.read, x.write)))
    (λ p. record { connect = p.0; read = p.1.0; write = p.1.1 }) (λ x. refl) _
    (both_exact _ _ (option_exact _ duration_exact)
    (both_exact _ _ (option_exact _ duration_exact) (option_exact _ duration_exact)))
