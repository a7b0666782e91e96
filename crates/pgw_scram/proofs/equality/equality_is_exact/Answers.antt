use Rattle.std.proofs.Common.{ap, refl}
use Rattle.std.proofs.lemmas.Bool.Decides.{Decides-eqb}
use Rattle.std.specs.Cmp.Lexicographic.{bytes_decides}
use Rattle.pgw_scram.specs.declared.messages.ClientFirst.{ClientFirst}
use Rattle.pgw_scram.specs.declared.messages.ServerFirst.{ServerFirst}
use Rattle.pgw_scram.specs.declared.messages.ClientFinal.{ClientFinal}
use Rattle.pgw_scram.specs.declared.messages.ServerFinal.TheVariants.{Signature, Failed}
use Rattle.pgw_wire.proofs.EqualLaws.{both_exact, made_exact}
use Rattle.pgw_scram.proofs.equality.equality_is_exact.Goals as goal

pub returns-clause-client_first : goal.returns-clause-client_first
returns-clause-client_first c =
    made_exact {Y = ClientFirst} (λ x. (x.header, (x.bare, (x.user, x.nonce))))
    (λ p. record { header = p.0; bare = p.1.0; user = p.1.1.0; nonce = p.1.1.1 }) (λ x. refl) _
    (both_exact _ _ bytes_decides
    (both_exact _ _ bytes_decides (both_exact _ _ bytes_decides bytes_decides)))

pub returns-clause-server_first : goal.returns-clause-server_first
returns-clause-server_first c =
    made_exact {Y = ServerFirst} (λ x. (x.nonce, (x.salt, x.count)))
    (λ p. record { nonce = p.0; salt = p.1.0; count = p.1.1 }) (λ x. refl) _
    (both_exact _ _ bytes_decides (both_exact _ _ bytes_decides Decides-eqb))

pub returns-clause-client_final : goal.returns-clause-client_final
returns-clause-client_final c =
    made_exact {Y = ClientFinal} (λ x. (x.binding, (x.nonce, (x.without_proof, x.proof))))
    (λ p. record { binding = p.0; nonce = p.1.0; without_proof = p.1.1.0; proof = p.1.1.1 }) (λ x. refl) _
    (both_exact _ _ bytes_decides
    (both_exact _ _ bytes_decides (both_exact _ _ bytes_decides bytes_decides)))

pub returns-clause-server_final : goal.returns-clause-server_final
returns-clause-server_final c (Signature x) (Signature y) =
    (λ e. ap (λ z. Signature z) ((bytes_decides x y).0 e), λ e. (bytes_decides x y).1 cc)
returns-clause-server_final c (Failed x) (Failed y) =
    (λ e. ap (λ z. Failed z) ((bytes_decides x y).0 e), λ e. (bytes_decides x y).1 cc)
returns-clause-server_final c x y = (λ e. absurd cc, λ e. absurd cc)
