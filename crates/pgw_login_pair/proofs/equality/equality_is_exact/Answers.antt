use Rattle.std.proofs.Common.{ap}
use Rattle.std.proofs.lemmas.Bool.Decides.{Decides-eqb}
use Rattle.pgw_machine.specs.declared.event.Event.TheVariants as event
use Rattle.pgw_login_pair.proofs.equality.equality_is_exact.Goals as goal

pub returns : goal.returns
returns c (event.ToServer x) (event.ToServer y) =
    (λ e. ap (λ z. event.ToServer z) ((Decides-eqb x y).0 e), λ e. (Decides-eqb x y).1 cc)
returns c (event.ToClient x) (event.ToClient y) =
    (λ e. ap (λ z. event.ToClient z) ((Decides-eqb x y).0 e), λ e. (Decides-eqb x y).1 cc)
returns c x y = (λ e. absurd cc, λ e. absurd cc)
