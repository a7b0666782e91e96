use Rattle.pgw_machine.proofs.PlayLaws.{leads_on}
use Rattle.pgw_login_server.specs.Server.{serving}
use Rattle.pgw_login_server.proofs.ServerLaws.{steady_at}
use Rattle.pgw_login_server.proofs.PieceLaws.{cut, joined_from_none, cuts_from_none}
use Rattle.pgw_login_server.proofs.laws.pieces_join.Goals as goal

pub returns : goal.returns
returns g c = record {
  one = λ handler begin given piece there.
      let means = g.H.StartupHandler.means handler in (
        (λ leads. cut means begin given piece there leads),
        (λ on. leads_on (serving means) steady_at begin given on.0 piece there on.1 on.2),
      );
  all = λ handler begin piece pieces there.
      let means = g.H.StartupHandler.means handler in (
        (λ on. joined_from_none means begin piece pieces there on),
        (λ leads. cuts_from_none means begin piece pieces there leads),
      );
}
