use Rattle.pgw_login_server.proofs.LastingLaws.{stays_ready}
use Rattle.pgw_login_server.proofs.laws.a_finished_login_stays.Goals as goal

pub returns : goal.returns
returns g c handler begin bytes course keeps is leads =
    stays_ready (g.H.StartupHandler.means handler) keeps begin bytes course is leads
