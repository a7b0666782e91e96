use Rattle.pgw_login_server.proofs.EntryLaws.{accounts}
use Rattle.pgw_login_server.proofs.laws.a_server_accounts_for_its_bytes.Goals as goal

pub returns : goal.returns
returns g c handler begin given course way = accounts (g.H.StartupHandler.means handler) begin given course way
