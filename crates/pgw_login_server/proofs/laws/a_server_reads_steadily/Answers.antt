use Rattle.pgw_login_server.proofs.ServerLaws.{steady_at}
use Rattle.pgw_login_server.proofs.laws.a_server_reads_steadily.Goals as goal

pub returns : goal.returns
returns c = steady_at
