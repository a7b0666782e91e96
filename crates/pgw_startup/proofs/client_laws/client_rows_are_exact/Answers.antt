use Rattle.pgw_startup.proofs.ClientLaws.{password, initial_response, response, raw}
use Rattle.pgw_startup.proofs.client_laws.client_rows_are_exact.Goals as goal

pub returns : goal.returns
returns c = record { password = password; initial_response = initial_response; response = response; raw = raw }
