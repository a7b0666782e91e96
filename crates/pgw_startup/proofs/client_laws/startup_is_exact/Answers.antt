use Rattle.pgw_startup.proofs.FirstLaws.{startup_found, startup_again}
use Rattle.pgw_startup.proofs.PairsLaws.{from_entries}
use Rattle.pgw_startup.proofs.client_laws.startup_is_exact.Goals as goal

pub returns : goal.returns
returns c = record { found = startup_found; only = startup_again; parameters = from_entries }
