use Rattle.pgw_login_pair.proofs.Lengths.{startup_fits, name_fits, final_fits, salt_fits, share_fits}
use Rattle.pgw_login_pair.proofs.laws.sizes_suffice.Goals as goal

pub returns-clause-startup : goal.returns-clause-startup
returns-clause-startup c = startup_fits

pub returns-clause-client_first : goal.returns-clause-client_first
returns-clause-client_first c = name_fits

pub returns-clause-client_final : goal.returns-clause-client_final
returns-clause-client_final c = final_fits

pub returns-clause-server_first : goal.returns-clause-server_first
returns-clause-server_first c = salt_fits

pub returns-clause-share : goal.returns-clause-share
returns-clause-share c = share_fits
