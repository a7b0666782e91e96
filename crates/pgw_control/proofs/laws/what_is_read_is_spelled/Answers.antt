use Rattle.pgw_control.proofs.OpeningLaws.{ssl_found, gss_found, cancel_found}
use Rattle.pgw_control.proofs.laws.what_is_read_is_spelled.Goals as goal

pub returns : goal.returns
returns c = record { ssl = ssl_found; gss = gss_found; cancel = cancel_found }
