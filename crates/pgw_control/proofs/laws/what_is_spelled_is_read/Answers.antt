use Rattle.pgw_control.proofs.OpeningLaws.{ssl_again, gss_again, cancel_again}
use Rattle.pgw_control.proofs.laws.what_is_spelled_is_read.Goals as goal

pub returns : goal.returns
returns c = record { ssl = ssl_again; gss = gss_again; cancel = cancel_again }
