use Rattle.pgw_machine.proofs.CourseLaws.{sent_grows}
use Rattle.pgw_machine.proofs.laws.bytes_put_out_stay.Goals as goal

pub returns : goal.returns
returns g c = sent_grows
