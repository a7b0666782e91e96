use Rattle.pgw_secrets.proofs.Parts.{same_reading}
use Rattle.pgw_secrets.proofs.laws.a_text_has_one_reading.Goals as goal

pub returns : goal.returns
returns c text one other a b = same_reading text one other a b
