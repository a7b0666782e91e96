use Rattle.pgw_hash.proofs.Prepared.{prepared_utf8}
use Rattle.pgw_hash.proofs.laws.a_prepared_text_is_utf8.Goals as goal

pub returns : goal.returns
returns c text form utf8 is = prepared_utf8 text form utf8 is
