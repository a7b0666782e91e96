use Rattle.pgw_query.proofs.TagLaws.{tag_comes_back}
use Rattle.pgw_query.proofs.laws.tags_come_back.Goals as goal

pub returns : goal.returns
returns c = tag_comes_back
