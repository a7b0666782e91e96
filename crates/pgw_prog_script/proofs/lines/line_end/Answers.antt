use Rattle.pgw_prog_script.proofs.FeedLaws.{first_feed}
use Rattle.pgw_prog_script.proofs.lines.line_end.Goals as goal

pub returns-clause-place : goal.returns-clause-place
returns-clause-place c = first_feed c.args.text.now c.memchr.result c.memchr.ensures
