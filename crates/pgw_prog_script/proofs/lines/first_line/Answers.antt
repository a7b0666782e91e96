use Rattle.std.proofs.Common.{sym}
use Rattle.pgw_prog_script.proofs.ScriptLaws.{last_line, cut_line}
use Rattle.pgw_prog_script.proofs.lines.first_line.Goals as goal

pub returns-in-None-clause-lines : goal.returns-in-None-clause-lines
returns-in-None-clause-lines c = last_line c.args.text.now (sym c.in-None.ensures.place) c.requires

pub returns-in-Some-clause-lines : goal.returns-in-Some-clause-lines
returns-in-Some-clause-lines c =
    rw (c.split_at.ensures.front, c.split_at-in-Some.ensures.back)
    (cut_line c.args.text.now c.in-Some.end (sym c.in-Some.ensures.place))
