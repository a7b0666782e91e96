use Rattle.pgw_query.proofs.RunLaws.{rest_of, spans_all, spans_on}
use Rattle.pgw_query.proofs.run.span_of.Goals as goal

pub loop-len-preserved : goal.loop-len-preserved
loop-len-preserved c =
    spans_on c.args.bytes.now c.loop-len.rows c.loop-len.end c.in-Some.len c.loop-len.invariant
    (rw (rest_of c.args.bytes.now c.loop-len.end) at c.in-Some.ensures)

pub returns : goal.returns
returns c =
    spans_all c.args.bytes.now c.loop-len.rows c.loop-len.end c.loop-len.invariant
    (rw (rest_of c.args.bytes.now c.loop-len.end) at c.in_default.ensures)
