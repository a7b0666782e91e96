use Rattle.std.proofs.Common.{sym, subst}
use Rattle.std.proofs.lemmas.Bool.{OnTrue_at}
use Rattle.pgw_query.specs.Runs.{HasNoRow}
use Rattle.pgw_query.proofs.RunLaws.{rest_of}
use Rattle.pgw_dialogue.proofs.InboxLaws.{stands_as}
use Rattle.pgw_dialogue.proofs.inbox.bring_rows.Goals as goal

pub is_last-requires : goal.is_last-requires
is_last-requires c =
    let rest = rest_of c.as_slice-bytes.result.now c.span_of-span.result.end in
    subst HasNoRow (sym rest) c.span_of-span.ensures.all

pub returns-then-is_last-clause-found : goal.returns-then-is_last-clause-found
returns-then-is_last-clause-found c =
    let seen = c.as_slice-bytes.result.now in
    let others = c.as_slice.result.now in
    stands_as c.args.front.now c.args.tail.now.items seen others c.span_of-span.result
    c.span_of-span.ensures c.as_slice-bytes.ensures c.as_slice.ensures
    (OnTrue_at c.if-is_last.true c.is_last.ensures)
