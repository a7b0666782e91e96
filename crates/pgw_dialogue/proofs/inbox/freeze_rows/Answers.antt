use Rattle.std.proofs.Common.{◌∙◌}
use Rattle.pgw_dialogue.proofs.InboxLaws.{passed_as}
use Rattle.pgw_dialogue.proofs.inbox.freeze_rows.Goals as goal

pub returns-clause-found : goal.returns-clause-found
returns-clause-found c =
    let seen = c.as_slice.result.now in
    let front = c.from_bytes.result in
    let cut = c.from_bytes.ensures ∙ c.in_ok-frozen.ensures.front in
    passed_as c.args.tail.now.items seen front c.freeze_to.new.self.items c.span_of-span.result
    c.span_of-span.ensures c.as_slice.ensures cut c.in_ok-frozen.ensures.rest.0
