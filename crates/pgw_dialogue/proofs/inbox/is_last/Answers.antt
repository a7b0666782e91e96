use Rattle.std.proofs.Common.{◌∙◌, sym}
use Rattle.std.proofs.lemmas.Bool.{OnTrue_from}
use Rattle.pgw_dialogue.proofs.InboxLaws.{none_behind, whole_if}
use Rattle.pgw_dialogue.proofs.inbox.is_last.Goals as goal

pub returns-else-is_empty : goal.returns-else-is_empty
returns-else-is_empty c =
    let bytes = c.args.bytes.now in
    let found = c.whole_end-else-is_empty in
    OnTrue_from c.is_some.result _
    (λ some. none_behind bytes c.args.others.now
    (whole_if bytes found.result (sym c.is_some.ensures ∙ some) found.ensures) c.requires)
