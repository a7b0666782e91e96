use Rattle.std.proofs.Common.{◌∙◌, ◌++◌, ℕ, List, subst, sym}
use Rattle.std.proofs.lemmas.Result.{IfOk-weaker, on_ok_weaker}
use Rattle.pgw_query.specs.Runs.{HasNoRow}
use Rattle.pgw_dialogue.proofs.RowLaws.{rows_more}
use Rattle.pgw_dialogue.proofs.inbox.Inbox.take_rows.Goals as goal

pub returns-clause-taken : goal.returns-clause-taken
returns-clause-taken c =
    let front = c.bring_rows.new.front in
    let tail = c.bring_rows.new.tail.items in
    let whole = c.bring_rows.ensures.same ∙ c.self.view_is in
    IfOk-weaker c.take_span.result _ _
    (λ count m. rows_more c.args.rows.now c.take_span.new.self front c.take_span.new.bytes tail
    c.args.self.now count whole m)
    c.take_span.ensures.taken

pub returns-clause-all : goal.returns-clause-all
returns-clause-all c =
    let behind : List ℕ → Type 0 = λ l. HasNoRow (l ++ c.bring_rows.new.tail.items) in
    on_ok_weaker c.take_span.result (λ left. subst behind (sym left) c.in_ok-span.ensures.found.1)
    c.take_span.ensures.left
