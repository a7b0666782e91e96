use Rattle.std.proofs.Common.{◌≡◌, drop, subst, sym, ap, ◌∙◌}
use Rattle.std.proofs.lemmas.Result.{on_ok_weaker}
use Rattle.pgw_query.specs.Runs.{HasNoRow}
use Rattle.pgw_query.proofs.data_rows.DataRows.take_front.Goals as goal

pub returns-clause-all : goal.returns-clause-all
returns-clause-all c =
    let found : drop c.span_of-span.result.end c.as_slice.result.now ≡ drop c.span_of-span.result.end
    c.args.bytes.now =
    ap (drop c.span_of-span.result.end) c.as_slice.ensures in
    on_ok_weaker c.take_span.result (λ left. subst HasNoRow (found
    ∙ sym left) c.span_of-span.ensures.all) c.take_span.ensures.left
