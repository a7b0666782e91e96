use Rattle.std.proofs.Common.{◌∙◌, ◌≤◌, ◌++◌, length, min, sym, ap, arith}
use Rattle.std.proofs.lemmas.List.{append-nil}
use Rattle.pgw_prog_output.proofs.RowLaws.{table_end}
use Rattle.pgw_prog_output.proofs.table_lines.put_rest.Goals as goal

pub returns : goal.returns
returns c =
    let past : min (length c.args.columns.now) (length c.args.row.now) ≤ c.loop-at.at = omega
    (arith, c.min-at-end.ensures, c.loop-at-test.false) in
    let e = table_end c.args.columns.now c.args.row.now c.loop-at.at past in
    sym (append-nil c.loop-at.out.items) ∙ ap (λ t. c.loop-at.out.items ++ t) (sym e) ∙ c.loop-at.invariant
