use Rattle.std.proofs.Common.{◌≡◌, ℕ, List, ◌∷◌, ◌++◌, append_assoc, sym, ap, ◌∙◌}
use Rattle.std.specs.List.{flat_map}
use Rattle.pgw_query.specs.declared.data.DataRow.{DataRow}
use Rattle.pgw_prog_sessions.specs.AnswerLines.{row_line}
use Rattle.pgw_prog_sessions.proofs.answer_lines.put_rows.Goals as goal

-- a row's line comes behind what was put, and the others' behind it
next_put : (out new text : List ℕ) (rows rest : List DataRow) (row : DataRow) → rows ≡ row ∷ rest
    → new ≡ out ++ row_line row → out ++ flat_map row_line rows ≡ text → new ++ flat_map row_line rest ≡ text
next_put out new text rows rest row are put before =
    ap (λ (o : List ℕ). o ++ flat_map row_line rest) put
    ∙ append_assoc out (row_line row) (flat_map row_line rest)
    ∙ ap (λ (r : List DataRow). out ++ flat_map row_line r) (sym are)
    ∙ before

pub loop-row-preserved : goal.loop-row-preserved
loop-row-preserved c = record {
  can = tt;
  ends = tt;
  put = next_put c.loop-row.out.items c.put_row.new.out.items _ c.loop-row.row-iterator c.next.new.self _
      c.in-Some.ensures.steps c.in_ok-put_row.ensures c.loop-row.invariant.put;
}
