use Rattle.std.proofs.Common.{[], ◌∷◌, ◌++◌, List, ap, sym, subst, ◌∙◌, append_assoc}
use Rattle.sha2.specs.Hashers.{Holds256}
use Rattle.pgw_query.specs.declared.data.DataRow.{DataRow}
use Rattle.pgw_query.specs.Runs.{lent_row}
use Rattle.pgw_prog_sessions.specs.Summary.{payloads}
use Rattle.pgw_prog_sessions.proofs.SummaryLaws.{payload_on}
use Rattle.pgw_prog_sessions.proofs.summary.Sum.add_rows.Goals as goal

pub loop-row-preserved : goal.loop-row-preserved
loop-row-preserved c =
    let h = c.loop-row.invariant.held in
    let row = lent_row c.in-Some-row.row in
    record {
      can = tt;
      ends = tt;
      count = c.loop-row.invariant.count;
      held = (
        h.0 ++ row ∷ [],
        append_assoc h.0 (row ∷ []) c.next.new.self
            ∙ ap (λ (l : List DataRow). h.0 ++ l) (sym c.in-Some-row.ensures.steps) ∙ h.1,
        λ before is. subst (Holds256 c.update.new.self) (payload_on before h.0 row)
            (c.update.ensures (payloads (before ++ h.0)) (h.2 before is)),
      );
    }
