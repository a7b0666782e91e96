use Rattle.std.proofs.Common.{◌≡◌, ◌+◌, ◌++◌, List, length}
use Rattle.sha2.specs.Hashers.{Holds256}
use Rattle.pgw_query.specs.declared.data.DataRow.{DataRow}
use Rattle.pgw_prog_sessions.specs.Summary.{IsSum, payloads}
use Rattle.pgw_prog_sessions.proofs.summary.Sum.add_rows.Given as goal

abbrev pub invariant-loop-row : goal.invariant-loop-row
invariant-loop-row l = record {
  can : (goal.iterator-loop-row).can_next l.row-iterator;
  ends : (goal.iterator-loop-row).is_finite l.row-iterator;
  count : l.self.rows ≡ l.fn.self.rows + length l.rows;
  held : (done : List DataRow) × (done ++ l.row-iterator ≡ l.rows)
      × ((before : List DataRow) → IsSum l.fn.self before → Holds256 l.self.hasher (payloads (before ++ done)));
}
