use Rattle.std.proofs.Common.{◌≡◌, ◌+◌, ◌≤◌, length}
use Rattle.pgw_prog_script.specs.Form.{read_lines, read_script, lines_of}
use Rattle.pgw_prog_script.proofs.lines.read_whole.Given as goal

abbrev pub decreases-loop-rest : goal.decreases-loop-rest
decreases-loop-rest g l = length l.rest

abbrev pub invariant-loop-rest : goal.invariant-loop-rest
invariant-loop-rest g l =
    let D = g.D.Draft in
    record {
      same : read_lines D.form (D.place l.draft) (D.script l.draft) l.number (lines_of l.rest) ≡ read_script
          D.form l.fn.text;
      few : l.number + length l.rest ≤ length l.fn.text;
      holds : D.Holds (D.script l.draft);
    }
