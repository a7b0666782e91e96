use Rattle.std.proofs.Common.{◌≡◌, ◌++◌, drop}
use Rattle.json.specs.Tree.{members_tokens}
use Rattle.pgw_prog_output.specs.JsonLines.{members_of}
use Rattle.pgw_prog_output.proofs.json_lines.put_members.Given as goal

abbrev pub invariant-loop-at : goal.invariant-loop-at
invariant-loop-at l = record {
  before : l.writer.before ≡ l.fn.writer.before;
  members : l.writer.tokens ++ members_tokens (members_of (drop l.at l.columns) (drop l.at l.row))
      ≡ l.fn.writer.tokens ++ members_tokens (members_of l.columns l.row);
}
