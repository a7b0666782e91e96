use Rattle.std.proofs.Common.{List, ◌++◌, length}
use Rattle.pgw_secrets.specs.declared.password_file.Entry.{Entry}
use Rattle.pgw_secrets.specs.PasswordFile.{IsFile}
use Rattle.pgw_secrets.proofs.password_line.read_lines.Given as goal

abbrev pub invariant-loop-end : goal.invariant-loop-end
invariant-loop-end l = (more : List Entry) → IsFile l.rest more → IsFile l.fn.bytes (l.entries ++ more)

abbrev pub decreases-loop-end : goal.decreases-loop-end
decreases-loop-end l = length l.rest
