use Rattle.std.proofs.Common.{◌≡◌, map}
use Rattle.std.specs.Prelude.{string_bytes}
use Rattle.pgw_prog.specs.Command.{queries_of}
use Rattle.pgw_prog.proofs.command.queries_from.Given as goal

abbrev pub invariant-loop-text : goal.invariant-loop-text
invariant-loop-text l = l.requests ≡ queries_of (map string_bytes l.yielded)
