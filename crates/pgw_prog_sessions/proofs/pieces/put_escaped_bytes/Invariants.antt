use Rattle.std.proofs.Common.{◌≡◌, ◌++◌, take}
use Rattle.std.specs.List.{flat_map}
use Rattle.pgw_prog_sessions.specs.Pieces.{quoted_byte}
use Rattle.pgw_prog_sessions.proofs.pieces.put_escaped_bytes.Given as goal

abbrev pub invariant-loop-byte : goal.invariant-loop-byte
invariant-loop-byte l = l.out.items ≡ l.fn.out.items ++ flat_map quoted_byte (take l.byte-index l.bytes)
