use Rattle.std.specs.Io.KnownBytes.{Keeps}
use Rattle.pgw_link.proofs.stream_link.write_some.Given as goal

abbrev pub invariant-tries : goal.invariant-tries
invariant-tries g l = record {
  keeps : Keeps (g.S.Write.contents l.fn.stream) (g.S.Write.contents l.stream);
}
