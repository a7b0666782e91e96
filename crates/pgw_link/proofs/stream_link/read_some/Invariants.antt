use Rattle.std.specs.Io.KnownBytes.{Keeps}
use Rattle.pgw_link.proofs.stream_link.read_some.Given as goal

abbrev pub invariant-tries : goal.invariant-tries
invariant-tries g l = record {
  keeps : Keeps (g.S.Read.remaining l.fn.stream) (g.S.Read.remaining l.stream);
}
