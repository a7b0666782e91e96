use Rattle.std.proofs.Common.{take, subst, sym, arith}
use Rattle.pgw_link.specs.Tape.{Took, Tape}
use Rattle.pgw_link.specs.Log.{tape_of}
use Rattle.pgw_link.proofs.LogLaws.{read_took}
use Rattle.pgw_link.proofs.stream_link.StreamLinkLink.read.Goals as goal

pub returns-in-Ok-clause-moved : goal.returns-in-Ok-clause-moved
returns-in-Ok-clause-moved g c = λ some.
    let old : Tape = tape_of c.args.self.now.log in
    let buf = c.read_some.new.buf in
    let n = c.in-Ok.count in
    subst (λ (t : Tape). Took old t (take n buf)) (sym c.then-self.ensures)
    (read_took old buf n c.in-Ok.ensures.bound (omega (arith, some, c.read_some.auto.buf)))
