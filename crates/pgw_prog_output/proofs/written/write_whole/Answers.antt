use Rattle.std.proofs.Common.{arith, ◌∙◌}
use Rattle.pgw_prog_output.proofs.WrittenLaws.{put_on}
use Rattle.pgw_prog_output.proofs.written.write_whole.Goals as goal

pub loop-at-preserved : goal.loop-at-preserved
loop-at-preserved g c =
    let i = c.loop-at.invariant in
    let e = c.in_ok-at.ensures in
    record {
      at_in = omega (arith, e.bound);
      same = e.no_fault ∙ i.same;
      wrote = put_on (g.O.Sink.tape c.args.output.now) c.args.text.now c.loop-at.at c.in_ok-at.field-0 e.moved
          i.wrote;
    }
