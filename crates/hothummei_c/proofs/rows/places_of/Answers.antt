use Rattle.std.proofs.Common.{arith}
use Rattle.hothummei_c.proofs.PlaceLaws.{next_run}
use Rattle.hothummei_c.proofs.rows.places_of.Goals as goal

pub runs-preserved : goal.runs-preserved
runs-preserved c = record {
  within = omega (arith, c.runs-test.true);
  located =
      next_run c.args.runs.now c.runs.run c.runs.places.items _ c.runs.invariant.located c.in_ok-add_run.ensures;
}
