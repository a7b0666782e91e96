use Rattle.std.proofs.Common.{sym}
use Rattle.hothummei_c.proofs.PlaceLaws.{adds_none, run_is}
use Rattle.hothummei_c.proofs.places.add_run.Goals as goal

pub returns-in-None : goal.returns-in-None
returns-in-None c = adds_none c.args.runs.now c.args.run c.args.places.now.items (sym c.in-None.ensures)

pub add_here-requires : goal.add_here-requires
add_here-requires c =
    record {
      is = run_is c.args.runs.now c.args.run _ c.requires (sym c.in-Some.ensures);
      stands = sym
          c.in-Some.ensures;
    }
