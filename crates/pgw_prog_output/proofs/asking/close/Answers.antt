use Rattle.std.proofs.Common.{◌∙◌, refl, sym}
use Rattle.pgw_prog_output.specs.Halting.{stopped}
use Rattle.pgw_prog_output.proofs.asking.close.Goals as goal

pub returns-in-Some : goal.returns-in-Some
returns-in-Some g c = stopped c.in-Some.stop (sym c.stop_of.ensures ∙ c.in-Some.is) refl refl c.end_by.ensures
