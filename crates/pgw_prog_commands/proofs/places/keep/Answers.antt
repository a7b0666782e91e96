use Rattle.std.proofs.Common.{refl}
use Rattle.pgw_prog_commands.specs.declared.targets.Fit.TheVariants as fit
use Rattle.pgw_prog_commands.proofs.places.keep.Goals as goal

pub returns-in-Unfit : goal.returns-in-Unfit
returns-in-Unfit g c = (fit.Unfit, c.look_at.new.client, c.in-Unfit.ensures, refl, c.close.ensures)

pub returns-in-Starved : goal.returns-in-Starved
returns-in-Starved g c =
    (fit.Starved, c.look_at.new.client, c.in-Starved.ensures, refl, c.close-in-Starved.ensures)
