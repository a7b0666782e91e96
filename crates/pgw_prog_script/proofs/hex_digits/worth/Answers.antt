use Rattle.pgw_prog_script.proofs.WorthLaws.{worth_at, worth_fits}
use Rattle.pgw_prog_script.proofs.hex_digits.worth.Goals as goal

pub returns-clause-value : goal.returns-clause-value
returns-clause-value c = worth_at c.args.byte c.ranges.byte.fits

pub returns-clause-bound : goal.returns-clause-bound
returns-clause-bound c = worth_fits c.args.byte c.ranges.byte.fits
