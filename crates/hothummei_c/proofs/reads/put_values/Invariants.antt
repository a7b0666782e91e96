use Rattle.hothummei_c.proofs.ReadLaws.{Showing}
use Rattle.hothummei_c.proofs.reads.put_values.Given as goal

abbrev pub invariant-each : goal.invariant-each
invariant-each l = Showing l.count l.row l.values.items l.left l.at

abbrev pub decreases-each : goal.decreases-each
decreases-each l = l.left
