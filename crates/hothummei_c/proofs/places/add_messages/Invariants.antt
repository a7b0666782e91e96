use Rattle.hothummei_c.proofs.PlaceLaws.{Adding}
use Rattle.hothummei_c.proofs.places.add_messages.Given as goal

abbrev pub invariant-rows : goal.invariant-rows
invariant-rows l = Adding l.run l.count l.bytes l.fn.places.items l.places.items l.left l.at

abbrev pub decreases-rows : goal.decreases-rows
decreases-rows l = l.left
