use Rattle.std.proofs.Common.{map, take}
use Rattle.pgw_prog_pool.specs.Standing.{IsNotOut}
use Rattle.pgw_prog_pool.specs.Views.{seat_place}
use Rattle.pgw_prog_pool.proofs.desk.place_of.Given as goal

abbrev pub invariant-loop-at : goal.invariant-loop-at
invariant-loop-at l = IsNotOut l.number (map seat_place (take l.at l.out))
