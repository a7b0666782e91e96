use Rattle.std.proofs.Common.{◌≤◌, ◌-◌, length, take}
use Rattle.pgw_query.specs.Runs.{rows_of}
use Rattle.hothummei_c.specs.Places.{LocatesAll}
use Rattle.hothummei_c.proofs.rows.places_of.Given as goal

abbrev pub invariant-runs : goal.invariant-runs
invariant-runs l = record {
  within : l.run ≤ length l.runs;
  located : LocatesAll l.runs l.places.items (rows_of (take l.run l.runs));
}

abbrev pub decreases-runs : goal.decreases-runs
decreases-runs l = length l.runs - l.run
