use Rattle.std.proofs.Common.{◌≡◌, take}
use Rattle.pgw_client_calls.proofs.requests.types.Given as goal

abbrev pub invariant-loop-oid : goal.invariant-loop-oid
invariant-loop-oid l = l.types ≡ take l.oid-index l.oids
