use Rattle.std.proofs.Common.{◌≡◌, ◌++◌, take}
use Rattle.pgw_config.proofs.host_addr.append.Given as goal

abbrev pub invariant-loop-group : goal.invariant-loop-group
invariant-loop-group l = l.all ≡ l.fn.all ++ take l.group-index l.groups
