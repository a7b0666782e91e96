use Rattle.std.proofs.Common.{◌≡◌, ◌++◌, take}
use Rattle.pgw_config.specs.Lists.{hosts_of}
use Rattle.pgw_config.proofs.lists.add_hosts.Given as goal

abbrev pub invariant-loop-name : goal.invariant-loop-name
invariant-loop-name l = l.hosts ≡ l.fn.hosts ++ hosts_of (take l.name-index l.name-items)
