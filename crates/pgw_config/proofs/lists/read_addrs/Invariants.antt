use Rattle.std.proofs.Common.{◌≡◌, take}
use Rattle.pgw_config.specs.Pieces.{read_onto}
use Rattle.pgw_config.specs.HostAddr.{addr_of}
use Rattle.pgw_config.proofs.lists.read_addrs.Given as goal

abbrev pub invariant-loop-text : goal.invariant-loop-text
invariant-loop-text l = l.all ≡ read_onto addr_of l.fn.addrs (take l.text-index l.text-items)
