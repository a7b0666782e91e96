use Rattle.std.proofs.Common.{◌≡◌, take}
use Rattle.pgw_config.specs.Pieces.{read_onto}
use Rattle.pgw_config.specs.Lists.{port_of}
use Rattle.pgw_config.proofs.lists.read_ports.Given as goal

abbrev pub invariant-loop-text : goal.invariant-loop-text
invariant-loop-text l = l.all ≡ read_onto port_of l.fn.ports (take l.text-index l.text-items)
