use Rattle.std.proofs.Common.{◌≡◌, take}
use Rattle.pgw_config.specs.Pieces.{all_read}
use Rattle.pgw_config.specs.HostAddr.{group_of}
use Rattle.pgw_config.proofs.host_addr.read_groups.Given as goal

abbrev pub invariant-loop-text : goal.invariant-loop-text
invariant-loop-text l = l.all ≡ all_read group_of (take l.text-index l.texts)
