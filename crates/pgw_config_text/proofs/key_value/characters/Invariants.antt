use Rattle.std.proofs.Common.{◌≡◌}
use Rattle.pgw_config_text.proofs.key_value.characters.Given as goal

abbrev pub invariant-loop-c : goal.invariant-loop-c
invariant-loop-c l = l.all.items ≡ l.yielded
