use Rattle.std.proofs.Common.{◌≡◌, vec_len}
use Rattle.pgw_pool_turns.proofs.bells.hang.Given as goal

abbrev pub invariant-loop : goal.invariant-loop
invariant-loop l = vec_len l.all ≡ l.counter
