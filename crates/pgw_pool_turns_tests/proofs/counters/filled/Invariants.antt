use Rattle.std.proofs.Common.{◌≡◌, ◌≤◌}
use Rattle.std.specs.VecDeque.{deque_len, deque_capacity}
use Rattle.pgw_pool_turns_tests.proofs.counters.filled.Given as goal

abbrev pub invariant-loop-number : goal.invariant-loop-number
invariant-loop-number l = (deque_len l.idle ≡ l.number) × (l.count ≤ deque_capacity l.idle)
