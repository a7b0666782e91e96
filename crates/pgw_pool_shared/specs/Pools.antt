-- What a shared pool has behind its lock.
use Rattle.std.specs.Prelude.{ℕ}
use Rattle.pgw_link.specs.Tape.{Tape}
use Rattle.pgw_link.specs.declared.link.Link as Link
use Rattle.pgw_pool.specs.declared.pool.Pool.{Pool}
use Rattle.pgw_pool.specs.Views.{idle_in, lent_by, out_by, dropped_by, connected_by, room_of}
use Rattle.pgw_pool_shared.specs.Shelves.{Shelf}

abbrev pub shelf_of : {X : Type 0} {L : Link.Ghosts X} → (X → Tape) → (X → ℕ) → Pool X L → Shelf
shelf_of tape faults pool = record {
  lent = lent_by pool;
  idle = idle_in tape faults pool;
  out = out_by pool;
  dropped = dropped_by pool;
  connected = connected_by pool;
  room = room_of pool;
}
