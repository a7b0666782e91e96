-- The printed lines of a pool's calls.
use Rattle.std.specs.Prelude.{ℕ, List, ◌++◌, Bool, true, false, codes, decimal}
use Rattle.pgw_backend.specs.declared.client_error.PgWireClientError.{PgWireClientError}
use Rattle.pgw_backend.specs.declared.client_error.PgWireClientError.TheVariants as client
use Rattle.pgw_pool.specs.declared.pool.LendError.{LendError}
use Rattle.pgw_pool.specs.declared.pool.LendError.TheVariants.{Empty, Exhausted}
use Rattle.pgw_pool.specs.declared.returned.Returned.{Returned}
use Rattle.pgw_pool.specs.declared.returned.Returned.TheVariants.{Kept, Dropped}
use Rattle.pgw_pool.specs.declared.returned.DropCause.{DropCause}
use Rattle.pgw_pool.specs.declared.returned.DropCause.TheVariants as cause
use Rattle.pgw_prog_sessions.specs.Pieces.{line_end}

-- lease N
unfoldable pub lease_line : ℕ → List ℕ
lease_line number = codes "lease " ++ decimal number ++ line_end

-- why none was lent
unfoldable pub none_line : LendError → List ℕ
none_line Empty = codes "empty\n"
none_line Exhausted = codes "exhausted\n"

unfoldable pub cause_name : DropCause → List ℕ
cause_name (cause.Failed e) = codes "Failed"
cause_name (cause.Refused e) = codes "Refused"
cause_name (cause.Status status) = codes "Status"
cause_name cause.OutOfMemory = codes "OutOfMemory"

-- kept, or dropped CAUSE
unfoldable pub returned_line : Returned → List ℕ
returned_line Kept = codes "kept\n"
returned_line (Dropped why) = codes "dropped " ++ cause_name why ++ line_end

-- ---- want of memory, of which nothing is printed

-- no call of a script's links is to fail, so one fails only where a write finds no memory
abbrev pub wants_memory : PgWireClientError → Bool
wants_memory client.OutOfMemory = true
wants_memory client.IoError = true
wants_memory e = false

abbrev pub was_wanting : Returned → Bool
was_wanting (Dropped (cause.Failed e)) = wants_memory e
was_wanting (Dropped cause.OutOfMemory) = true
was_wanting result = false
