-- What is left of a link by a call that writes some bytes and flushes.
use Rattle.std.specs.Prelude.{◌≡◌, ◌≤◌, ℕ, ◌+◌, List, ◌++◌, length, take}
use Rattle.pgw_link.specs.Tape.{Tape}

-- nothing was read
pub record ReadsNothing (old new : Tape) : Type 0 where
  pub took : new.took ≡ old.took
  pub ended : new.ended ≡ old.ended
  pub reads : new.reads ≡ old.reads

-- all of the bytes were written and flushed
pub record Wrote (old new : Tape) (bytes : List ℕ) : Type 0 where
  pub reads_nothing : ReadsNothing old new
  pub wrote : new.wrote ≡ old.wrote ++ bytes
  pub flushed : new.flushed ≡ length new.wrote
  pub writes : new.writes ≤ old.writes + length bytes

-- a front of the bytes was written, and not all of them were flushed
pub record WroteSome (old new : Tape) (bytes : List ℕ) : Type 0 where
  pub count : ℕ
  pub reads_nothing : ReadsNothing old new
  pub count_in : count ≤ length bytes
  pub wrote : new.wrote ≡ old.wrote ++ take count bytes
  pub flushed : new.flushed ≡ old.flushed
  pub writes : new.writes ≤ old.writes + count + 1
