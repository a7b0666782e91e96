-- What a source and a sink tell of what their calls did.
use Rattle.std.specs.Prelude.{◌≡◌, ◌<◌, ℕ, ◌+◌, List, [], ◌++◌, length}
use Rattle.pgw_link.specs.Tape.{Tape}
use Rattle.pgw_link.specs.Log.{tape_of}
use Rattle.pgw_link.specs.declared.log.Log.{Log}

-- the bytes that it gave, how often it answered its end, and the number of reads made
pub record SourceTape : Type 0 where
  pub took : List ℕ
  pub ended : ℕ
  pub reads : ℕ

-- the bytes that it took to be written, and the number of writes made
pub record SinkTape : Type 0 where
  pub wrote : List ℕ
  pub writes : ℕ

abbrev pub source_tape_of : Log → SourceTape
source_tape_of l = record { took = l.took; ended = length l.ended; reads = l.reads }

abbrev pub sink_tape_of : Log → SinkTape
sink_tape_of l = record { wrote = l.wrote; writes = l.writes }

-- a read gave these bytes; none only at the end
pub record DrewSource (old new : SourceTape) (bytes : List ℕ) : Type 0 where
  pub took : new.took ≡ old.took ++ bytes
  pub ended : length bytes ≡ 0 → new.ended ≡ old.ended + 1
  pub goes_on : 0 < length bytes → new.ended ≡ old.ended
  pub reads : new.reads ≡ old.reads + 1

-- a failed read, or one into no room, moved nothing; it counts as a read
pub record NotDrawn (old new : SourceTape) : Type 0 where
  pub took : new.took ≡ old.took
  pub ended : new.ended ≡ old.ended
  pub reads : new.reads ≡ old.reads + 1

-- a write appended these bytes
pub record Poured (old new : SinkTape) (bytes : List ℕ) : Type 0 where
  pub wrote : new.wrote ≡ old.wrote ++ bytes
  pub writes : new.writes ≡ old.writes + 1

-- a failed write appended nothing; it counts as a write
pub record NotPoured (old new : SinkTape) : Type 0 where
  pub wrote : new.wrote ≡ old.wrote
  pub writes : new.writes ≡ old.writes + 1
