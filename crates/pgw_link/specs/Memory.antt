-- What a link in memory is made with, and what it tells.
use Rattle.std.specs.Prelude.{◌+◌, ℕ, List, drop}
use Rattle.pgw_link.specs.Tape.{Tape}
use Rattle.pgw_link.specs.Log.{tape_of}
use Rattle.pgw_link.specs.declared.memory.MemoryLink.{MemoryLink}

-- the server's bytes; how many bytes a call moves at most; the numbers of the reads and of the writes that are to fail
pub record Making : Type 0 where
  pub server : List ℕ
  pub cut : ℕ
  pub reads : List ℕ
  pub writes : List ℕ

abbrev pub memory_tape : MemoryLink → Tape
memory_tape m = tape_of m.log

-- the server's bytes that are still to come
abbrev pub memory_left : MemoryLink → List ℕ
memory_left m = drop m.at m.server

-- the listed calls that failed, and the writes that found no memory
abbrev pub faults_of : MemoryLink → ℕ
faults_of m = m.reads.failed + m.writes.failed + m.wanting

abbrev pub making_of : MemoryLink → Making
making_of m =
    record { server = m.server; cut = m.cut; reads = m.reads.numbers; writes = m.writes.numbers }
