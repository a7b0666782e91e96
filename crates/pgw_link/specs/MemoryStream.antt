-- What a source and a sink in memory tell.
use Rattle.std.specs.Prelude.{◌+◌, ℕ, List, drop}
use Rattle.pgw_link.specs.Stream.{SourceTape, SinkTape, source_tape_of, sink_tape_of}
use Rattle.pgw_link.specs.declared.memory_stream.MemorySource.{MemorySource}
use Rattle.pgw_link.specs.declared.memory_stream.MemorySink.{MemorySink}

abbrev pub source_tape : MemorySource → SourceTape
source_tape m = source_tape_of m.log

-- the bytes that are still to come
abbrev pub source_left : MemorySource → List ℕ
source_left m = drop m.at m.bytes

abbrev pub sink_tape : MemorySink → SinkTape
sink_tape m = sink_tape_of m.log

-- the listed writes that failed, and those that found no memory
abbrev pub sink_faults : MemorySink → ℕ
sink_faults m = m.writes.failed + m.wanting
