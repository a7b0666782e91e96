-- What the calls of a stream make of a tape.
use Rattle.std.specs.Prelude.{◌+◌, List, [], ◌∷◌, ◌++◌, length, Option, Some, None}
use Rattle.std.specs.declared.io.Error.{Error}
use Rattle.pgw_link.specs.Tape.{Tape, new_tape}
use Rattle.pgw_tokio_moving.specs.Calls.{Call, Gave, Ended, Wrote, Flushed, Waited, Unread, Unwritten, Unflushed, fault_of}

abbrev pub with_call : Tape → Call → Tape
with_call t (Gave bytes) = record t { took = t.took ++ bytes; reads = t.reads + 1 }
with_call t Ended = record t { ended = t.ended ++ t.flushed ∷ []; reads = t.reads + 1 }
with_call t (Wrote bytes) = record t { wrote = t.wrote ++ bytes; writes = t.writes + 1 }
with_call t Flushed = record t { flushed = length t.wrote }
with_call t Waited = t
with_call t (Unread e) = record t { reads = t.reads + 1 }
with_call t (Unwritten e) = record t { writes = t.writes + 1 }
with_call t (Unflushed e) = t

abbrev pub tape_after : Tape → List Call → Tape
tape_after t [] = t
tape_after t (call ∷ calls) = tape_after (with_call t call) calls

-- the tape of the calls of a stream, from the first on
abbrev pub stream_tape : List Call → Tape
stream_tape calls = tape_after new_tape calls

-- the error, if there is one
abbrev pub error_list : Option Error → List Error
error_list None = []
error_list (Some e) = e ∷ []

-- the errors of the calls that failed
abbrev pub stream_errors : List Call → List Error
stream_errors [] = []
stream_errors (call ∷ calls) = error_list (fault_of call) ++ stream_errors calls
