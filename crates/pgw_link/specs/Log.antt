-- What a note of one call makes of a tape.
use Rattle.std.specs.Prelude.{ℕ, ◌+◌, zero, suc, List, [], ◌∷◌, ◌++◌, length, take}
use Rattle.pgw_link.specs.Tape.{Tape}
use Rattle.pgw_link.specs.declared.log.Log.{Log}
use Rattle.pgw_link.specs.declared.log.Note.{Note}
use Rattle.pgw_link.specs.declared.log.Note.TheVariants as note

abbrev pub tape_of : Log → Tape
tape_of l =
    record {
      took = l.took;
      wrote = l.wrote;
      flushed = l.flushed;
      ended = l.ended;
      reads =
          l.reads;
      writes = l.writes;
    }

-- a read that gave nothing and did not meet the end
abbrev pub after_none : Tape → Tape
after_none t = record t { reads = t.reads + 1 }

-- a read of no bytes into some room is the end
abbrev pub ended_after : List ℕ → ℕ → ℕ → List ℕ
ended_after ended flushed zero = ended ++ flushed ∷ []
ended_after ended flushed (suc n) = ended

abbrev pub after_read : Tape → List ℕ → ℕ → Tape
after_read t [] n = after_none t
after_read t (b ∷ bytes) n =
    record t {
      took = t.took ++ take n (b ∷ bytes);
      ended = ended_after t.ended t.flushed n;
      reads
          = t.reads + 1;
    }

abbrev pub with_note : Tape → Note → Tape
with_note t (note.Read buf n) = after_read t buf.now n
with_note t note.Unread = after_none t
with_note t (note.Wrote piece n) =
    record t { wrote = t.wrote ++ take n piece.now; writes = t.writes + 1 }
with_note t note.Unwritten = record t { writes = t.writes + 1 }
with_note t note.Flushed = record t { flushed = length t.wrote }
