-- Notes behind segments that they do not tell of any more.
use Rattle.std.specs.Prelude.{ℕ, ◌+◌, List, ◌++◌}
use Rattle.pgw_session.specs.declared.types.Answer.{Answer}
use Rattle.pgw_session.specs.declared.notes.Notes.{Notes}

-- the same notes, with so many segments more closed before them, and with their answers
abbrev pub notes_behind : ℕ → List Answer → Notes → Notes
notes_behind k earlier n = record n { answers = earlier ++ n.answers; closed = n.closed + k }
