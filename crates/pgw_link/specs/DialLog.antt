-- What a note of one call makes of what a dialer tells.
use Rattle.std.specs.Prelude.{[], ◌∷◌, ◌++◌}
use Rattle.pgw_link.specs.Dials.{DialTape}
use Rattle.pgw_link.specs.Log.{tape_of}
use Rattle.pgw_link.specs.declared.dial_log.DialLog.{DialLog}
use Rattle.pgw_link.specs.declared.dial_log.DialNote.{DialNote}
use Rattle.pgw_link.specs.declared.dial_log.DialNote.TheVariants as note

abbrev pub dial_tape_of : DialLog → DialTape
dial_tape_of l = record { dialled = l.dialled; shut = l.shut }

abbrev pub dial_noted : DialTape → DialNote → DialTape
dial_noted t (note.Dialled to made) = record t { dialled = t.dialled ++ (to.now, made) ∷ [] }
dial_noted t (note.Shut link) = record t { shut = t.shut ++ tape_of link.now ∷ [] }
