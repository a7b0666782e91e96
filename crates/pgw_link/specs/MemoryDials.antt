-- What a dialer in memory tells.
use Rattle.std.specs.Prelude.{ℕ, ◌+◌, List, [], ◌∷◌, map, Bool, true, false, ◌||◌}
use Rattle.pgw_types.specs.Counts.{next_count}
use Rattle.pgw_link.specs.Calls.{is_listed}
use Rattle.pgw_link.specs.Dials.{DialTape}
use Rattle.pgw_link.specs.DialLog.{dial_tape_of}
use Rattle.pgw_link.specs.Memory.{memory_left}
use Rattle.pgw_link.specs.declared.memory.MemoryLink.{MemoryLink}
use Rattle.pgw_link.specs.declared.memory_dialer.MemoryDialer.{MemoryDialer}

-- the bytes that each of these links has to come
abbrev pub offers_of : List MemoryLink → List (List ℕ)
offers_of links = map memory_left links

abbrev pub dial_tape : MemoryDialer → DialTape
dial_tape d = dial_tape_of d.log

-- the listed dials, those that found no link, and the links that were closed with a fault
abbrev pub dial_faults : MemoryDialer → ℕ
dial_faults d = d.dials.failed + d.missing + d.faulty

-- the links that are still to be handed out
abbrev pub links_of : MemoryDialer → List MemoryLink
links_of d = d.links.items

abbrev pub is_none : List MemoryLink → Bool
is_none [] = true
is_none (link ∷ more) = false

-- the next dial is listed, or there is no link left
abbrev pub is_dial_refused : MemoryDialer → Bool
is_dial_refused d = is_listed d.dials.numbers (next_count d.dials.made) || is_none d.links.items
