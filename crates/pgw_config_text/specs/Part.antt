-- The parts of a connection text, one after the other.
use Rattle.std.specs.Prelude.{List, [], ◌∷◌, ◌++◌, Option, Some, None, Result, Ok, Err}
use Rattle.pgw_config_text.specs.declared.part.Part.{Part}
use Rattle.pgw_config_text.specs.declared.part.Cut.{Cut}
use Rattle.pgw_config_text.specs.declared.part.Fault.{Fault}

-- a part, or a fault of form
abbrev pub Item : Type 0
Item = Result Part Fault

-- the parts up to the first fault
abbrev pub up_to_fault : List Item → Cut
up_to_fault [] = record { parts = []; fault = None }
up_to_fault (Ok part ∷ items) =
    record { parts = part ∷ (up_to_fault items).parts; fault = (up_to_fault items).fault }
up_to_fault (Err fault ∷ items) = record { parts = []; fault = Some fault }

-- ---- how a reader goes on

abbrev pub next_by : Option Fault → Cut → Item → Cut
next_by None cut (Ok part) = record cut { parts = cut.parts ++ part ∷ [] }
next_by None cut (Err fault) = record cut { fault = Some fault }
next_by (Some fault) cut item = cut

-- the parts with one more behind them, or up to a fault; the first fault ends them
abbrev pub next_cut : Cut → Item → Cut
next_cut cut item = next_by cut.fault cut item

-- with these behind them, one after the other
abbrev pub adds : Cut → List Item → Cut
adds cut [] = cut
adds cut (item ∷ items) = adds (next_cut cut item) items
