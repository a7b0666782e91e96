-- Relay scripts: which lines may follow one another, and what they say together.
use Rattle.std.specs.Prelude.{ℕ, List, [], ◌++◌, Bool, true, false}
use Rattle.pgw_prog_script.specs.declared.relay_line.RelayLine.{RelayLine}
use Rattle.pgw_prog_script.specs.declared.relay_line.RelayLine.TheVariants as line
use Rattle.pgw_prog_script.specs.declared.relay_script.RelayScript.{RelayScript}
use Rattle.pgw_prog_script.specs.declared.relay_script.RelayPlace.{RelayPlace}
use Rattle.pgw_prog_script.specs.declared.relay_script.RelayPlace.TheVariants as place
use Rattle.pgw_prog_script.specs.Form.{Form}
use Rattle.pgw_prog_script.specs.Grammar.{IsScriptIn, IsFaultIn}
use Rattle.pgw_prog_script.specs.RelayLine.{relay_line_of}

abbrev pub relay_place : RelayLine → RelayPlace
relay_place (line.Cut n) = place.Cut
relay_place (line.Client bytes) = place.Client
relay_place (line.Server bytes) = place.Server
relay_place (line.Turns turns) = place.Turns

-- which kind of line may follow which
abbrev pub relay_follows : RelayPlace → RelayPlace → Bool
relay_follows place.Start place.Cut = true
relay_follows place.Cut place.Client = true
relay_follows place.Cut place.Server = true
relay_follows place.Cut place.Turns = true
relay_follows place.Client place.Client = true
relay_follows place.Client place.Server = true
relay_follows place.Client place.Turns = true
relay_follows place.Server place.Server = true
relay_follows place.Server place.Turns = true
relay_follows _ _ = false

-- a script ends behind its turns
abbrev pub relay_may_end : RelayPlace → Bool
relay_may_end place.Turns = true
relay_may_end _ = false

abbrev pub first_relay : RelayScript
first_relay = record { cut = 1; client = []; server = []; turns = [] }

-- what a line says is set, and bytes stand behind those of earlier lines of their side
abbrev pub with_relay_line : RelayScript → RelayLine → RelayScript
with_relay_line s (line.Cut n) = record s { cut = n }
with_relay_line s (line.Client bytes) = record s { client = s.client ++ bytes }
with_relay_line s (line.Server bytes) = record s { server = s.server ++ bytes }
with_relay_line s (line.Turns turns) = record s { turns = turns }

abbrev pub relay_form : Form RelayLine RelayPlace RelayScript
relay_form = record {
  line_of = relay_line_of;
  place_of = relay_place;
  may_follow = relay_follows;
  may_end = relay_may_end;
  start = place.Start;
  first = first_relay;
  with_line = with_relay_line;
}

-- the text is a relay script that says this
abbrev pub IsRelayScript : List ℕ → RelayScript → Type 0
IsRelayScript text script = IsScriptIn relay_form text script

-- the line n is the first of the text that is outside the grammar of relay scripts
abbrev pub IsRelayFault : List ℕ → ℕ → Type 0
IsRelayFault text n = IsFaultIn relay_form text n
