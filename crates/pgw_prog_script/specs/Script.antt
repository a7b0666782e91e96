-- Session scripts: which lines may follow one another, and what they say together.
use Rattle.std.specs.Prelude.{ℕ, List, [], ◌∷◌, ◌++◌, Bool, true, false, Some, None}
use Rattle.pgw_types.specs.declared.context.ProtocolVersion.TheVariants as version
use Rattle.pgw_prog_script.specs.declared.line.Line.{Line}
use Rattle.pgw_prog_script.specs.declared.line.Line.TheVariants as line
use Rattle.pgw_prog_script.specs.declared.script.Script.{Script}
use Rattle.pgw_prog_script.specs.declared.script.Place.{Place}
use Rattle.pgw_prog_script.specs.declared.script.Place.TheVariants as place
use Rattle.pgw_prog_script.specs.Form.{Form}
use Rattle.pgw_prog_script.specs.Grammar.{IsScriptIn, IsFaultIn}
use Rattle.pgw_prog_script.specs.Line.{line_of_cut}

abbrev pub line_place : Line → Place
line_place (line.Config text) = place.Config
line_place (line.Protocol v) = place.Protocol
line_place (line.Certificate hash) = place.Certificate
line_place (line.Nonce n) = place.Nonce
line_place (line.Limit n) = place.Limit
line_place (line.Cut n) = place.Cut
line_place (line.FailRead n) = place.Fail
line_place (line.FailWrite n) = place.Fail
line_place (line.Request q) = place.Request
line_place (line.Server bs) = place.Server

-- which kind of line may follow which
abbrev pub may_follow : Place → Place → Bool
may_follow place.Start place.Config = true
may_follow place.Config place.Protocol = true
may_follow place.Config place.Certificate = true
may_follow place.Config place.Nonce = true
may_follow place.Protocol place.Certificate = true
may_follow place.Protocol place.Nonce = true
may_follow place.Certificate place.Nonce = true
may_follow place.Nonce place.Limit = true
may_follow place.Limit place.Cut = true
may_follow place.Cut place.Fail = true
may_follow place.Cut place.Request = true
may_follow place.Cut place.Server = true
may_follow place.Fail place.Fail = true
may_follow place.Fail place.Request = true
may_follow place.Fail place.Server = true
may_follow place.Request place.Request = true
may_follow place.Request place.Server = true
may_follow place.Server place.Server = true
may_follow _ _ = false

-- behind which kind of line a script may end
abbrev pub may_end : Place → Bool
may_end place.Cut = true
may_end place.Fail = true
may_end place.Request = true
may_end place.Server = true
may_end _ = false

abbrev pub first_script : Script
first_script = record {
  config = [];
  protocol_version = version.PROTOCOL3_0;
  certificate_hash = None;
  nonce = 0 ∷ 0 ∷ 0 ∷ 0 ∷ 0 ∷ 0 ∷ 0 ∷ 0 ∷ 0 ∷ 0 ∷ 0 ∷ 0 ∷ 0 ∷ 0 ∷ 0 ∷ 0 ∷ 0 ∷ 0 ∷ [];
  limit = 0;
  cut = 1;
  fail_reads = [];
  fail_writes = [];
  requests = [];
  server = [];
}

-- what a line says is set, or stands behind what earlier lines of its kind said
abbrev pub with_line : Script → Line → Script
with_line s (line.Config text) = record s { config = text }
with_line s (line.Protocol v) = record s { protocol_version = v }
with_line s (line.Certificate hash) = record s { certificate_hash = Some hash }
with_line s (line.Nonce n) = record s { nonce = n }
with_line s (line.Limit n) = record s { limit = n }
with_line s (line.Cut n) = record s { cut = n }
with_line s (line.FailRead n) = record s { fail_reads = s.fail_reads ++ n ∷ [] }
with_line s (line.FailWrite n) = record s { fail_writes = s.fail_writes ++ n ∷ [] }
with_line s (line.Request q) = record s { requests = s.requests ++ q ∷ [] }
with_line s (line.Server bs) = record s { server = s.server ++ bs }

abbrev pub session_form : Form Line Place Script
session_form = record {
  line_of = line_of_cut;
  place_of = line_place;
  may_follow = may_follow;
  may_end = may_end;
  start = place.Start;
  first = first_script;
  with_line = with_line;
}

-- the text is a session script that says this
abbrev pub IsScript : List ℕ → Script → Type 0
IsScript text script = IsScriptIn session_form text script

-- the line n is the first of the text that is outside the grammar of session scripts
abbrev pub IsFault : List ℕ → ℕ → Type 0
IsFault text n = IsFaultIn session_form text n
