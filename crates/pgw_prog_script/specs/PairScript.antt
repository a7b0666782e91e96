-- Pair scripts: which lines may follow one another, and what they say together.
use Rattle.std.specs.Prelude.{ℕ, List, [], ◌∷◌, ◌++◌, Bool, true, false, Some, None}
use Rattle.pgw_prog_script.specs.declared.pair_line.PairLine.{PairLine}
use Rattle.pgw_prog_script.specs.declared.pair_line.PairLine.TheVariants as line
use Rattle.pgw_prog_script.specs.declared.pair_script.PairScript.{PairScript}
use Rattle.pgw_prog_script.specs.declared.pair_script.PairPlace.{PairPlace}
use Rattle.pgw_prog_script.specs.declared.pair_script.PairPlace.TheVariants as place
use Rattle.pgw_prog_script.specs.Form.{Form}
use Rattle.pgw_prog_script.specs.Grammar.{IsScriptIn, IsFaultIn}
use Rattle.pgw_prog_script.specs.PairLine.{pair_line_of}

abbrev pub pair_place : PairLine → PairPlace
pair_place (line.User text) = place.User
pair_place (line.Password text) = place.Password
pair_place (line.Stored text) = place.Stored
pair_place (line.Salt salt) = place.Salt
pair_place (line.Count n) = place.Count
pair_place (line.Client nonce) = place.Client
pair_place (line.Server nonce) = place.Server
pair_place (line.Words words) = place.Words
pair_place (line.ClientHash hash) = place.ClientHash
pair_place (line.ServerHash hash) = place.ServerHash
pair_place (line.Event e) = place.Event

-- which kind of line may follow which
abbrev pub pair_follows : PairPlace → PairPlace → Bool
pair_follows place.Start place.User = true
pair_follows place.User place.Password = true
pair_follows place.Password place.Stored = true
pair_follows place.Stored place.Salt = true
pair_follows place.Salt place.Count = true
pair_follows place.Count place.Client = true
pair_follows place.Client place.Server = true
pair_follows place.Server place.Words = true
pair_follows place.Words place.ClientHash = true
pair_follows place.Words place.ServerHash = true
pair_follows place.Words place.Event = true
pair_follows place.ClientHash place.ServerHash = true
pair_follows place.ClientHash place.Event = true
pair_follows place.ServerHash place.Event = true
pair_follows place.Event place.Event = true
pair_follows _ _ = false

-- behind which kind of line a script may end
abbrev pub pair_may_end : PairPlace → Bool
pair_may_end place.Words = true
pair_may_end place.ClientHash = true
pair_may_end place.ServerHash = true
pair_may_end place.Event = true
pair_may_end _ = false

abbrev pub first_pair : PairScript
first_pair = record {
  user = [];
  password = [];
  stored = [];
  salt = [];
  count = 1;
  client_nonce = 0 ∷ 0 ∷ 0 ∷ 0 ∷ 0 ∷ 0 ∷ 0 ∷ 0 ∷ 0 ∷ 0 ∷ 0 ∷ 0 ∷ 0 ∷ 0 ∷ 0 ∷ 0 ∷ 0 ∷ 0 ∷ [];
  server_nonce = 0 ∷ 0 ∷ 0 ∷ 0 ∷ 0 ∷ 0 ∷ 0 ∷ 0 ∷ 0 ∷ 0 ∷ 0 ∷ 0 ∷ 0 ∷ 0 ∷ 0 ∷ 0 ∷ 0 ∷ 0 ∷ [];
  words =
      0 ∷ 0 ∷ 0 ∷ 0 ∷ 0 ∷ 0 ∷ 0 ∷ 0 ∷ 0 ∷ 0 ∷ 0 ∷ 0 ∷ 0 ∷ 0 ∷ 0 ∷ 0
      ∷ 0 ∷ 0 ∷ 0 ∷ 0 ∷ 0 ∷ 0 ∷ 0 ∷ 0 ∷ 0 ∷ 0 ∷ 0 ∷ 0 ∷ 0 ∷ 0 ∷ 0 ∷ 0 ∷ [];
  client_hash = None;
  server_hash = None;
  schedule = [];
}

-- what a line says is set, and an event stands behind those of earlier lines
abbrev pub with_pair_line : PairScript → PairLine → PairScript
with_pair_line s (line.User text) = record s { user = text }
with_pair_line s (line.Password text) = record s { password = text }
with_pair_line s (line.Stored text) = record s { stored = text }
with_pair_line s (line.Salt salt) = record s { salt = salt }
with_pair_line s (line.Count n) = record s { count = n }
with_pair_line s (line.Client nonce) = record s { client_nonce = nonce }
with_pair_line s (line.Server nonce) = record s { server_nonce = nonce }
with_pair_line s (line.Words words) = record s { words = words }
with_pair_line s (line.ClientHash hash) = record s { client_hash = Some hash }
with_pair_line s (line.ServerHash hash) = record s { server_hash = Some hash }
with_pair_line s (line.Event e) = record s { schedule = s.schedule ++ e ∷ [] }

abbrev pub pair_form : Form PairLine PairPlace PairScript
pair_form = record {
  line_of = pair_line_of;
  place_of = pair_place;
  may_follow = pair_follows;
  may_end = pair_may_end;
  start = place.Start;
  first = first_pair;
  with_line = with_pair_line;
}

-- the text is a pair script that says this
abbrev pub IsPairScript : List ℕ → PairScript → Type 0
IsPairScript text script = IsScriptIn pair_form text script

-- the line n is the first of the text that is outside the grammar of pair scripts
abbrev pub IsPairFault : List ℕ → ℕ → Type 0
IsPairFault text n = IsFaultIn pair_form text n
