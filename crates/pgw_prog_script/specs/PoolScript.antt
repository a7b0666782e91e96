-- Pool scripts: which lines may follow one another, and what they say together.
use Rattle.std.specs.Prelude.{ℕ, ◌+◌, List, [], ◌∷◌, ◌++◌, length, Bool, true, false}
use Rattle.pgw_prog_script.specs.declared.pool_line.PoolLine.{PoolLine}
use Rattle.pgw_prog_script.specs.declared.pool_line.PoolLine.TheVariants as line
use Rattle.pgw_prog_script.specs.declared.pool_script.PoolScript.{PoolScript}
use Rattle.pgw_prog_script.specs.declared.pool_script.PoolPlace.{PoolPlace}
use Rattle.pgw_prog_script.specs.declared.pool_script.PoolPlace.TheVariants as place
use Rattle.pgw_prog_script.specs.Form.{Form}
use Rattle.pgw_prog_script.specs.Grammar.{IsScriptIn, IsFaultIn}
use Rattle.pgw_prog_script.specs.PoolLine.{pool_line_of}

abbrev pub pool_place : PoolLine → PoolPlace
pool_place (line.Config text) = place.Config
pool_place (line.Nonce n) = place.Nonce
pool_place (line.Limit n) = place.Limit
pool_place (line.Cut n) = place.Cut
pool_place (line.Server bytes) = place.Server
pool_place (line.Call c) = place.Call

-- which kind of line may follow which
abbrev pub pool_follows : PoolPlace → PoolPlace → Bool
pool_follows place.Start place.Config = true
pool_follows place.Config place.Nonce = true
pool_follows place.Nonce place.Limit = true
pool_follows place.Limit place.Cut = true
pool_follows place.Cut place.Server = true
pool_follows place.Server place.Server = true
pool_follows place.Server place.Call = true
pool_follows place.Call place.Call = true
pool_follows _ _ = false

-- a script has one server's line or more
abbrev pub pool_may_end : PoolPlace → Bool
pool_may_end place.Server = true
pool_may_end place.Call = true
pool_may_end _ = false

abbrev pub first_pool : PoolScript
first_pool = record {
  config = [];
  nonce = 0 ∷ 0 ∷ 0 ∷ 0 ∷ 0 ∷ 0 ∷ 0 ∷ 0 ∷ 0 ∷ 0 ∷ 0 ∷ 0 ∷ 0 ∷ 0 ∷ 0 ∷ 0 ∷ 0 ∷ 0 ∷ [];
  limit = 0;
  cut = 1;
  servers = [];
  calls = [];
}

-- what a line says is set, or stands behind what earlier lines of its kind said
abbrev pub with_pool_line : PoolScript → PoolLine → PoolScript
with_pool_line s (line.Config text) = record s { config = text }
with_pool_line s (line.Nonce n) = record s { nonce = n }
with_pool_line s (line.Limit n) = record s { limit = n }
with_pool_line s (line.Cut n) = record s { cut = n }
with_pool_line s (line.Server bytes) = record s { servers = s.servers ++ bytes ∷ [] }
with_pool_line s (line.Call c) = record s { calls = s.calls ++ c ∷ [] }

abbrev pub pool_form : Form PoolLine PoolPlace PoolScript
pool_form = record {
  line_of = pool_line_of;
  place_of = pool_place;
  may_follow = pool_follows;
  may_end = pool_may_end;
  start = place.Start;
  first = first_pool;
  with_line = with_pool_line;
}

-- the text is a pool script that says this
abbrev pub IsPoolScript : List ℕ → PoolScript → Type 0
IsPoolScript text script = IsScriptIn pool_form text script

-- the line n is the first of the text that is outside the grammar of pool scripts
abbrev pub IsPoolFault : List ℕ → ℕ → Type 0
IsPoolFault text n = IsFaultIn pool_form text n

-- how many lines stand before the calls: config, nonce, limit and cut, and one for each server
abbrev pub lines_before_calls : PoolScript → ℕ
lines_before_calls s = 4 + length s.servers
