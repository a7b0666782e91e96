-- The lines of a pool script: what each says. A line is a word, a space and a value; `lend` is a word alone.
use Rattle.std.specs.Prelude.{ℕ, ◌<◌, nat_eq, List, codes, Option, Some, None, if◌then◌else◌}
use Rattle.std.specs.Cmp.Lexicographic.{pointwise}
use Rattle.pgw_types.specs.Marks.{behind_word}
use Rattle.pgw_session.specs.declared.types.Request.TheVariants as request
use Rattle.pgw_prog_script.specs.Line.{script_number, nonce_in, cut_in, bytes_in}
use Rattle.pgw_prog_script.specs.RequestLine.{make_line, behind_or, next_value, then_value, text_in}
use Rattle.pgw_prog_script.specs.declared.pool_line.PoolCall.{PoolCall}
use Rattle.pgw_prog_script.specs.declared.pool_line.PoolCall.TheVariants as call
use Rattle.pgw_prog_script.specs.declared.pool_line.PoolLine.{PoolLine}
use Rattle.pgw_prog_script.specs.declared.pool_line.PoolLine.TheVariants as line

-- LEASE SQL: a simple query in the lease with this number
abbrev pub run_by : Option ℕ → Option (List ℕ) → Option PoolCall
run_by (Some lease) (Some sql) = Some (call.Run lease (request.Simple sql))
run_by _ _ = None

unfoldable pub run_in : List ℕ → Option PoolCall
run_in text =
    then_value (next_value text) (λ lease sql. run_by (script_number lease) (text_in sql))

-- lend, run LEASE SQL, or back LEASE
unfoldable pub call_in : List ℕ → Option PoolCall
call_in bytes =
    if pointwise nat_eq bytes (codes "lend") then Some call.Lend else
    behind_or (behind_word (codes "run ") bytes) run_in
    (behind_or (behind_word (codes "back ") bytes) (λ v. make_line call.Back (script_number v))
    None)

-- server HEX, or a call
unfoldable pub behind_settings : List ℕ → Option PoolLine
behind_settings bytes =
    behind_or (behind_word (codes "server ") bytes) (λ v. make_line line.Server (bytes_in v))
    (make_line line.Call (call_in bytes))

-- config TEXT, nonce HEX, limit N, cut N, or another line
unfoldable pub pool_line_of : List ℕ → Option PoolLine
pool_line_of bytes =
    behind_or (behind_word (codes "config ") bytes) (λ v. make_line line.Config (text_in v))
    (behind_or (behind_word (codes "nonce ") bytes) (λ v. make_line line.Nonce (nonce_in v))
    (behind_or (behind_word (codes "limit ") bytes) (λ v. make_line line.Limit (script_number v))
    (behind_or (behind_word (codes "cut ") bytes) (λ v. make_line line.Cut (cut_in v))
    (behind_settings bytes))))

-- a cut lets a call move a byte
abbrev pub MovesPool : PoolLine → Type 0
MovesPool (line.Cut n) = 0 < n
MovesPool _ = Unit {0}
