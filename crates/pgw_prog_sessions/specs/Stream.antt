-- The stream of `gen`: what a server sends in a session with one query that gives a number of rows.
use Rattle.std.specs.Prelude.{◌≡◌, ℕ, zero, suc, ◌+◌, ◌*◌, ◌%◌, pos, negsuc, List, [], ◌∷◌, ◌++◌, length, map, codes, decimal, Result, Ok}
use Rattle.pgw_types.specs.declared.error.PgWireError.{PgWireError}
use Rattle.pgw_wire.specs.Writing.{u32}
use Rattle.pgw_startup.specs.declared.authentication.Authentication.TheVariants as authentication
use Rattle.pgw_query.specs.declared.data.DataRow.{DataRow}
use Rattle.pgw_query.specs.declared.data.FieldDescription.{FieldDescription}
use Rattle.pgw_query.specs.declared.response.TransactionStatus.TheVariants as status
use Rattle.pgw_frontend.specs.Frontend.{both}
use Rattle.pgw_session.specs.Events.{Event, Sent, Got}
use Rattle.pgw_session.specs.Requests.{sends_of}
use Rattle.pgw_session.specs.Segments.{startup_message}
use Rattle.pgw_prog_sessions.specs.Summary.{gen_input, gen_query}
use Rattle.pgw_backend.specs.Backend.{backend_encoding}
use Rattle.pgw_backend.specs.declared.backend.PgWireBackendMessage.{PgWireBackendMessage as Backend}
use Rattle.pgw_backend.specs.declared.backend.PgWireBackendMessage.TheVariants as backend

-- ---- the numbers of the rows

abbrev pub next_number : ℕ → ℕ
next_number x = (x * 1103515245 + 12345) % 2147483648

-- so many, of which each follows the one before
abbrev pub numbers_behind : ℕ → ℕ → List ℕ
numbers_behind zero x = []
numbers_behind (suc n) x = next_number x ∷ numbers_behind n (next_number x)

unfoldable pub numbers : ℕ → ℕ → List ℕ
numbers count start = numbers_behind count (start % 2147483648)

-- ---- the messages

-- one field, the number in decimal
abbrev pub row_of : ℕ → DataRow
row_of x = record { field_count = pos 1; payload = u32 (length (decimal x)) ++ decimal x }

abbrev pub gen_rows : ℕ → ℕ → List DataRow
gen_rows count start = map row_of (numbers count start)

-- the column n, of the type int4
abbrev pub column : FieldDescription
column =
    record {
      name = codes "n";
      table_id = pos 0;
      column_id = pos 0;
      type_id = 23;
      type_size = pos
          4;
      type_modifier = negsuc 0;
      format_code = pos 0;
    }

abbrev pub stream_ready : Backend
stream_ready = backend.ReadyForQuery (record { status = status.Idle })

abbrev pub complete : ℕ → Backend
complete count = backend.CommandComplete (record { tag = codes "SELECT " ++ decimal count })

-- the server asks for no login
abbrev pub greeting : List Backend
greeting = backend.Authentication authentication.Ok ∷ stream_ready ∷ []

abbrev pub description : Backend
description = backend.RowDescription (record { fields = column ∷ [] })

-- what stands before the rows of the one result, and what behind them
abbrev pub before_rows : List Backend
before_rows = backend.Authentication authentication.Ok ∷ stream_ready ∷ description ∷ []

abbrev pub stream_end : ℕ → List Backend
stream_end count = complete count ∷ stream_ready ∷ []

abbrev pub messages : ℕ → ℕ → List Backend
messages count start =
    before_rows ++ (map backend.DataRow (gen_rows count start) ++ stream_end count)

-- ---- the session

-- what the server answers to the query
abbrev pub answer : ℕ → List DataRow → List Backend
answer count rows = description ∷ (map backend.DataRow rows ++ stream_end count)

abbrev pub startup_events : List ℕ → List Event
startup_events nonce = Sent (startup_message (gen_input nonce)) ∷ map Got greeting

abbrev pub query_events : ℕ → List DataRow → List Event
query_events count rows = map Sent (sends_of gen_query) ++ map Got (answer count rows)

-- the client logs in, and makes its one query
abbrev pub gen_segments : List ℕ → ℕ → ℕ → List (List Event)
gen_segments nonce count start =
    startup_events nonce ∷ query_events count (gen_rows count start) ∷ []

-- ---- the bytes

-- the encodings of some messages, one behind the other, where each has one
abbrev pub stream_encodings : List Backend → Result (List ℕ) PgWireError
stream_encodings [] = Ok []
stream_encodings (m ∷ ms) = both (backend_encoding m) (stream_encodings ms)

-- the message is encoded, where memory does not run out
abbrev pub HasEncoding : Backend → Type 0
HasEncoding m = (bytes : List ℕ) × (backend_encoding m ≡ Ok bytes)

abbrev pub IsStream : ℕ → ℕ → List ℕ → Type 0
IsStream count start bytes = stream_encodings (messages count start) ≡ Ok bytes

-- the encodings of these messages were appended
abbrev pub PutsEncodings : List Backend → List ℕ → List ℕ → Type 0
PutsEncodings ms old new =
    (bytes : List ℕ) × (stream_encodings ms ≡ Ok bytes) × (new ≡ old ++ bytes)
