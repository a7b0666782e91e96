-- Messages that are passed on without values being made of them: they are seen to be well formed,
-- and leave the context as it is. The proofs carry it, and no public clause cites it.
use Rattle.std.specs.Prelude.{◌≡◌, ◌≤◌, ◌<◌, ◌+◌, ℕ, Bool, false, List, [], ◌∷◌, ◌++◌, length, take}
use Rattle.std.specs.Prelude.{drop, Option, Some, None, Ok}
use Rattle.std.specs.Int.{w32}
use Rattle.pgw_wire.specs.Formats.{SpellsNat}
use Rattle.pgw_wire.specs.Writing.{has_zero}
use Rattle.pgw_query.specs.declared.data.FieldDescription.{FieldDescription}
use Rattle.pgw_query.specs.declared.data.RowDescription.{RowDescription}
use Rattle.pgw_query.specs.Rows.{SpellsField, SpellsRowDescription}
use Rattle.pgw_proxy.specs.declared.context.Context.{Context}
use Rattle.pgw_proxy.specs.declared.recorded.Side.{Side}
use Rattle.pgw_proxy.specs.declared.recorded.Recorded.{Recorded}
use Rattle.pgw_proxy.specs.Fronts.{side_front}
use Rattle.pgw_proxy.specs.Taking.{RelaysUpTo}

-- each message has a type byte, and no answer to a request for encryption is due
pub record IsSettled (c : Context) : Type 0 where
  pub ssl : c.decode.awaiting_frontend_ssl ≡ false
  pub startup : c.decode.awaiting_frontend_startup ≡ false
  pub ssl_answer : c.decode.awaiting_backend_ssl_response ≡ false
  pub gss_answer : c.decode.awaiting_backend_gss_response ≡ false

-- ---- bodies

-- a text, up to the zero byte behind it
pub record IsZeroEnded (bytes : List ℕ) : Type 0 where
  pub raw : List ℕ
  pub whole : bytes ≡ raw ++ 0 ∷ []
  pub none : has_zero raw ≡ false

-- a column of a RowDescription stands at the front, up to there
abbrev pub ColumnTo : List ℕ → Option ℕ → Type 0
ColumnTo bytes None = Unit {0}
ColumnTo bytes (Some end) = (0 < end) × (end ≤ length bytes)
    × (f : FieldDescription) × SpellsField f (take end bytes)

abbrev pub ArePlainColumns : List ℕ → Type 0
ArePlainColumns body = (m : RowDescription) × SpellsRowDescription m body

-- ---- messages

-- the bytes are a message, whatever follows them, and the context stays
pub record IsPlain (side : Side) (c : Context) (g : List ℕ) : Type 0 where
  pub message : Recorded
  pub found : (more : List ℕ) → side_front side c (g ++ more) ≡ Ok (Some (message, (more, c)))

-- with this type byte, its length, and this body
abbrev pub IsPlainBody : Side → Context → ℕ → List ℕ → Type 0
IsPlainBody side c kind body = (head : List ℕ) → SpellsNat w32 (length body + 4) head
    → IsPlain side c (kind ∷ (head ++ body))

-- in each settled context, behind a ReadyForQuery or before one
abbrev pub IsPlainKind : Side → Bool → ℕ → List ℕ → Type 0
IsPlainKind side ready kind body =
    (c : Context) → IsSettled c → c.ready ≡ ready → IsPlainBody side c kind body

-- one stands at the front, up to there
abbrev pub PlainTo : Side → Bool → List ℕ → Option ℕ → Type 0
PlainTo side ready bytes None = Unit {0}
PlainTo side ready bytes (Some end) = (0 < end) × (end ≤ length bytes) × (end < 2147483649)
    × ((c : Context) → IsSettled c → c.ready ≡ ready → IsPlain side c (take end bytes))

-- ---- passing them on

-- some messages at the front were passed on and recorded, whatever follows, and the context stays
abbrev pub PlainRuns : Side → Context → List ℕ → List ℕ → List ℕ → List ℕ → List ℕ → List ℕ
    → Type 0
PlainRuns side c bytes left out_old out_new tape_old tape_new =
    (more : List ℕ)
    → RelaysUpTo side c (bytes ++ more) c (left ++ more) out_old out_new tape_old tape_new

-- they were recorded, so many bytes in all
abbrev pub Tapes : Side → Bool → List ℕ → ℕ → List ℕ → List ℕ → Type 0
Tapes side ready bytes n tape_old tape_new =
    (c : Context) → IsSettled c → c.ready ≡ ready
    → PlainRuns side c bytes (drop n bytes) [] (take n bytes) tape_old tape_new

-- some were passed on and recorded, and then memory was wanting
abbrev pub BreaksRelay : Side → Context → List ℕ → List ℕ → List ℕ → List ℕ → List ℕ → Type 0
BreaksRelay side c bytes out_old out_new tape_old tape_new =
    (left : List ℕ) × RelaysUpTo side c bytes c left out_old out_new tape_old tape_new
