-- The stream as encodings, and the spellings that it is cut into.
use Rattle.std.proofs.Common.{◌≡◌, ◌≤◌, ◌<◌, ◌^◌, ◌%◌, ◌==◌, false, get_or, inl, inr, ℕ, zero, suc, ◌+◌, List, [], ◌∷◌, ◌++◌, length, map, codes, decimal, None, Result, Ok, Err, refl, ap, sym, ◌∙◌, arith, append_assoc, length-append}
use Rattle.std.proofs.lemmas.Int.{ints}
use Rattle.std.specs.Prelude.{pos, IsUtf8}
use Rattle.std.specs.Int.{w32, to_be_bytes}
use Rattle.std.proofs.lemmas.List.{append-nil, map-append}
use Rattle.std.specs.Str.{IsAscii}
use Rattle.std.proofs.lemmas.Str.{IsUtf8-append, IsUtf8-from_ascii}
use Rattle.std.proofs.lemmas.Str.Ascii.{IsAscii-nil}
use Rattle.std.proofs.lemmas.Fmt.{IsAscii-decimal, decimal_is_IsNumeral, length-decimal-le}
use Rattle.std.proofs.lemmas.Bool.{le-ltb}
use Rattle.std.proofs.lemmas.Bool.Decides.{eqb_tells}
use Rattle.std.proofs.lemmas.Grind.{get_or_default_zero}
use Rattle.std.proofs.lemmas.List.Folds.{list_any_none}
use Rattle.std.proofs.lemmas.Str.Parse.{digit_at}
use Rattle.pgw_types.specs.declared.error.PgWireError.{PgWireError}
use Rattle.pgw_types.specs.declared.context.ProtocolVersion.{ProtocolVersion}
use Rattle.pgw_wire.specs.declared.framing.Framing.TheVariants.{Typed}
use Rattle.pgw_wire.specs.Framing.{encoded, saturated}
use Rattle.pgw_wire.specs.Reading.{◌>>=◌}
use Rattle.pgw_wire.specs.Writing.{has_zero, i16, i32, refused_if, text, u16, u32}
use Rattle.pgw_startup.specs.declared.authentication.Authentication.TheVariants as authentication
use Rattle.pgw_query.specs.Sound.{IsField}
use Rattle.pgw_frontend.specs.Frontend.{both}
use Rattle.pgw_backend.specs.Backend.{backend_encoding}
use Rattle.pgw_backend.specs.Front.{AwaitsBackend, Spells, SpellsIn, typed_phase}
use Rattle.pgw_backend.specs.Texts.{IsSound, Suits}
use Rattle.pgw_backend.specs.declared.backend.PgWireBackendMessage.{PgWireBackendMessage as Backend}
use Rattle.pgw_backend.specs.declared.backend.PgWireBackendMessage.TheVariants as backend
use Rattle.pgw_backend.proofs.BackendWritten.{backend_written}
use Rattle.pgw_session.specs.declared.standing.Standing.{Standing}
use Rattle.pgw_session.specs.Events.{Got}
use Rattle.pgw_session.specs.Standings.{standing_by}
use Rattle.pgw_session.specs.Transcript.{SpellsGot}
use Rattle.pgw_prog_sessions.specs.Stream.{HasEncoding, IsStream, PutsEncodings, before_rows, column, complete, description, stream_encodings, stream_end, messages, next_number, numbers, numbers_behind, stream_ready, row_of, gen_rows}

-- ---- encodings

-- two encodings make one, where both are there
both_parts : (a b : Result (List ℕ) PgWireError) (bytes : List ℕ) → both a b ≡ Ok bytes
    → (x y : List ℕ) × (a ≡ Ok x) × (b ≡ Ok y) × (bytes ≡ x ++ y)
both_parts (Ok x) (Ok y) bytes is = (x, y, refl, refl, cc)
both_parts (Ok x) (Err e) bytes is = absurd cc
both_parts (Err e) b bytes is = absurd cc

-- messages behind others
encodings_behind : (ms ns : List Backend) (x y : List ℕ) → stream_encodings ms ≡ Ok x → stream_encodings ns ≡ Ok y
    → stream_encodings (ms ++ ns) ≡ Ok (x ++ y)
encodings_behind [] ns x y one two = let none : [] ≡ x = cc in two ∙ ap (λ (l : List ℕ). Ok (l ++ y)) none
encodings_behind (m ∷ ms) ns x y one two =
    let p = both_parts (backend_encoding m) (stream_encodings ms) x one in
    rw (p.2, encodings_behind ms ns p.1 y p.3 two) (ap Ok (sym (append_assoc p.0 p.1 y)
    ∙ ap (λ (l : List ℕ). l ++ y) (sym p.4)))

pub puts_none : (old : List ℕ) → PutsEncodings [] old old
puts_none old = ([], refl, sym (append-nil old))

pub puts_on : (ms ns : List Backend) (old mid new : List ℕ) → PutsEncodings ms old mid → PutsEncodings ns mid new
    → PutsEncodings (ms ++ ns) old new
puts_on ms ns old mid new one two = (
  one.0 ++ two.0,
  encodings_behind ms ns one.0 two.0 one.1 two.1,
  two.2 ∙ ap (λ (l : List ℕ). l ++ two.0) one.2
      ∙ append_assoc old one.0 two.0,
)

put_by : (r : Result (List ℕ) PgWireError) (old new : List ℕ) → (r >>= (λ b. Ok (old ++ b))) ≡ Ok new
    → (bytes : List ℕ) × (both r (Ok []) ≡ Ok bytes) × (new ≡ old ++ bytes)
put_by (Ok b) old new is = (b, ap Ok (append-nil b), cc)
put_by (Err e) old new is = absurd cc

-- one message was encoded
pub puts_one : (m : Backend) (old new : List ℕ) → (backend_encoding m >>= (λ b. Ok (old ++ b))) ≡ Ok new
    → PutsEncodings (m ∷ []) old new
puts_one m old new is = put_by (backend_encoding m) old new is

-- ---- a row

abbrev pub row_bytes : List ℕ → List ℕ
row_bytes digits =
    68 ∷ (to_be_bytes w32 (length digits + 10) ++ (0 ∷ 1 ∷ (to_be_bytes w32 (length digits) ++ digits)))

encoded_within : (byte limit : ℕ) (body : List ℕ) → length body + 4 ≤ limit
    → encoded (Typed byte) limit None body ≡ Ok (byte ∷ (to_be_bytes w32 (length body + 4) ++ body))
unfolding encoded
encoded_within byte limit body fits =
    let within : saturated (length body + 4) ≤ limit = omega (arith, fits) in
    rw (le-ltb limit (saturated (length body + 4)) within) refl

pub row_encoded : (digits : List ℕ) → length digits ≤ 20
    → backend_encoding (backend.DataRow (record { field_count = pos 1; payload = u32 (length digits) ++ digits }))
    ≡ Ok (row_bytes digits)
unfolding backend_encoding i16 u32
row_encoded digits small =
    let e =
    encoded_within 68 2147483647 (i16 (pos 1) ++ (u32 (length digits) ++ digits)) (omega (arith, small)) in
    let size : length (i16 (pos 1) ++ (u32 (length digits) ++ digits)) + 4 ≡ length digits + 10 = omega arith in
    e ∙ ap (λ n. Ok (68 ∷ (to_be_bytes w32 n ++ (i16 (pos 1) ++ (u32 (length digits) ++ digits))))) size

-- a row was put behind some bytes
pub puts_row : (x : ℕ) (old new : List ℕ) → x < 2 ^ 32 → new ≡ old ++ row_bytes (decimal x)
    → PutsEncodings (backend.DataRow (row_of x) ∷ []) old new
puts_row x old new small are =
    let len : length (decimal x) ≤ 10 =
    length-decimal-le 10 x (omega arith) (omega (arith, small)) (omega (arith, small)) in
    let e = row_encoded (decimal x) (omega (arith, len)) in
    (row_bytes (decimal x), ap (λ r. both r (Ok [])) e ∙ ap Ok (append-nil (row_bytes (decimal x))), are)

row_joined : (old a b d : List ℕ)
    → (((old ++ 68 ∷ []) ++ a) ++ 0 ∷ 1 ∷ []) ++ (b ++ d) ≡ old ++ 68 ∷ (a ++ 0 ∷ 1 ∷ (b ++ d))
row_joined old a b d =
    append_assoc ((old ++ 68 ∷ []) ++ a) (0 ∷ 1 ∷ []) (b ++ d)
    ∙ append_assoc (old ++ 68 ∷ []) a (0 ∷ 1 ∷ (b ++ d)) ∙ append_assoc old (68 ∷ []) (a ++ 0 ∷ 1 ∷ (b ++ d))

-- the parts of a row, one behind the other
pub row_parts : (old a b d new : List ℕ) → new ≡ ((((old ++ 68 ∷ []) ++ a) ++ 0 ∷ 1 ∷ []) ++ b) ++ d
    → a ≡ to_be_bytes w32 (length d + 10) → b ≡ to_be_bytes w32 (length d) → new ≡ old ++ row_bytes d
row_parts old a b d new are head size =
    are ∙ append_assoc (((old ++ 68 ∷ []) ++ a) ++ 0 ∷ 1 ∷ []) b d ∙ row_joined old a b d ∙ rw (head, size) refl

-- one row more of those that are to be put
pub record PutSome (count before left number : ℕ) (old new : List ℕ) : Type 0 where
  done : List ℕ
  are : numbers_behind count before ≡ done ++ numbers_behind left number
  put : PutsEncodings (map backend.DataRow (map row_of done)) old new

pub put_none : (count before : ℕ) (old : List ℕ) → PutSome count before count before old old
put_none count before old = record { done = []; are = refl; put = puts_none old }

pub put_one : (count before left rest number next : ℕ) (old mid new : List ℕ)
    → PutSome count before left number old mid → left ≡ suc rest → next ≡ next_number number
    → PutsEncodings (backend.DataRow (row_of next) ∷ []) mid new → PutSome count before rest next old new
put_one count before left rest number next old mid new p more is one =
    let cut : numbers_behind left number ≡ next ∷ numbers_behind rest next = rw (more, is) refl in
    record {
      done = p.done ++ next ∷ [];
      are = p.are ∙ ap (λ (l : List ℕ). p.done ++ l) cut
          ∙ sym (append_assoc p.done (next ∷ []) (numbers_behind rest next));
      put = rw (
        map-append row_of p.done (next ∷ []),
        map-append backend.DataRow (map row_of p.done)
            (row_of next ∷ []),
      ) (puts_on (map backend.DataRow (map row_of p.done))
          (backend.DataRow (row_of next) ∷ []) old mid new p.put one);
    }

pub put_all : (count before number : ℕ) (old new : List ℕ) → PutSome count before 0 number old new
    → PutsEncodings (map backend.DataRow (map row_of (numbers_behind count before))) old new
put_all count before number old new p = rw (p.are ∙ append-nil p.done) p.put

-- ---- what stands around the rows has encodings

pub greeting_encodes : HasEncoding (backend.Authentication authentication.Ok)
unfolding backend_encoding encoded u32
greeting_encodes = (_, refl)

pub ready_encodes : HasEncoding stream_ready
unfolding backend_encoding encoded
ready_encodes = (_, refl)

pub description_encodes : HasEncoding description
unfolding backend_encoding encoded refused_if text i16 i32 u16 u32
description_encodes = (_, refl)

digits_clean : (n : ℕ) → n < 2 ^ 64 → has_zero (decimal n) ≡ false
digits_clean n small =
    let digits = (decimal_is_IsNumeral n small).0.1 in
    list_any_none (λ b. b == 0) (decimal n)
    (λ k d lt. by (get_or (decimal n) k d)
    (omega (arith, digit_at (decimal n) k digits lt, get_or_default_zero (decimal n) k d lt)))
  where
    by : (b : ℕ) → 0 < b → (b == 0) ≡ false
    by b more = elim (eqb_tells b 0) [
      | inl w ↦ absurd (omega (arith, more, w.1))
      | inr w ↦ w.0
    ]

pub complete_encodes : (count : ℕ) → count < 2 ^ 32 → HasEncoding (complete count)
unfolding backend_encoding refused_if text
complete_encodes count small =
    let tag = codes "SELECT " ++ decimal count in
    let len : length (decimal count) ≤ 10 =
    length-decimal-le 10 count (omega arith) (omega (arith, small)) (omega (arith, small)) in (
      _,
      ap (λ b. encoded (Typed 67) 30000 (refused_if b) (text tag)) (digits_clean count (omega (arith, small)))
          ∙ encoded_within 67 30000 (text tag) (omega (arith, length-append (decimal count) (0 ∷ []), len)),
    )

-- ---- spellings

-- a message whose bytes hang on no version, and that comes where each has a type byte
pub record IsPlain (m : Backend) : Type 0 where
  sound : IsSound m
  suits : (v : ProtocolVersion) → Suits v m
  awaits : (v : ProtocolVersion) → AwaitsBackend (typed_phase v) m

abbrev pub ArePlain : List Backend → Type 0
ArePlain [] = Unit {0}
ArePlain (m ∷ ms) = IsPlain m × ArePlain ms

plain_spells : (v : ProtocolVersion) (m : Backend) (bytes : List ℕ) → IsPlain m → backend_encoding m ≡ Ok bytes
    → Spells v m bytes
unfolding SpellsIn
plain_spells v m bytes p is = (p.awaits v, backend_written v m bytes p.sound (p.suits v) is)

pub all_spelled : (s : Standing) (ms : List Backend) (bytes : List ℕ) → ArePlain ms
    → stream_encodings ms ≡ Ok bytes → SpellsGot s (map Got ms) bytes
all_spelled s [] bytes p is = cc
all_spelled s (m ∷ ms) bytes p is =
    let parts = both_parts (backend_encoding m) (stream_encodings ms) bytes is in (
      parts.0,
      parts.1,
      parts.4,
      plain_spells s.version m parts.0 p.0 parts.2,
      all_spelled (standing_by s m) ms
          parts.1 p.1 parts.3,
    )

plain_on : (ms ns : List Backend) → ArePlain ms → ArePlain ns → ArePlain (ms ++ ns)
plain_on [] ns p q = q
plain_on (m ∷ ms) ns p q = (p.0, plain_on ms ns p.1 q)

rows_plain : (count x : ℕ) → ArePlain (map backend.DataRow (map row_of (numbers_behind count x)))
rows_plain zero x = tt
rows_plain (suc n) x =
    (record { sound = omega (arith, ints); suits = λ v. tt; awaits = λ v. (refl, refl) }, rows_plain n _)

ascii_cons : (b : ℕ) (bs : List ℕ) → b < 128 → IsAscii bs → IsAscii (b ∷ bs)
ascii_cons b bs small rest zero = small
ascii_cons b bs small rest (suc i) = rest i

select_ascii : IsAscii (83 ∷ 69 ∷ 76 ∷ 69 ∷ 67 ∷ 84 ∷ 32 ∷ [])
select_ascii =
    ascii_cons 83 (69 ∷ 76 ∷ 69 ∷ 67 ∷ 84 ∷ 32 ∷ []) (omega arith)
    (ascii_cons 69 (76 ∷ 69 ∷ 67 ∷ 84 ∷ 32 ∷ []) (omega arith)
    (ascii_cons 76 (69 ∷ 67 ∷ 84 ∷ 32 ∷ []) (omega arith)
    (ascii_cons 69 (67 ∷ 84 ∷ 32 ∷ []) (omega arith)
    (ascii_cons 67 (84 ∷ 32 ∷ []) (omega arith)
    (ascii_cons 84 (32 ∷ []) (omega arith) (ascii_cons 32 [] (omega arith) IsAscii-nil))))))

tag_text : (count : ℕ) → count < 2 ^ 64 → IsUtf8 (codes "SELECT " ++ decimal count)
tag_text count small =
    IsUtf8-append (codes "SELECT ") (decimal count) (IsUtf8-from_ascii (codes "SELECT ") select_ascii)
    (IsUtf8-from_ascii (decimal count) (IsAscii-decimal count small))

plain_greeting : IsPlain (backend.Authentication authentication.Ok)
plain_greeting = record { sound = tt; suits = λ v. tt; awaits = λ v. (refl, refl) }

plain_ready : IsPlain stream_ready
plain_ready = record { sound = tt; suits = λ v. tt; awaits = λ v. (refl, refl) }

column_sound : IsField column
column_sound =
    record {
      name = IsUtf8-from_ascii (110 ∷ []) (ascii_cons 110 [] (omega arith) IsAscii-nil);
      table_id = omega
          (arith, ints);
      column_id =
          omega (arith, ints);
      type_id =
          omega arith;
      type_size =
          omega (arith, ints);
      type_modifier = omega (arith, ints);
      format_code = omega (arith, ints);
    }

plain_description : IsPlain description
plain_description = record { sound = (column_sound, tt); suits = λ v. tt; awaits = λ v. (refl, refl) }

plain_complete : (count : ℕ) → count < 2 ^ 64 → IsPlain (complete count)
plain_complete count small = record { sound = tag_text count small; suits = λ v. tt; awaits = λ v. (refl, refl) }

beginning_plain : ArePlain before_rows
beginning_plain = (plain_greeting, (plain_ready, (plain_description, tt)))

end_plain : (count : ℕ) → count < 2 ^ 64 → ArePlain (stream_end count)
end_plain count small = (plain_complete count small, (plain_ready, tt))

pub stream_plain : (count start : ℕ) → count < 2 ^ 64 → ArePlain (messages count start)
unfolding numbers
stream_plain count start small =
    plain_on before_rows (map backend.DataRow (gen_rows count start) ++ stream_end count) beginning_plain
    (plain_on (map backend.DataRow (gen_rows count start)) (stream_end count)
    (rows_plain count (start % 2147483648)) (end_plain count small))

-- ---- the whole

pub stream_put : (count start : ℕ) (one two bytes : List ℕ) → PutsEncodings before_rows [] one
    → PutsEncodings (map backend.DataRow (map row_of (numbers_behind count (start % 2147483648)))) one two
    → PutsEncodings (stream_end count) two bytes → IsStream count start bytes
unfolding numbers
stream_put count start one two bytes a b c =
    let rows = map backend.DataRow (gen_rows count start) in
    let all =
    puts_on before_rows (rows ++ stream_end count) [] one bytes a
    (puts_on rows (stream_end count) one two bytes b c) in
    all.1 ∙ ap Ok (sym all.2)
