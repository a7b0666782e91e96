-- What base64 writes is ASCII without a comma.
use Rattle.std.proofs.Common.{◌≡◌, ℕ, zero, suc, ◌/◌, ◌%◌, ◌*◌, ◌+◌, ◌==◌, nat_lt, true, not, List, [], ◌∷◌, ◌++◌, length, get_or, replicate, Some, refl, ◌∙◌}
use Rattle.std.specs.List.{list_all}
use Rattle.std.specs.Str.{IsUtf8, IsAscii}
use Rattle.std.proofs.lemmas.Bool.{and_parts, and_from, ltb-true}
use Rattle.std.proofs.lemmas.List.Folds.{list_all-append}
use Rattle.std.proofs.lemmas.Str.{IsUtf8-from_ascii}
use Rattle.std.proofs.lemmas.Str.Ascii.{IsAscii-nil, IsAscii-cons}
use Rattle.base64.specs.Engines.{standard}
use Rattle.base64.specs.GeneralPurpose.{encode_of, engine_symbols}
use Rattle.base64.specs.Rfc4648.{encode_symbols, padding_len}
use Rattle.base64.proofs.EngineFacts.{IsAscii-encode_of}
use Rattle.base64.proofs.OnLiterals.{base64_on_literals}
use Rattle.pgw_scram.specs.Attributes.{IsValue}
use Rattle.pgw_scram.specs.Base64.{base64, salt_of}

-- ---- ASCII

all_ascii : (text : List ℕ) → list_all (λ b. nat_lt b 128) text ≡ true → IsAscii text
all_ascii [] h = IsAscii-nil
all_ascii (b ∷ text) h =
    let q = and_parts (nat_lt b 128) (list_all (λ b. nat_lt b 128) text) h in
    IsAscii-cons b text (ltb-true b 128 q.0) (all_ascii text q.1)

pub ascii_utf8 : (text : List ℕ) → list_all (λ b. nat_lt b 128) text ≡ true → IsUtf8 text
ascii_utf8 text h = IsUtf8-from_ascii text (all_ascii text h)

-- ---- values

pub value_append : (xs ys : List ℕ) → IsValue xs → IsValue ys → IsValue (xs ++ ys)
value_append xs ys h k = list_all-append (λ b. not (b == 44)) xs ys ∙ and_from _ _ h k

symbol_at : (table : List ℕ) (i : ℕ) → IsValue table → not (get_or table i 0 == 44) ≡ true
symbol_at [] i h = refl
symbol_at (x ∷ table) zero h = (and_parts (not (x == 44)) (list_all (λ b. not (b == 44)) table) h).0
symbol_at (x ∷ table) (suc i) h =
    symbol_at table i (and_parts (not (x == 44)) (list_all (λ b. not (b == 44)) table) h).1

symbols_value : (table message : List ℕ) → IsValue table → IsValue (encode_symbols table message)
unfolding encode_symbols
symbols_value table [] h = refl
symbols_value table (a ∷ []) h = rw (symbol_at table (a / 4) h, symbol_at table (a % 4 * 16) h) refl
symbols_value table (a ∷ b ∷ []) h =
    rw (symbol_at table (a / 4) h, symbol_at table (a % 4 * 16 + b / 16) h, symbol_at table (b % 16 * 4) h) refl
symbols_value table (a ∷ b ∷ c ∷ rest) h =
    rw (
      symbol_at table (a / 4) h,
      symbol_at table (a % 4 * 16 + b / 16) h,
      symbol_at table (b % 16 * 4 + c / 64)
          h,
      symbol_at table (c % 64) h,
    ) (symbols_value table rest h)

padding_value : (n : ℕ) → IsValue (replicate n 61)
padding_value zero = refl
padding_value (suc n) = padding_value n

pub base64_value : (bytes : List ℕ) → IsValue (base64 bytes)
unfolding base64
base64_value bytes =
    value_append (encode_symbols (engine_symbols standard) bytes) (replicate (padding_len (length bytes)) 61)
    (symbols_value (engine_symbols standard) bytes refl) (padding_value (padding_len (length bytes)))

pub base64_utf8 : (bytes : List ℕ) → IsUtf8 (base64 bytes)
unfolding base64
base64_utf8 bytes = IsUtf8-from_ascii (encode_of standard bytes) (IsAscii-encode_of standard bytes)

-- the empty text is the empty salt
pub salt_of-nil : salt_of [] ≡ Some []
unfolding salt_of base64_on_literals
salt_of-nil = refl
