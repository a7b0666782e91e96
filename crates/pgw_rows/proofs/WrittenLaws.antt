-- What is written of a value is read as it.
use Rattle.std.proofs.Common.{◌≡◌, ℕ, ℤ, pos, negsuc, ◌<◌, ◌^◌, List, Option, Some, Ok, true, refl, ap, ◌∙◌, arith, to_z-of_z, FitsSigned, IsUtf8}
use Rattle.std.specs.Int.{w16, w32, w64, cast_unsigned, cast_signed}
use Rattle.std.specs.Fmt.{signed_decimal}
use Rattle.std.specs.Result.{result_ok}
use Rattle.std.specs.Str.{is_utf8}
use Rattle.std.proofs.lemmas.Nat.{from_be_bytes-to_be_bytes_2, from_be_bytes-to_be_bytes_4, from_be_bytes-to_be_bytes_8}
use Rattle.std.proofs.lemmas.Str.{is_utf8-from_IsUtf8}
use lib.Signed.{mag}
use Rattle.hex.specs.Hex.{IsBytes}
use Rattle.hex.proofs.HexLemmas.{decode_of-encode_lower}
use Rattle.pgw_query.specs.declared.pg_type.PgType.{PgType}
use Rattle.pgw_query.specs.declared.pg_type.PgType.TheVariants as types
use Rattle.pgw_rows.specs.Values.{integer_of_binary, integer_of_text, is_int2, is_int4, is_int8, or_bad_text, is_text, has_text, row_value_text, text_of_text, octets_of_text}
use Rattle.pgw_rows.specs.Written.{integer_binary, octets_text, IsReadBack}
use Rattle.pgw_rows.proofs.NumberLaws.{digits_are_read}

unsigned16 : (z : ℤ) → FitsSigned w16 z → cast_unsigned w16 z < 2 ^ 16
unsigned16 (pos n) h = omega (arith, h.sfits)
unsigned16 (negsuc n) h = omega (arith, h.sfits)

unsigned32 : (z : ℤ) → FitsSigned w32 z → cast_unsigned w32 z < 2 ^ 32
unsigned32 (pos n) h = omega (arith, h.sfits)
unsigned32 (negsuc n) h = omega (arith, h.sfits)

unsigned64 : (z : ℤ) → FitsSigned w64 z → cast_unsigned w64 z < 2 ^ 64
unsigned64 (pos n) h = omega (arith, h.sfits)
unsigned64 (negsuc n) h = omega (arith, h.sfits)

small16 : (z : ℤ) → FitsSigned w16 z → mag z < 2 ^ 63
small16 (pos n) h = omega (arith, h.sfits)
small16 (negsuc n) h = omega (arith, h.sfits)

small32 : (z : ℤ) → FitsSigned w32 z → mag z < 2 ^ 63
small32 (pos n) h = omega (arith, h.sfits)
small32 (negsuc n) h = omega (arith, h.sfits)

small64 : (z : ℤ) → FitsSigned w64 z → mag z < 2 ^ 63
small64 (pos n) h = omega (arith, h.sfits)
small64 (negsuc n) h = omega (arith, h.sfits)

pub shorts : (x : ℤ) → FitsSigned w16 x
    → IsReadBack types.Int2 (λ z. Some (integer_binary w16 z)) (λ z. Some (signed_decimal z))
    (λ ty raw. integer_of_binary w16 (is_int2 ty) ty raw)
    (λ ty text. integer_of_text w16 (is_int2 ty) ty text) x
shorts x h = record {
  from_binary =
      ap (λ (z : ℤ). Some (Ok z))
      (ap (cast_signed w16) (from_be_bytes-to_be_bytes_2 (cast_unsigned w16 x) (unsigned16 x h))
      ∙ to_z-of_z h);
  from_text = ap (λ (o : Option ℤ). Some (or_bad_text o)) (digits_are_read w16 x h (small16 x h));
}

pub integers : (x : ℤ) → FitsSigned w32 x
    → IsReadBack types.Int4 (λ z. Some (integer_binary w32 z)) (λ z. Some (signed_decimal z))
    (λ ty raw. integer_of_binary w32 (is_int4 ty) ty raw)
    (λ ty text. integer_of_text w32 (is_int4 ty) ty text) x
integers x h = record {
  from_binary =
      ap (λ (z : ℤ). Some (Ok z))
      (ap (cast_signed w32) (from_be_bytes-to_be_bytes_4 (cast_unsigned w32 x) (unsigned32 x h))
      ∙ to_z-of_z h);
  from_text = ap (λ (o : Option ℤ). Some (or_bad_text o)) (digits_are_read w32 x h (small32 x h));
}

pub longs : (x : ℤ) → FitsSigned w64 x
    → IsReadBack types.Int8 (λ z. Some (integer_binary w64 z)) (λ z. Some (signed_decimal z))
    (λ ty raw. integer_of_binary w64 (is_int8 ty) ty raw)
    (λ ty text. integer_of_text w64 (is_int8 ty) ty text) x
longs x h = record {
  from_binary =
      ap (λ (z : ℤ). Some (Ok z))
      (ap (cast_signed w64) (from_be_bytes-to_be_bytes_8 (cast_unsigned w64 x) (unsigned64 x h))
      ∙ to_z-of_z h);
  from_text = ap (λ (o : Option ℤ). Some (or_bad_text o)) (digits_are_read w64 x h (small64 x h));
}

text_held : (ty : PgType) → is_text ty ≡ true → has_text ty ≡ true
text_held types.Bool e = e
text_held types.Bytea e = e
text_held types.Name e = e
text_held types.Int8 e = e
text_held types.Int2 e = e
text_held types.Int4 e = e
text_held types.Text e = e
text_held types.Unknown e = e
text_held types.Bpchar e = e
text_held types.Varchar e = e
text_held (types.Other oid) e = absurd cc

pub texts : (ty : PgType) (x : List ℕ) → is_text ty ≡ true → IsUtf8 x
    → IsReadBack ty (λ (t : List ℕ). Some t) (λ (t : List ℕ). Some t) row_value_text text_of_text x
texts ty x is h =
    let utf8 : is_utf8 x ≡ true = is_utf8-from_IsUtf8 x h in
    let held : has_text ty ≡ true = text_held ty is in
    record {
      from_binary = rw (is, utf8) refl;
      from_text = rw (held, utf8) refl;
    }

pub octets : (x : List ℕ) → IsBytes x → octets_of_text types.Bytea (octets_text x) ≡ Ok x
octets x h = ap (λ (o : Option (List ℕ)). or_bad_text o) (ap result_ok (decode_of-encode_lower x h))
