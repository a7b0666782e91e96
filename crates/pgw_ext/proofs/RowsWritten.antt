-- What is written of the messages spells them.
use Rattle.std.proofs.Common.{◌≡◌, ℕ, ℤ, pos, negsuc, ◌+◌, ◌<◌, ◌^◌, false, List, [], ◌∷◌, ◌++◌, length, Option, Some, None, Ok, refl, ap, append_assoc, arith, length-append}
use Rattle.std.specs.Prelude.{FitsSigned}
use Rattle.std.specs.List.{flat_map, AllByRecursion}
use Rattle.std.specs.Int.{w16, w32, to_be_bytes}
use Rattle.std.proofs.lemmas.Bool.{or_parts}
use Rattle.std.proofs.lemmas.Int.{ints}
use Rattle.std.proofs.lemmas.List.Concat.{flat_map-cons}
use Rattle.std.proofs.lemmas.Str.{IsUtf8-nil}
use Rattle.pgw_types.specs.declared.error.PgWireError.{PgWireError}
use Rattle.pgw_wire.specs.declared.framing.Framing.TheVariants.{Typed}
use Rattle.pgw_wire.specs.Framing.{encoded}
use Rattle.pgw_wire.specs.Writing.{text, i16, i32, u16, u32, has_zero, refused_if}
use Rattle.pgw_wire.specs.Formats.{SpellsNat, SpellsInt, SpellsName, SpellsMany, SpellsTyped}
use Rattle.pgw_wire.proofs.FieldLaws.{wide16, wide32}
use Rattle.pgw_wire.proofs.WrittenLaws.{text_written, int_written, nat_written, lossy-IsUtf8, unrefused, encoded_parts}
use Rattle.pgw_ext.specs.declared.parse.Parse.{Parse}
use Rattle.pgw_ext.specs.declared.bind.Bind.{Bind}
use Rattle.pgw_ext.specs.declared.execute.Execute.{Execute}
use Rattle.pgw_ext.specs.Kinds.{name, is_name_refused}
use Rattle.pgw_wire.specs.Values.{SpellsNullable, nullable}
use Rattle.pgw_wire.specs.Counted.{counted16, SpellsCounted16, is_too_long}
use Rattle.pgw_wire.proofs.CountedLaws.{count16_written, counted16_written}
use Rattle.pgw_ext.specs.Rows.{parse, is_parse_refused, SpellsParse, bind, is_bind_refused, SpellsBind, SpellsTarget, SpellsExecute}
use Rattle.pgw_ext.specs.Sound.{IsName, IsParse, IsBind, IsExecute}
use Rattle.pgw_wire.specs.Sound.{IsOid, IsCode}

-- ---- kinds of fields

name_written : (o : Option (List ℕ)) → IsName o → is_name_refused o ≡ false → SpellsName o (name o)
unfolding name
name_written None sound fine = ([], refl, refl, lossy-IsUtf8 [] IsUtf8-nil)
name_written (Some t) sound fine = (text_written t fine sound.0, sound.1)

oid_written : (n : ℕ) → IsOid n → SpellsNat w32 n (u32 n)
unfolding u32
oid_written n small = nat_written w32 wide32 n small

code_written : (z : ℤ) → IsCode z → SpellsInt w16 z (i16 z)
unfolding i16
code_written z fits = int_written w16 wide16 z fits

rows_written : (z : ℤ) → FitsSigned w32 z → SpellsInt w32 z (i32 z)
unfolding i32
rows_written z fits = int_written w32 wide32 z fits

len_written : (n : ℕ) → n < 2 ^ 31 → SpellsInt w32 (pos n) (u32 n)
unfolding u32
len_written n small =
    let fits : FitsSigned w32 (pos n) = omega (arith, ints, small) in int_written w32 wide32 (pos n) fits

minus_one : FitsSigned w32 (negsuc 0)
minus_one = omega (arith, ints)

parameter_written : (o : Option (List ℕ)) → length (nullable o) < 2 ^ 31 → SpellsNullable o (nullable o)
unfolding nullable
parameter_written None small = (0, rows_written (negsuc 0) minus_one)
parameter_written (Some value) small = (
  u32 (length value),
  refl,
  len_written (length value)
      (omega (arith, length-append (u32 (length value)) value, small)),
)

parameters_written : (vs : List (Option (List ℕ))) → length (flat_map nullable vs) < 2 ^ 31
    → SpellsMany SpellsNullable vs (flat_map nullable vs)
parameters_written [] small = refl
parameters_written (v ∷ vs) small =
    let cut = flat_map-cons nullable v vs in
    let one : length (nullable v) < 2 ^ 31 =
    omega (arith, ap length cut, length-append (nullable v) (flat_map nullable vs), small) in
    let others : length (flat_map nullable vs) < 2 ^ 31 =
    omega (arith, ap length cut, length-append (nullable v) (flat_map nullable vs), small) in
    (nullable v, flat_map nullable vs, cut, parameter_written v one, parameters_written vs others)

-- ---- bodies

oids_written : (ns : List ℕ) → AllByRecursion IsOid ns → is_too_long ns ≡ false
    → SpellsCounted16 (SpellsNat w32) ns (counted16 u32 ns)
oids_written = counted16_written (SpellsNat w32) u32 IsOid oid_written

codes_written : (zs : List ℤ) → AllByRecursion IsCode zs → is_too_long zs ≡ false
    → SpellsCounted16 (SpellsInt w16) zs (counted16 i16 zs)
codes_written = counted16_written (SpellsInt w16) i16 IsCode code_written

values_written : (vs : List (Option (List ℕ))) → length (counted16 nullable vs) < 2 ^ 31 → is_too_long vs ≡ false
    → SpellsCounted16 SpellsNullable vs (counted16 nullable vs)
values_written vs small few = (
  u16 (length vs),
  flat_map nullable vs,
  refl,
  count16_written (length vs) few,
  parameters_written vs
      (omega (arith, length-append (u16 (length vs)) (flat_map nullable vs), small)),
)

pub parse_written : (m : Parse) → IsParse m → refused_if (is_parse_refused m) ≡ None → SpellsParse m (parse m)
parse_written m sound fine =
    let p = or_parts (is_name_refused m.name) _ (unrefused _ fine) in
    let q = or_parts (has_zero m.query) (is_too_long m.type_oids) p.1 in (
      name m.name,
      text m.query ++ counted16 u32 m.type_oids,
      append_assoc (name m.name) (text m.query) (counted16 u32 m.type_oids),
      name_written m.name sound.0 p.0,
      (
        text m.query,
        counted16 u32 m.type_oids,
        refl,
        text_written m.query q.0 sound.1,
        oids_written m.type_oids
            sound.2 q.1,
      ),
    )

-- the lengths of the parts of five
middle : (a b c d e : List ℕ) → length (a ++ b ++ c ++ d ++ e) < 2 ^ 31 → length d < 2 ^ 31
middle a b c d e small = omega (arith, length-append (a ++ b ++ c ++ d) e, length-append (a ++ b ++ c) d, small)

pub bind_written : (m : Bind) → IsBind m → length (bind m) < 2 ^ 31 → refused_if (is_bind_refused m) ≡ None
    → SpellsBind m (bind m)
bind_written m sound small fine =
    let p = or_parts _ _ (unrefused _ fine) in
    let q = or_parts (is_name_refused m.portal_name) (is_name_refused m.statement_name) p.0 in
    let r = or_parts (is_too_long m.parameter_format_codes) _ p.1 in
    let s = or_parts (is_too_long m.parameters) (is_too_long m.result_column_format_codes) r.1 in
    let few =
    middle (name m.portal_name) (name m.statement_name) (counted16 i16 m.parameter_format_codes)
    (counted16 nullable m.parameters) (counted16 i16 m.result_column_format_codes) small in (
      name m.portal_name,
      name m.statement_name ++
          (counted16 i16 m.parameter_format_codes ++
          (counted16 nullable m.parameters ++ counted16 i16 m.result_column_format_codes)),
      simp append_assoc,
      name_written m.portal_name sound.0 q.0,
      (
        name m.statement_name,
        counted16 i16 m.parameter_format_codes ++
            (counted16 nullable m.parameters ++ counted16 i16 m.result_column_format_codes),
        refl,
        name_written m.statement_name sound.1 q.1,
        (
          counted16 i16 m.parameter_format_codes,
          counted16 nullable m.parameters ++ counted16 i16 m.result_column_format_codes,
          refl,
          codes_written m.parameter_format_codes sound.2 r.0,
          (
            counted16 nullable m.parameters,
            counted16 i16 m.result_column_format_codes,
            refl,
            values_written
                m.parameters few s.0,
            codes_written m.result_column_format_codes sound.3 s.1,
          ),
        ),
      ),
    )

pub target_written : (n : ℕ) (o : Option (List ℕ)) → n < 2 ^ 8 → IsName o → refused_if (is_name_refused o) ≡ None
    → SpellsTarget (n, o) (n ∷ name o)
target_written n o small sound fine =
    (n ∷ [], name o, refl, (refl, omega (arith, small)), name_written o sound (unrefused _ fine))

pub execute_written : (m : Execute) → IsExecute m → refused_if (is_name_refused m.name) ≡ None
    → SpellsExecute m (name m.name ++ i32 m.max_rows)
execute_written m sound fine = (
  name m.name,
  i32 m.max_rows,
  refl,
  name_written m.name sound.0 (unrefused _ fine),
  rows_written m.max_rows
      sound.1,
)

-- ---- messages

pub typed_written : {M : Type 0} (byte limit : ℕ) (P : M → List ℕ → Type 0) (m : M) (fault : Option PgWireError)
    (body g : List ℕ)
    → limit < 2 ^ 31 → encoded (Typed byte) limit fault body ≡ Ok g
    → (length body < 2 ^ 31 → fault ≡ None → P m body) → SpellsTyped byte limit P m g
typed_written byte limit P m fault body g small is law =
    let p = encoded_parts (Typed byte) limit fault body g small is in (
      to_be_bytes w32 (length body + 4),
      body,
      p.2,
      nat_written w32 wide32 (length body + 4)
          (omega (arith, p.0, small)),
      p.0,
      law (omega (arith, p.0, small)) p.1,
    )
