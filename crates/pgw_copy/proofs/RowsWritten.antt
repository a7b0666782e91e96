-- What is written of the messages spells them.
use Rattle.std.proofs.Common.{◌≡◌, ℕ, ℤ, pos, ◌<◌, ◌^◌, not, Bool, true, false, List, [], ◌∷◌, ◌++◌, length, refl, subst, ap, ◌∙◌, None, Ok, arith, lit<}
use Rattle.std.specs.Prelude.{FitsSigned}
use Rattle.std.specs.Ordering.{int_eq}
use Rattle.std.specs.List.{flat_map, AllByRecursion}
use Rattle.std.specs.Int.{w8, w16, from_be_bytes, cast_signed, cast_unsigned}
use Rattle.std.proofs.lemmas.Int.{to_z-of_z}
use Rattle.std.proofs.lemmas.List.Concat.{flat_map-cons}
use Rattle.std.proofs.lemmas.Bool.Decides.{Decides-int_eq}
use Rattle.std.proofs.Math.Facts.{Fits-of_z, Fits-lt-pow}
use Rattle.pgw_wire.specs.Writing.{i16, refused_if}
use Rattle.pgw_wire.specs.declared.framing.Framing.TheVariants.{Typed}
use Rattle.pgw_wire.specs.Framing.{encoded}
use Rattle.pgw_wire.specs.Formats.{SpellsInt, SpellsMany, SpellsTyped}
use Rattle.pgw_wire.proofs.FieldLaws.{wide16}
use Rattle.pgw_wire.proofs.WrittenLaws.{int_written, typed_written, unrefused}
use Rattle.pgw_copy.specs.declared.response.CopyResponse.{CopyResponse}
use Rattle.pgw_copy.specs.Rows.{formats, is_miscounted, SpellsColumns, SpellsCopyResponse}
use Rattle.pgw_copy.specs.Sound.{AreColumns}
use Rattle.pgw_wire.specs.Sound.{IsCode}

format_written : (z : ℤ) → FitsSigned w8 z → SpellsInt w8 z (cast_unsigned w8 z ∷ [])
format_written z fits =
    let small : cast_unsigned w8 z < 2 ^ 8 = Fits-lt-pow (Fits-of_z fits) in
    let again : from_be_bytes w8 (cast_unsigned w8 z ∷ []) ≡ cast_unsigned w8 z = omega (arith, small) in
    (refl, ap (cast_signed w8) again ∙ to_z-of_z w8 z fits)

code_written : (z : ℤ) → IsCode z → SpellsInt w16 z (i16 z)
unfolding i16
code_written z fits = int_written w16 wide16 z fits

codes_written : (zs : List ℤ) → AllByRecursion IsCode zs → SpellsMany (SpellsInt w16) zs (flat_map i16 zs)
codes_written [] sound = refl
codes_written (z ∷ zs) sound =
    (i16 z, flat_map i16 zs, flat_map-cons i16 z zs, code_written z sound.0, codes_written zs sound.1)

same_count : (columns : ℤ) (codes : List ℤ) → is_miscounted columns codes ≡ false → columns ≡ pos (length codes)
same_count columns codes fine =
    (Decides-int_eq columns (pos (length codes))).0 (negated (int_eq columns (pos (length codes))) fine)
  where
    negated : (b : Bool) → not b ≡ false → b ≡ true
    negated true h = refl
    negated false h = absurd cc

columns_written : (format columns : ℤ) (codes : List ℤ) → AreColumns format columns codes
    → refused_if (is_miscounted columns codes) ≡ None
    → SpellsColumns (format, columns, codes) (formats format columns codes)
columns_written format columns codes sound fine =
    let same = same_count columns codes (unrefused _ fine) in (
      same,
      (
        cast_unsigned w8 format ∷ [],
        i16 columns ++ flat_map i16 codes,
        refl,
        format_written format sound.0,
        (
          i16 columns,
          flat_map i16 codes,
          refl,
          subst (λ (z : ℤ). SpellsInt w16 z (i16 columns)) same
              (code_written columns sound.1),
          codes_written codes sound.2,
        ),
      ),
    )

pub copy_response_written : (byte : ℕ) (m : CopyResponse byte) (g : List ℕ)
    → AreColumns m.format m.columns m.column_formats
    → encoded (Typed byte) 30000 (refused_if (is_miscounted m.columns m.column_formats))
    (formats m.format m.columns m.column_formats) ≡ Ok g
    → SpellsTyped byte 30000 SpellsCopyResponse m g
copy_response_written byte m g sound is =
    typed_written byte 30000 SpellsCopyResponse m (refused_if (is_miscounted m.columns m.column_formats))
    (formats m.format m.columns m.column_formats) g (lit< tt) is
    (λ fine. columns_written m.format m.columns m.column_formats sound fine)
