-- What is written of the messages spells them.
use Rattle.std.proofs.Common.{◌≡◌, ℕ, ℤ, pos, zero, suc, ◌<◌, ◌^◌, false, ltb, eqb, List, [], ◌∷◌, ◌++◌, length, Some, None, refl, append_assoc, arith}
use Rattle.std.specs.Prelude.{FitsSigned}
use Rattle.std.specs.List.{flat_map, list_any}
use Rattle.std.specs.Int.{w8, w16, w32}
use Rattle.std.proofs.lemmas.Bool.{or_parts, ltb-false, eqb-false}
use Rattle.std.proofs.lemmas.Int.{ints}
use Rattle.pgw_wire.specs.Writing.{text, i16, i32, u16, u32, has_zero, refused_if}
use Rattle.pgw_wire.specs.Codes.{coded, is_code_refused, SpellsCode}
use Rattle.pgw_wire.specs.Counted.{counted16, is_too_long}
use Rattle.pgw_wire.specs.Formats.{SpellsNat, SpellsInt, SpellsMarked}
use Rattle.pgw_wire.proofs.FieldLaws.{wide16, wide32}
use Rattle.pgw_wire.proofs.CountedLaws.{counted16_written}
use Rattle.pgw_wire.proofs.WrittenLaws.{text_written, nat_written, int_written, many_written, marked_written, unrefused}
use Rattle.pgw_query.specs.declared.response.TransactionStatus.{TransactionStatus}
use Rattle.pgw_query.specs.declared.response.TransactionStatus.TheVariants.{Idle, Transaction, Error}
use Rattle.pgw_query.specs.declared.data.FieldDescription.{FieldDescription}
use Rattle.pgw_query.specs.declared.data.RowDescription.{RowDescription}
use Rattle.pgw_query.specs.declared.data.DataRow.{DataRow}
use Rattle.pgw_query.specs.declared.notification.NotificationResponse.{NotificationResponse}
use Rattle.pgw_query.specs.declared.description.ParameterDescription.{ParameterDescription}
use Rattle.pgw_query.specs.Rows.{status_byte, codes, codes_fault, field, is_refused, row_description, data_row, notification_response, is_notification_refused, SpellsField, SpellsRowDescription, SpellsDataRow, SpellsNotificationResponse, SpellsParameterDescription}
use Rattle.pgw_query.specs.Sound.{IsField, IsCoded, AreFields, AreCoded, IsDataRow, IsParameterDescription, IsNotification}
use Rattle.pgw_wire.specs.Sound.{IsOid}

pub status_written : (s : TransactionStatus) → SpellsNat w8 (status_byte s) (status_byte s ∷ [])
status_written Idle = (refl, refl)
status_written Transaction = (refl, refl)
status_written Error = (refl, refl)

byte_written : (n : ℕ) → n < 2 ^ 8 → SpellsNat w8 n (n ∷ [])
byte_written n small = (refl, omega (arith, small))

code_written : (p : ℕ × List ℕ) → IsCoded p → is_code_refused p ≡ false → SpellsCode (Some p) (coded p)
code_written p sound fine =
    let parts = or_parts (eqb p.0 0) (has_zero p.1) fine in (
      (p.0 ∷ [], text p.1, refl, byte_written p.0 sound.code, text_written p.1 parts.1 sound.text),
      positive p.0
          (eqb-false p.0 0 parts.0),
    )
  where
    positive : (n : ℕ) → (n ≡ 0 → ⊥) → 0 < n
    positive zero other = absurd (other refl)
    positive (suc n) other = omega arith

pub codes_written : (fields : List (ℕ × List ℕ)) → AreCoded fields → codes_fault fields ≡ None
    → SpellsMarked SpellsCode fields (codes fields)
codes_written fields sound fine =
    marked_written SpellsCode coded (0 ∷ []) IsCoded is_code_refused (refl, refl) code_written fields sound
    (unrefused _ fine)

int16_written : (z : ℤ) → FitsSigned w16 z → SpellsInt w16 z (i16 z)
unfolding i16
int16_written z fits = int_written w16 wide16 z fits

int32_written : (z : ℤ) → FitsSigned w32 z → SpellsInt w32 z (i32 z)
unfolding i32
int32_written z fits = int_written w32 wide32 z fits

oid_written : (n : ℕ) → IsOid n → SpellsNat w32 n (u32 n)
unfolding u32
oid_written n small = nat_written w32 wide32 n small

signed_count_written : (n : ℕ) → n < 2 ^ 15 → SpellsInt w16 (pos n) (u16 n)
unfolding u16
signed_count_written n small =
    let fits : FitsSigned w16 (pos n) = omega (arith, ints, small) in int_written w16 wide16 (pos n) fits

field_written : (f : FieldDescription) → IsField f → has_zero f.name ≡ false → SpellsField f (field f)
field_written f is none = (
  text f.name,
  i32 f.table_id ++ (i16 f.column_id ++ (u32 f.type_id
      ++ (i16 f.type_size ++ (i32 f.type_modifier ++ i16 f.format_code)))),
  simp append_assoc,
  text_written f.name none is.name,
  (
    i32 f.table_id,
    i16 f.column_id ++ (u32 f.type_id ++ (i16 f.type_size ++ (i32 f.type_modifier ++ i16 f.format_code))),
    refl,
    int32_written f.table_id is.table_id,
    (
      i16 f.column_id,
      u32 f.type_id ++ (i16 f.type_size ++ (i32 f.type_modifier ++ i16 f.format_code)),
      refl,
      int16_written f.column_id is.column_id,
      (
        u32 f.type_id,
        i16 f.type_size ++ (i32 f.type_modifier ++ i16 f.format_code),
        refl,
        oid_written f.type_id is.type_id,
        (
          i16 f.type_size,
          i32 f.type_modifier ++ i16 f.format_code,
          refl,
          int16_written f.type_size is.type_size,
          (
            i32 f.type_modifier,
            i16 f.format_code,
            refl,
            int32_written f.type_modifier is.type_modifier,
            int16_written f.format_code is.format_code,
          ),
        ),
      ),
    ),
  ),
)

pub row_description_written : (m : RowDescription) → AreFields m.fields → is_refused m.fields ≡ false
    → SpellsRowDescription m (row_description m)
row_description_written m is fine =
    let parts = or_parts (ltb 32767 (length m.fields)) (list_any (λ f. has_zero f.name) m.fields) fine in
    let few : length m.fields < 2 ^ 15 = omega (arith, ltb-false _ _ parts.0) in (
      u16 (length m.fields),
      flat_map field m.fields,
      refl,
      signed_count_written (length m.fields) few,
      many_written SpellsField field IsField (λ f. has_zero f.name) field_written m.fields is parts.1,
    )

pub data_row_written : (m : DataRow) → IsDataRow m → SpellsDataRow m (data_row m)
data_row_written m fits = (i16 m.field_count, m.payload, refl, int16_written m.field_count fits, refl)

pub parameter_description_written : (m : ParameterDescription) → IsParameterDescription m
    → refused_if (is_too_long m.types) ≡ None → SpellsParameterDescription m (counted16 u32 m.types)
parameter_description_written m sound fine =
    counted16_written (SpellsNat w32) u32 IsOid oid_written m.types sound (unrefused _ fine)

pub notification_response_written : (m : NotificationResponse) → IsNotification m
    → refused_if (is_notification_refused m) ≡ None → SpellsNotificationResponse m (notification_response m)
notification_response_written m sound fine =
    let p = or_parts (has_zero m.channel) (has_zero m.payload) (unrefused _ fine) in (
      i32 m.pid,
      text m.channel ++ text m.payload,
      append_assoc (i32 m.pid) (text m.channel) (text m.payload),
      int32_written m.pid sound.0,
      (
        text m.channel,
        text m.payload,
        refl,
        text_written m.channel p.0 sound.1,
        text_written m.payload p.1
            sound.2,
      ),
    )
