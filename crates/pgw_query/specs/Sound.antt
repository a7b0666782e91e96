-- What every message of the program is: its texts are UTF-8, and its numbers fit.
use Rattle.std.specs.Prelude.{ℕ, List, ◌<◌, ◌^◌, FitsSigned, IsUtf8}
use Rattle.std.specs.List.{AllByRecursion}
use Rattle.std.specs.Int.{w16, w32}
use Rattle.pgw_wire.specs.Sound.{IsOid}
use Rattle.pgw_query.specs.declared.data.FieldDescription.{FieldDescription}
use Rattle.pgw_query.specs.declared.data.DataRow.{DataRow}
use Rattle.pgw_query.specs.declared.notification.NotificationResponse.{NotificationResponse}
use Rattle.pgw_query.specs.declared.description.ParameterDescription.{ParameterDescription}

pub record IsField (f : FieldDescription) : Type 0 where
  pub name : IsUtf8 f.name
  pub table_id : FitsSigned w32 f.table_id
  pub column_id : FitsSigned w16 f.column_id
  pub type_id : f.type_id < 2 ^ 32
  pub type_size : FitsSigned w16 f.type_size
  pub type_modifier : FitsSigned w32 f.type_modifier
  pub format_code : FitsSigned w16 f.format_code

pub record IsCoded (p : ℕ × List ℕ) : Type 0 where
  pub code : p.0 < 2 ^ 8
  pub text : IsUtf8 p.1

abbrev pub AreFields : List FieldDescription → Type 0
AreFields fields = AllByRecursion IsField fields

abbrev pub AreCoded : List (ℕ × List ℕ) → Type 0
AreCoded fields = AllByRecursion IsCoded fields

abbrev pub IsDataRow : DataRow → Type 0
IsDataRow m = FitsSigned w16 m.field_count

abbrev pub IsParameterDescription : ParameterDescription → Type 0
IsParameterDescription m = AllByRecursion IsOid m.types

abbrev pub IsNotification : NotificationResponse → Type 0
IsNotification m = FitsSigned w32 m.pid × IsUtf8 m.channel × IsUtf8 m.payload
