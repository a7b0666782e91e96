-- The rows of the message table.
use Rattle.std.specs.Prelude.{ℕ, ℤ, Bool, List, [], ◌∷◌, ◌++◌, length, Option, Result, Ok, Err, nat_lt, ◌==◌, ◌||◌, if◌then◌else◌}
use Rattle.std.specs.List.{list_any, flat_map}
use Rattle.std.specs.Int.{w8, w16, w32}
use Rattle.pgw_types.specs.declared.error.PgWireError.{PgWireError}
use Rattle.pgw_types.specs.declared.error.PgWireError.TheVariants.{InvalidTransactionStatus}
use Rattle.pgw_types.specs.declared.context.DecodeContext.{DecodeContext}
use Rattle.pgw_wire.specs.Reading.{nat_at, int_at, text_at, rest_at, all_of, marked_list_at}
use Rattle.pgw_wire.specs.Formats.{pair_at, Pair, made_at, tried_at, counted_at, SpellsText, SpellsNat, SpellsInt, SpellsCounted, SpellsMarked, IsRest}
use Rattle.pgw_wire.specs.Writing.{text, i16, i32, u16, u32, has_zero, refused_if}
use Rattle.pgw_query.specs.declared.response.TransactionStatus.{TransactionStatus}
use Rattle.pgw_query.specs.declared.response.TransactionStatus.TheVariants.{Idle, Transaction, Error}
use Rattle.pgw_query.specs.declared.response.ReadyForQuery.{ReadyForQuery}
use Rattle.pgw_query.specs.declared.response.CommandComplete.{CommandComplete}
use Rattle.pgw_query.specs.declared.data.FieldDescription.{FieldDescription}
use Rattle.pgw_query.specs.declared.data.RowDescription.{RowDescription}
use Rattle.pgw_query.specs.declared.data.DataRow.{DataRow}
use Rattle.pgw_wire.specs.declared.empty.EmptyResponse.{EmptyResponse}
use Rattle.pgw_query.specs.declared.response.InfoResponse.{InfoResponse}
use Rattle.pgw_wire.specs.Codes.{code_at, SpellsCode, coded, is_code_refused}
use Rattle.pgw_query.specs.declared.simplequery.Query.{Query}
use Rattle.pgw_query.specs.declared.notification.NotificationResponse.{NotificationResponse}
use Rattle.pgw_query.specs.declared.description.ParameterDescription.{ParameterDescription}
use Rattle.pgw_wire.specs.Counted.{counted16_at, SpellsCounted16}

-- ---- ReadyForQuery

unfoldable pub status_of_byte : ℕ → Result TransactionStatus PgWireError
status_of_byte b =
    if b == 73 then Ok Idle else
    (if b == 84 then Ok Transaction else
    (if b == 69 then Ok Error else Err (InvalidTransactionStatus b)))

abbrev pub status_byte : TransactionStatus → ℕ
status_byte Idle = 73
status_byte Transaction = 84
status_byte Error = 69

unfoldable pub ready_for_query_of : DecodeContext → List ℕ → Result ReadyForQuery PgWireError
ready_for_query_of ctx bytes =
    all_of (made_at (λ s. record { status = s }) (tried_at status_of_byte (nat_at w8)) bytes)

abbrev pub SpellsReadyForQuery : ReadyForQuery → List ℕ → Type 0
SpellsReadyForQuery m = SpellsNat w8 (status_byte m.status)

-- ---- CommandComplete

unfoldable pub command_complete_of : DecodeContext → List ℕ → Result CommandComplete PgWireError
command_complete_of ctx bytes = all_of (made_at (λ t. record { tag = t }) text_at bytes)

abbrev pub SpellsCommandComplete : CommandComplete → List ℕ → Type 0
SpellsCommandComplete m = SpellsText m.tag

-- ---- EmptyQueryResponse

abbrev pub EmptyQueryResponse : Type 0
EmptyQueryResponse = EmptyResponse 73

-- ---- ErrorResponse, NoticeResponse

-- codes with their texts, up to a code 0
unfoldable pub codes_at : List ℕ → Result (List (ℕ × List ℕ) × List ℕ) PgWireError
codes_at bytes = marked_list_at code_at bytes

-- ErrorResponse and NoticeResponse differ in their type bytes
unfoldable pub info_response_of : (byte : ℕ) → DecodeContext → List ℕ
    → Result (InfoResponse byte) PgWireError
info_response_of byte ctx bytes =
    all_of (made_at (λ fields. record { fields = fields }) codes_at bytes)

abbrev pub SpellsInfoResponse : {byte : ℕ} → InfoResponse byte → List ℕ → Type 0
SpellsInfoResponse m = SpellsMarked SpellsCode m.fields

abbrev pub ErrorResponse : Type 0
ErrorResponse = InfoResponse 69

abbrev pub NoticeResponse : Type 0
NoticeResponse = InfoResponse 78

abbrev pub codes : List (ℕ × List ℕ) → List ℕ
codes fields = flat_map coded fields ++ 0 ∷ []

abbrev pub codes_fault : List (ℕ × List ℕ) → Option PgWireError
codes_fault fields = refused_if (list_any is_code_refused fields)

-- ---- Query

unfoldable pub query_of : DecodeContext → List ℕ → Result Query PgWireError
query_of ctx bytes = all_of (made_at (λ t. record { query = t }) text_at bytes)

abbrev pub SpellsQuery : Query → List ℕ → Type 0
SpellsQuery m = SpellsText m.query

-- ---- RowDescription

-- a field's parts, in order
abbrev pub FieldParts : Type 0
FieldParts = List ℕ × (ℤ × (ℤ × (ℕ × (ℤ × (ℤ × ℤ)))))

abbrev pub field_of : FieldParts → FieldDescription
field_of p =
    record {
      name = p.0;
      table_id = p.1.0;
      column_id = p.1.1.0;
      type_id = p.1.1.1.0;
      type_size =
          p.1.1.1.1.0;
      type_modifier = p.1.1.1.1.1.0;
      format_code = p.1.1.1.1.1.1;
    }

abbrev pub field_parts : FieldDescription → FieldParts
field_parts f = (
  f.name,
  (
    f.table_id,
    (f.column_id, (f.type_id, (f.type_size, (f.type_modifier, f.format_code)))),
  ),
)

unfoldable pub field_at : List ℕ → Result (FieldDescription × List ℕ) PgWireError
field_at =
    made_at field_of (pair_at text_at (pair_at (int_at w32)
    (pair_at (int_at w16) (pair_at (nat_at w32)
    (pair_at (int_at w16) (pair_at (int_at w32) (int_at w16)))))))

abbrev pub SpellsField : FieldDescription → List ℕ → Type 0
SpellsField f =
    Pair SpellsText (Pair (SpellsInt w32) (Pair (SpellsInt w16)
    (Pair (SpellsNat w32) (Pair (SpellsInt w16) (Pair (SpellsInt w32) (SpellsInt w16))))))
    (field_parts f)

abbrev pub field : FieldDescription → List ℕ
field f =
    text f.name ++ i32 f.table_id ++ i16 f.column_id ++ u32 f.type_id ++ i16 f.type_size ++ i32
    f.type_modifier ++ i16 f.format_code

unfoldable pub row_description_of : DecodeContext → List ℕ → Result RowDescription PgWireError
row_description_of ctx bytes =
    all_of (made_at (λ fields. record { fields = fields }) (counted_at w16 19 field_at) bytes)

abbrev pub SpellsRowDescription : RowDescription → List ℕ → Type 0
SpellsRowDescription m = SpellsCounted w16 SpellsField m.fields

abbrev pub row_description : RowDescription → List ℕ
row_description m = u16 (length m.fields) ++ flat_map field m.fields

abbrev pub is_refused : List FieldDescription → Bool
is_refused fields = nat_lt 32767 (length fields) || list_any (λ f. has_zero f.name) fields

-- ---- DataRow

unfoldable pub data_row_of : DecodeContext → List ℕ → Result DataRow PgWireError
data_row_of ctx bytes =
    all_of (made_at (λ p. record { payload = p.1; field_count = p.0 })
    (pair_at (int_at w16) rest_at) bytes)

abbrev pub SpellsDataRow : DataRow → List ℕ → Type 0
SpellsDataRow m = Pair (SpellsInt w16) IsRest (m.field_count, m.payload)

abbrev pub data_row : DataRow → List ℕ
data_row m = i16 m.field_count ++ m.payload

-- ---- ParameterDescription

unfoldable pub parameter_description_of : DecodeContext → List ℕ
    → Result ParameterDescription PgWireError
parameter_description_of ctx bytes =
    all_of (made_at (λ types. record { types = types }) (counted16_at 4 (nat_at w32)) bytes)

abbrev pub SpellsParameterDescription : ParameterDescription → List ℕ → Type 0
SpellsParameterDescription m = SpellsCounted16 (SpellsNat w32) m.types

-- ---- NotificationResponse

unfoldable pub notification_response_of : DecodeContext → List ℕ
    → Result NotificationResponse PgWireError
notification_response_of ctx bytes =
    all_of (made_at (λ p. record { pid = p.0; channel = p.1.0; payload = p.1.1 })
    (pair_at (int_at w32) (pair_at text_at text_at)) bytes)

abbrev pub SpellsNotificationResponse : NotificationResponse → List ℕ → Type 0
SpellsNotificationResponse m =
    Pair (SpellsInt w32) (Pair SpellsText SpellsText) (m.pid, (m.channel, m.payload))

abbrev pub notification_response : NotificationResponse → List ℕ
notification_response m = i32 m.pid ++ text m.channel ++ text m.payload

abbrev pub is_notification_refused : NotificationResponse → Bool
is_notification_refused m = has_zero m.channel || has_zero m.payload
