use Rattle.std.proofs.Common.{refl, ap}
use Rattle.std.proofs.lemmas.Bool.{false≢true}
use Rattle.std.proofs.lemmas.Bool.Decides.{Decides-eqb, Decides-int_eq}
use Rattle.std.specs.Cmp.Lexicographic.{pointwise_decides, bytes_decides}
use Rattle.pgw_query.specs.declared.simplequery.Query.{Query}
use Rattle.pgw_query.specs.declared.response.TransactionStatus.TheVariants as status
use Rattle.pgw_query.specs.declared.response.ReadyForQuery.{ReadyForQuery}
use Rattle.pgw_query.specs.declared.response.CommandComplete.{CommandComplete}
use Rattle.pgw_query.specs.declared.notification.NotificationResponse.{NotificationResponse}
use Rattle.pgw_query.specs.declared.data.FieldDescription.{FieldDescription}
use Rattle.pgw_query.specs.declared.data.RowDescription.{RowDescription}
use Rattle.pgw_query.specs.declared.description.ParameterDescription.{ParameterDescription}
use Rattle.pgw_query.specs.declared.data.DataRow.{DataRow}
use Rattle.pgw_query.specs.declared.tag.Tag.{Tag}
use Rattle.pgw_query.specs.declared.pg_type.PgType.TheVariants as types
use Rattle.pgw_query.specs.declared.field_info.FieldFormat.TheVariants as formats
use Rattle.pgw_query.specs.declared.field_info.FieldInfo.{FieldInfo}
use Rattle.pgw_query.specs.declared.row_error.SqlFault.TheVariants as sql
use Rattle.pgw_wire.proofs.EqualLaws.{both_exact, made_exact, option_exact}
use Rattle.pgw_query.proofs.equality.equality_is_exact.Goals as goal

pub returns-clause-query : goal.returns-clause-query
returns-clause-query c =
    made_exact {Y = Query} (λ x. x.query) (λ p. record { query = p }) (λ x. refl) _ bytes_decides

pub returns-clause-transaction_status : goal.returns-clause-transaction_status
returns-clause-transaction_status c status.Idle status.Idle = (λ e. refl, λ e. refl)
returns-clause-transaction_status c status.Transaction status.Transaction = (λ e. refl, λ e. refl)
returns-clause-transaction_status c status.Error status.Error = (λ e. refl, λ e. refl)
returns-clause-transaction_status c x y = (λ e. absurd cc, λ e. absurd cc)

pub returns-clause-ready_for_query : goal.returns-clause-ready_for_query
returns-clause-ready_for_query c =
    made_exact {Y = ReadyForQuery} (λ x. x.status) (λ p. record { status = p }) (λ x. refl) _
    (returns-clause-transaction_status c)

pub returns-clause-command_complete : goal.returns-clause-command_complete
returns-clause-command_complete c =
    made_exact {Y = CommandComplete} (λ x. x.tag) (λ p. record { tag = p }) (λ x. refl) _ bytes_decides

pub returns-clause-notification_response : goal.returns-clause-notification_response
returns-clause-notification_response c =
    made_exact {Y = NotificationResponse} (λ x. (x.pid, (x.channel, x.payload)))
    (λ p. record { pid = p.0; channel = p.1.0; payload = p.1.1 }) (λ x. refl) _
    (both_exact _ _ Decides-int_eq (both_exact _ _ bytes_decides bytes_decides))

pub returns-clause-field_description : goal.returns-clause-field_description
returns-clause-field_description c =
    made_exact {Y = FieldDescription}
    (λ x. (x.name, (x.table_id, (x.column_id, (x.type_id, (x.type_size, (x.type_modifier, x.format_code)))))))
    (λ p. record {
      name = p.0;
      table_id = p.1.0;
      column_id = p.1.1.0;
      type_id = p.1.1.1.0;
      type_size = p.1.1.1.1.0;
      type_modifier = p.1.1.1.1.1.0;
      format_code = p.1.1.1.1.1.1;
    }) (λ x. refl) _
    (both_exact _ _ bytes_decides (both_exact _ _ Decides-int_eq
    (both_exact _ _ Decides-int_eq
    (both_exact _ _ Decides-eqb
    (both_exact _ _ Decides-int_eq (both_exact _ _ Decides-int_eq Decides-int_eq))))))

pub returns-clause-row_description : goal.returns-clause-row_description
returns-clause-row_description c =
    made_exact {Y = RowDescription} (λ x. x.fields) (λ p. record { fields = p }) (λ x. refl) _
    (pointwise_decides (returns-clause-field_description c))

pub returns-clause-parameter_description : goal.returns-clause-parameter_description
returns-clause-parameter_description c =
    made_exact {Y = ParameterDescription} (λ x. x.types) (λ p. record { types = p }) (λ x. refl) _
    (pointwise_decides Decides-eqb)

pub returns-clause-data_row : goal.returns-clause-data_row
returns-clause-data_row c =
    made_exact {Y = DataRow} (λ x. (x.payload, x.field_count)) (λ p. record { payload = p.0; field_count = p.1 })
    (λ x. refl) _ (both_exact _ _ bytes_decides Decides-int_eq)

pub returns-clause-tag : goal.returns-clause-tag
returns-clause-tag c =
    made_exact {Y = Tag} (λ x. (x.command, (x.oid, x.rows)))
    (λ p. record { command = p.0; oid = p.1.0; rows = p.1.1 }) (λ x. refl) _
    (both_exact _ _ bytes_decides
    (both_exact _ _ (option_exact _ Decides-eqb) (option_exact _ Decides-eqb)))

pub returns-clause-pg_type : goal.returns-clause-pg_type
returns-clause-pg_type c types.Bool types.Bool = (λ e. refl, λ e. refl)
returns-clause-pg_type c types.Bytea types.Bytea = (λ e. refl, λ e. refl)
returns-clause-pg_type c types.Name types.Name = (λ e. refl, λ e. refl)
returns-clause-pg_type c types.Int8 types.Int8 = (λ e. refl, λ e. refl)
returns-clause-pg_type c types.Int2 types.Int2 = (λ e. refl, λ e. refl)
returns-clause-pg_type c types.Int4 types.Int4 = (λ e. refl, λ e. refl)
returns-clause-pg_type c types.Text types.Text = (λ e. refl, λ e. refl)
returns-clause-pg_type c types.Unknown types.Unknown = (λ e. refl, λ e. refl)
returns-clause-pg_type c types.Bpchar types.Bpchar = (λ e. refl, λ e. refl)
returns-clause-pg_type c types.Varchar types.Varchar = (λ e. refl, λ e. refl)
returns-clause-pg_type c (types.Other x) (types.Other y) =
    (λ e. ap (λ z. types.Other z) ((Decides-eqb x y).0 e), λ e. (Decides-eqb x y).1 cc)
returns-clause-pg_type c x y = (λ e. absurd (false≢true e), λ e. absurd cc)

pub returns-clause-field_format : goal.returns-clause-field_format
returns-clause-field_format c formats.Text formats.Text = (λ e. refl, λ e. refl)
returns-clause-field_format c formats.Binary formats.Binary = (λ e. refl, λ e. refl)
returns-clause-field_format c x y = (λ e. absurd (false≢true e), λ e. absurd cc)

pub returns-clause-field_info : goal.returns-clause-field_info
returns-clause-field_info c =
    made_exact {Y = FieldInfo}
    (λ x. (x.name, (x.table_id, (x.column_id, (x.datatype, (x.type_size, (x.type_modifier, x.format)))))))
    (λ p. record {
      name = p.0;
      table_id = p.1.0;
      column_id = p.1.1.0;
      datatype = p.1.1.1.0;
      type_size = p.1.1.1.1.0;
      type_modifier = p.1.1.1.1.1.0;
      format = p.1.1.1.1.1.1;
    }) (λ x. refl) _
    (both_exact _ _ bytes_decides (both_exact _ _ (option_exact _ Decides-int_eq)
    (both_exact _ _ (option_exact _ Decides-int_eq)
    (both_exact _ _ (returns-clause-pg_type c)
    (both_exact _ _ Decides-int_eq
    (both_exact _ _ Decides-int_eq (returns-clause-field_format c)))))))

pub returns-clause-sql_fault : goal.returns-clause-sql_fault
returns-clause-sql_fault c (sql.WrongType x) (sql.WrongType y) = (
  λ e. ap (λ z. sql.WrongType z) ((returns-clause-pg_type c x y).0 e),
  λ e. (returns-clause-pg_type c x y).1
      cc,
)
returns-clause-sql_fault c (sql.WrongLength x) (sql.WrongLength y) =
    (λ e. ap (λ z. sql.WrongLength z) ((Decides-eqb x y).0 e), λ e. (Decides-eqb x y).1 cc)
returns-clause-sql_fault c sql.BadText sql.BadText = (λ e. refl, λ e. refl)
returns-clause-sql_fault c x y = (λ e. absurd (false≢true e), λ e. absurd cc)
