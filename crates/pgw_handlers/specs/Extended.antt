-- What a handler of extended queries means.
use Rattle.std.specs.Prelude.{◌≡◌, ℕ, List, [], ◌∷◌, ◌++◌, length, Result, Ok, Err}
use Rattle.pgw_ext.specs.declared.parse.Parse.{Parse}
use Rattle.pgw_ext.specs.declared.bind.Bind.{Bind}
use Rattle.pgw_ext.specs.declared.execute.Execute.{Execute}
use Rattle.pgw_ext.specs.declared.target.Describe.{Describe}
use Rattle.pgw_ext.specs.declared.target.Close.{Close}
use Rattle.pgw_query.specs.declared.data.RowDescription.{RowDescription}
use Rattle.pgw_query.specs.declared.data.DataRow.{DataRow}
use Rattle.pgw_query.specs.Runs.{SpellsRows}
use Rattle.pgw_query.specs.declared.description.ParameterDescription.{ParameterDescription}
use Rattle.pgw_query.specs.declared.response.CommandComplete.{CommandComplete}
use Rattle.pgw_query.specs.Rows.{NoticeResponse}
use Rattle.pgw_query.specs.declared.notification.NotificationResponse.{NotificationResponse}
use Rattle.pgw_query.specs.declared.pg_type.PgType.{PgType}
use Rattle.pgw_query.specs.declared.field_info.FieldInfo.{FieldInfo}
use Rattle.pgw_query.specs.declared.tag.Tag.{Tag}
use Rattle.pgw_backend.specs.declared.client_error.PgWireClientError.{PgWireClientError as ClientError}
use Rattle.pgw_handlers.specs.Client.{Sight}
use Rattle.pgw_handlers.specs.Handling.{HandlerView, standing}

-- a call of one of its functions, with its message
pub data ExtendedCall : Type 0 where
  parse : Parse → ExtendedCall
  bind : Bind → ExtendedCall
  execute : Execute → ExtendedCall
  describe : Describe → ExtendedCall
  close : Close → ExtendedCall
  sync : ExtendedCall
  flush : ExtendedCall
  on_parameter_description : ParameterDescription → ExtendedCall
  on_row_description : RowDescription → ExtendedCall
  on_data_row : DataRow → ExtendedCall
  on_command_complete : CommandComplete → ExtendedCall
  on_portal_suspended : ExtendedCall
  on_notice : NoticeResponse → ExtendedCall
  on_notification : NotificationResponse → ExtendedCall

-- what one of them gives: nothing, types, columns, what it makes of a row, or a tag
pub data Gift (R : Type 0) : Type 0 where
  nothing : Gift R
  types : List PgType → Gift R
  columns : List FieldInfo → Gift R
  response : R → Gift R
  tag : Tag → Gift R

abbrev pub Given : Type 0 → Type 0
Given R = Result (Gift R) ClientError

abbrev pub given_nothing : {R : Type 0} → Result (Unit {0}) ClientError → Given R
given_nothing (Ok x) = Ok nothing
given_nothing (Err e) = Err e

abbrev pub of_types : {R : Type 0} → Result (List PgType) ClientError → Given R
of_types (Ok ts) = Ok (types ts)
of_types (Err e) = Err e

abbrev pub of_columns : {R : Type 0} → Result (List FieldInfo) ClientError → Given R
of_columns (Ok fs) = Ok (columns fs)
of_columns (Err e) = Err e

abbrev pub of_response : {R : Type 0} → Result R ClientError → Given R
of_response (Ok r) = Ok (response r)
of_response (Err e) = Err e

abbrev pub of_tag : {R : Type 0} → Result Tag ClientError → Given R
of_tag (Ok t) = Ok (tag t)
of_tag (Err e) = Err e

-- ---- rows that are taken together

-- They are heard one after the other, as each is by itself, and these are their responses; for none is anything sent, or
-- told of the client.
pub data HearsRows {H R : Type 0}
    (M : HandlerView H → ExtendedCall → HandlerView H → Given R → Type 0)
    : List DataRow → List R → H → H → Type 0 where
  none : (h : H) → HearsRows M [] [] h h
  hears : (row : DataRow) (made : R) (rows : List DataRow) (more : List R) (h next after : H) →
      ((seen : Sight) →
      M (standing h seen) (on_data_row row) (standing next seen) (Ok (response made))) →
      HearsRows M rows more next after → HearsRows M (row ∷ rows) (made ∷ more) h after

-- so many rows that stand whole at the front of some bytes were taken, and heard so; their responses were put behind others
pub record TakesExtendedRows {H R : Type 0}
    (M : HandlerView H → ExtendedCall → HandlerView H → Given R → Type 0)
    (old new : H) (old_responses new_responses : List R) (old_bytes new_bytes : List ℕ)
    (count : ℕ)
    : Type 0 where
  pub rows : List DataRow
  pub made : List R
  pub taken : List ℕ
  pub spelled : SpellsRows rows taken
  pub cut : old_bytes ≡ taken ++ new_bytes
  pub heard : HearsRows M rows made old new
  pub put : new_responses ≡ old_responses ++ made
  pub counted : count ≡ length rows
