-- The parts of an error or a notice.
use Rattle.std.specs.Prelude.{ℕ, ◌==◌, List, [], ◌∷◌, reverse, Option, Some, None, option_map, unwrap_or, codes, if◌then◌else◌}
use Rattle.std.specs.List.{find, filter_map}
use Rattle.std.specs.Fmt.{decimal}
use Rattle.pgw_types.specs.Numbers.{number_in}
use Rattle.pgw_types.specs.declared.error_info.ErrorInfo.{ErrorInfo}
use Rattle.pgw_types.specs.declared.error.PgWireError.{PgWireError}
use Rattle.pgw_types.specs.declared.error.PgWireError.TheVariants.{UnsupportedProtocolVersion, InvalidCancelRequest, InvalidSecretKey, InvalidMessageType, MessageTooLarge, InvalidElementCount, InvalidTargetType, InvalidTransactionStatus, InvalidSSLRequestMessage, InvalidGssEncRequestMessage, InvalidStartupMessage, InvalidAuthenticationMessageCode, UnsupportedSASLAuthMethod, InvalidScramMessage, NotReadyForQuery, InvalidOauthMessage, OAuthAuthenticationFailed, OAuthValidationError, InvalidMessageBody, FailedToCoercePasswordMessage, InvalidSASLState, SaltRequired, PidsExhausted, RegistryExhausted, IoError, InvalidPassword, UserNameRequired, OauthAuthzIdError, OutOfMemory, PortalNotFound, StatementNotFound, PortalNotStarted, ApiError, ParameterIndexOutOfBound, InvalidRustTypeForParameter, InvalidOptionValue, FailedToParseParameter, QueryCanceled, UserError}

abbrev pub FATAL : List ℕ
FATAL = codes "FATAL"

abbrev pub ERROR : List ℕ
ERROR = codes "ERROR"

-- of which nothing else is said
abbrev pub plain_info : List ℕ → List ℕ → List ℕ → ErrorInfo
plain_info severity code message =
    record {
      severity = severity;
      code = code;
      message = message;
      detail = None;
      hint = None;
      position =
          None;
      internal_position =
          None;
      internal_query =
          None;
      where_context =
          None;
      file_name =
          None;
      line =
          None;
      routine =
          None;
      severity_nonlocalized =
          None;
      schema =
          None;
      table =
          None;
      column =
          None;
      datatype = None;
      constraint = None;
    }

-- ---- the error that a refusal is

-- severity and SQLSTATE
unfoldable pub grade_of : PgWireError → List ℕ × List ℕ
grade_of (UnsupportedProtocolVersion a b) = (FATAL, codes "08P01")
grade_of InvalidCancelRequest = (FATAL, codes "08P01")
grade_of InvalidSecretKey = (FATAL, codes "08P01")
grade_of (InvalidMessageType a) = (FATAL, codes "08P01")
grade_of (MessageTooLarge a b) = (FATAL, codes "08P01")
grade_of (InvalidElementCount a b c) = (FATAL, codes "08P01")
grade_of (InvalidTargetType a) = (FATAL, codes "08P01")
grade_of (InvalidTransactionStatus a) = (FATAL, codes "08P01")
grade_of InvalidSSLRequestMessage = (FATAL, codes "08P01")
grade_of InvalidGssEncRequestMessage = (FATAL, codes "08P01")
grade_of InvalidStartupMessage = (FATAL, codes "08P01")
grade_of (InvalidAuthenticationMessageCode a) = (FATAL, codes "08P01")
grade_of (UnsupportedSASLAuthMethod a) = (FATAL, codes "08P01")
grade_of (InvalidScramMessage a) = (FATAL, codes "08P01")
grade_of NotReadyForQuery = (FATAL, codes "08P01")
grade_of (InvalidOauthMessage a) = (FATAL, codes "08P01")
grade_of (OAuthAuthenticationFailed a) = (FATAL, codes "08P01")
grade_of (OAuthValidationError a) = (FATAL, codes "08P01")
grade_of InvalidMessageBody = (FATAL, codes "08P01")
grade_of FailedToCoercePasswordMessage = (FATAL, codes "XX000")
grade_of InvalidSASLState = (FATAL, codes "XX000")
grade_of SaltRequired = (FATAL, codes "XX000")
grade_of PidsExhausted = (FATAL, codes "XX000")
grade_of RegistryExhausted = (FATAL, codes "XX000")
grade_of IoError = (FATAL, codes "58030")
grade_of (InvalidPassword a) = (FATAL, codes "28P01")
grade_of UserNameRequired = (FATAL, codes "28000")
grade_of (OauthAuthzIdError a) = (FATAL, codes "0A000")
grade_of OutOfMemory = (FATAL, codes "53200")
grade_of (PortalNotFound a) = (ERROR, codes "26000")
grade_of (StatementNotFound a) = (ERROR, codes "26000")
grade_of PortalNotStarted = (ERROR, codes "XX000")
grade_of (ApiError a) = (ERROR, codes "XX000")
grade_of (ParameterIndexOutOfBound a) = (ERROR, codes "22023")
grade_of (InvalidRustTypeForParameter a) = (ERROR, codes "22023")
grade_of (InvalidOptionValue a) = (ERROR, codes "22023")
grade_of (FailedToParseParameter a) = (ERROR, codes "22P02")
grade_of QueryCanceled = (ERROR, codes "57014")
grade_of (UserError held) = (held.severity, held.code)

-- a user's own error as it is; of any other nothing else is said
unfoldable pub info_of : PgWireError → List ℕ → ErrorInfo
info_of (UserError held) message = held
info_of error message = plain_info (grade_of error).0 (grade_of error).1 message

-- ---- fields

-- each part with its code, in the order in which they are sent
unfoldable pub parts_of : ErrorInfo → List (ℕ × Option (List ℕ))
parts_of e =
    (83, Some e.severity) ∷ (86, e.severity_nonlocalized) ∷ (67, Some e.code) ∷
    (77, Some e.message)
    ∷ (68, e.detail) ∷ (72, e.hint) ∷ (80, e.position) ∷ (112, e.internal_position) ∷
    (113, e.internal_query)
    ∷ (87, e.where_context) ∷ (70, e.file_name) ∷ (76, option_map decimal e.line) ∷
    (82, e.routine)
    ∷ (115, e.schema) ∷ (116, e.table) ∷ (99, e.column) ∷ (100, e.datatype) ∷ (110, e.constraint)
    ∷ []

-- a part is a field where it is set
abbrev pub info_field : ℕ × Option (List ℕ) → Option (ℕ × List ℕ)
info_field part = option_map (λ text. (part.0, text)) part.1

abbrev pub fields_of : ErrorInfo → List (ℕ × List ℕ)
fields_of e = filter_map info_field (parts_of e)

-- the text of the last field of a code
unfoldable pub last_field_text : ℕ → List (ℕ × List ℕ) → Option (List ℕ)
last_field_text code fields = option_map (λ f. f.1) (find (λ f. f.0 == code) (reverse fields))

-- the text of the last field of a code, or an empty one
abbrev pub last_or_empty : ℕ → List (ℕ × List ℕ) → List ℕ
last_or_empty code fields = unwrap_or (last_field_text code fields) []

-- a line is a whole number, or else 0
abbrev pub source_line : List ℕ → ℕ
source_line text = unwrap_or (number_in 64 text) 0

unfoldable pub info_from : List (ℕ × List ℕ) → ErrorInfo
info_from fields = record {
  severity = last_or_empty 83 fields;
  code = last_or_empty 67 fields;
  message = last_or_empty 77 fields;
  detail = last_field_text 68 fields;
  hint = last_field_text 72 fields;
  position = last_field_text 80 fields;
  internal_position = last_field_text 112 fields;
  internal_query = last_field_text 113 fields;
  where_context = last_field_text 87 fields;
  file_name = last_field_text 70 fields;
  line = option_map source_line (last_field_text 76 fields);
  routine = last_field_text 82 fields;
  severity_nonlocalized = last_field_text 86 fields;
  schema = last_field_text 115 fields;
  table = last_field_text 116 fields;
  column = last_field_text 99 fields;
  datatype = last_field_text 100 fields;
  constraint = last_field_text 110 fields;
}

-- with one more field
unfoldable pub with_field : ErrorInfo → ℕ → List ℕ → ErrorInfo
with_field e code text = record {
  severity = if code == 83 then text else e.severity;
  code = if code == 67 then text else e.code;
  message = if code == 77 then text else e.message;
  detail = if code == 68 then Some text else e.detail;
  hint = if code == 72 then Some text else e.hint;
  position = if code == 80 then Some text else e.position;
  internal_position = if code == 112 then Some text else e.internal_position;
  internal_query = if code == 113 then Some text else e.internal_query;
  where_context = if code == 87 then Some text else e.where_context;
  file_name = if code == 70 then Some text else e.file_name;
  line = if code == 76 then Some (source_line text) else e.line;
  routine = if code == 82 then Some text else e.routine;
  severity_nonlocalized = if code == 86 then Some text else e.severity_nonlocalized;
  schema = if code == 115 then Some text else e.schema;
  table = if code == 116 then Some text else e.table;
  column = if code == 99 then Some text else e.column;
  datatype = if code == 100 then Some text else e.datatype;
  constraint = if code == 110 then Some text else e.constraint;
}
