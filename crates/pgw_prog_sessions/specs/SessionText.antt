-- The printed text of a session.
use Rattle.std.specs.Prelude.{ℕ, ℤ, List, ◌++◌, codes, Result, Ok, Err}
use Rattle.std.specs.Fmt.{signed_decimal}
use Rattle.std.specs.List.{flat_map}
use Rattle.std.specs.FinMap as map
use Rattle.pgw_wire.specs.Writing.{i32 as i32_bytes}
use Rattle.pgw_types.specs.declared.context.ProtocolVersion.{ProtocolVersion}
use Rattle.pgw_types.specs.declared.context.ProtocolVersion.TheVariants as version
use Rattle.pgw_wire.specs.declared.secret_key.SecretKey.{SecretKey}
use Rattle.pgw_wire.specs.declared.secret_key.SecretKey.TheVariants as key
use Rattle.pgw_query.specs.declared.response.TransactionStatus.{TransactionStatus}
use Rattle.pgw_query.specs.declared.response.TransactionStatus.TheVariants as status
use Rattle.pgw_backend.specs.declared.client_error.PgWireClientError.{PgWireClientError}
use Rattle.pgw_session.specs.declared.types.SessionReport.{SessionReport}
use Rattle.pgw_prog_sessions.specs.AnswerLines.{numbered}
use Rattle.pgw_prog_sessions.specs.Pieces.{line_end, in_hex, quoted}
use Rattle.pgw_prog_sessions.specs.ErrorNames.{client_name}

-- sent HEX
unfoldable pub sent_line : List ℕ → List ℕ
sent_line bytes = codes "sent " ++ in_hex bytes ++ line_end

-- version 3.0
unfoldable pub version_line : ProtocolVersion → List ℕ
version_line version.PROTOCOL3_0 = codes "version 3.0\n"
version_line version.PROTOCOL3_2 = codes "version 3.2\n"
version_line version.PROTOCOL3_9999 = codes "version 3.9999\n"

-- process N
unfoldable pub process_line : ℤ → List ℕ
process_line n = codes "process " ++ signed_decimal n ++ line_end

-- key i32 HEX, or key bytes HEX
unfoldable pub key_line : SecretKey → List ℕ
key_line (key.I32 n) = codes "key i32 " ++ in_hex (i32_bytes n) ++ line_end
key_line (key.Bytes bytes) = codes "key bytes " ++ in_hex bytes ++ line_end

-- parameter "NAME" "VALUE"
unfoldable pub parameter_line : List ℕ × List ℕ → List ℕ
parameter_line p = codes "parameter " ++ quoted p.0 ++ codes " " ++ quoted p.1 ++ line_end

-- status I
unfoldable pub status_line : TransactionStatus → List ℕ
status_line status.Idle = codes "status I\n"
status_line status.Transaction = codes "status T\n"
status_line status.Error = codes "status E\n"

unfoldable pub report_lines : SessionReport → List ℕ
report_lines r =
    version_line r.version ++ process_line r.process_id ++ key_line r.secret_key
    ++ flat_map parameter_line (map.entries r.parameters) ++ status_line r.status ++ numbered 1
    r.answers

-- error NAME
unfoldable pub error_line : PgWireClientError → List ℕ
error_line e = codes "error " ++ client_name e ++ line_end

-- a session's report, or its error
abbrev pub result_text : Result SessionReport PgWireClientError → List ℕ
result_text (Ok r) = report_lines r
result_text (Err e) = error_line e

-- the text of a session: what was sent, and its report or its error
unfoldable pub session_text : List ℕ → Result SessionReport PgWireClientError → List ℕ
session_text sent outcome = sent_line sent ++ result_text outcome
