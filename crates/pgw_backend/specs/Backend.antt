-- What stands at the front of what a server sent.
use Rattle.std.specs.Prelude.{ℕ, List, [], ◌∷◌, length, Option, None, Result, Ok, Err, nat_lt, ◌==◌, if◌then◌else◌, slice_index}
use Rattle.pgw_types.specs.declared.error.PgWireError.{PgWireError}
use Rattle.pgw_types.specs.declared.error.PgWireError.TheVariants.{InvalidMessageType}
use Rattle.pgw_types.specs.declared.context.DecodeContext.{DecodeContext}
use Rattle.pgw_wire.specs.declared.framing.Framing.TheVariants.{Typed, OneByte}
use Rattle.pgw_wire.specs.Framing.{wire_front, as_one_of, encoded}
use Rattle.pgw_wire.specs.Counted.{counted16, is_too_long}
use Rattle.pgw_wire.specs.Writing.{text, u32, has_zero, refused_if}
use Rattle.pgw_wire.specs.Keys.{key_fault}
use Rattle.pgw_startup.specs.Login.{authentication_of, parameter_status_of, backend_key_data_of, negotiate_of, authentication, authentication_fault, parameter_status, parameter_status_fault, backend_key_data, negotiate, is_options_refused}
use Rattle.pgw_startup.specs.Response.{encryption_response_of, answer_byte}
use Rattle.pgw_query.specs.Rows.{ready_for_query_of, command_complete_of, notification_response_of, parameter_description_of, row_description_of, data_row_of, status_byte, codes, codes_fault, row_description, is_refused, data_row, notification_response, is_notification_refused, info_response_of}
use Rattle.pgw_copy.specs.Rows.{copy_data_of, copy_fail_of, copy_response_of, formats, is_miscounted}
use Rattle.pgw_backend.specs.declared.backend.PgWireBackendMessage.{PgWireBackendMessage}
use Rattle.pgw_backend.specs.declared.backend.PgWireBackendMessage.TheVariants as backend
use Rattle.pgw_wire.specs.declared.limits.TheConstants.{LARGE_LIMIT, LONG_LIMIT, SMALL_BACKEND_LIMIT, SMALL_LIMIT}
use Rattle.pgw_wire.specs.Empty.{empty_request_of, empty_response_of}

-- COPY; another byte is no message
abbrev pub copy_by : ℕ → DecodeContext → List ℕ
    → Result (Option (PgWireBackendMessage × List ℕ)) PgWireError
copy_by byte ctx bytes =
    if byte == 100 then as_one_of backend.CopyData
    (wire_front (Typed 100) LARGE_LIMIT (copy_data_of ctx) bytes)
    else (if byte == 99 then as_one_of backend.CopyDone
    (wire_front (Typed 99) SMALL_LIMIT (empty_request_of 99 ctx) bytes)
    else (if byte == 102 then as_one_of backend.CopyFail
    (wire_front (Typed 102) SMALL_LIMIT (copy_fail_of ctx) bytes)
    else (if byte == 71 then as_one_of backend.CopyInResponse
    (wire_front (Typed 71) SMALL_BACKEND_LIMIT (copy_response_of 71 ctx) bytes)
    else (if byte == 72 then as_one_of backend.CopyOutResponse
    (wire_front (Typed 72) SMALL_BACKEND_LIMIT (copy_response_of 72 ctx) bytes)
    else (if byte == 87 then as_one_of backend.CopyBothResponse
    (wire_front (Typed 87) SMALL_BACKEND_LIMIT (copy_response_of 87 ctx) bytes)
    else (Err (InvalidMessageType byte)))))))

-- the extended query, and COPY
abbrev pub extended_by : ℕ → DecodeContext → List ℕ
    → Result (Option (PgWireBackendMessage × List ℕ)) PgWireError
extended_by byte ctx bytes =
    if byte == 49 then as_one_of backend.ParseComplete
    (wire_front (Typed 49) SMALL_BACKEND_LIMIT (empty_response_of 49 ctx) bytes)
    else (if byte == 50 then as_one_of backend.BindComplete
    (wire_front (Typed 50) SMALL_BACKEND_LIMIT (empty_response_of 50 ctx) bytes)
    else (if byte == 51 then as_one_of backend.CloseComplete
    (wire_front (Typed 51) SMALL_BACKEND_LIMIT (empty_response_of 51 ctx) bytes)
    else (if byte == 115 then as_one_of backend.PortalSuspended
    (wire_front (Typed 115) SMALL_BACKEND_LIMIT (empty_response_of 115 ctx) bytes)
    else (if byte == 110 then as_one_of backend.NoData
    (wire_front (Typed 110) SMALL_BACKEND_LIMIT (empty_response_of 110 ctx) bytes)
    else (if byte == 116 then as_one_of backend.ParameterDescription
    (wire_front (Typed 116) LONG_LIMIT (parameter_description_of ctx) bytes)
    else (copy_by byte ctx bytes))))))

-- queries, and those
abbrev pub query_by : ℕ → DecodeContext → List ℕ
    → Result (Option (PgWireBackendMessage × List ℕ)) PgWireError
query_by byte ctx bytes =
    if byte == 67 then as_one_of backend.CommandComplete
    (wire_front (Typed 67) SMALL_BACKEND_LIMIT (command_complete_of ctx) bytes)
    else (if byte == 73 then as_one_of backend.EmptyQueryResponse
    (wire_front (Typed 73) SMALL_BACKEND_LIMIT (empty_response_of 73 ctx) bytes)
    else (if byte == 90 then as_one_of backend.ReadyForQuery
    (wire_front (Typed 90) SMALL_BACKEND_LIMIT (ready_for_query_of ctx) bytes)
    else (if byte == 69 then as_one_of backend.ErrorResponse
    (wire_front (Typed 69) LONG_LIMIT (info_response_of 69 ctx) bytes)
    else (if byte == 78 then as_one_of backend.NoticeResponse
    (wire_front (Typed 78) LONG_LIMIT (info_response_of 78 ctx) bytes)
    else (if byte == 65 then as_one_of backend.NotificationResponse
    (wire_front (Typed 65) LONG_LIMIT (notification_response_of ctx) bytes)
    else (if byte == 84 then as_one_of backend.RowDescription
    (wire_front (Typed 84) LONG_LIMIT (row_description_of ctx) bytes)
    else (if byte == 68 then as_one_of backend.DataRow
    (wire_front (Typed 68) LONG_LIMIT (data_row_of ctx) bytes)
    else (extended_by byte ctx bytes))))))))

-- by the type byte: the login, and those
abbrev pub backend_by : ℕ → DecodeContext → List ℕ
    → Result (Option (PgWireBackendMessage × List ℕ)) PgWireError
backend_by byte ctx bytes =
    if byte == 82 then as_one_of backend.Authentication
    (wire_front (Typed 82) SMALL_BACKEND_LIMIT (authentication_of ctx) bytes)
    else (if byte == 83 then as_one_of backend.ParameterStatus
    (wire_front (Typed 83) SMALL_BACKEND_LIMIT (parameter_status_of ctx) bytes)
    else (if byte == 75 then as_one_of backend.BackendKeyData
    (wire_front (Typed 75) SMALL_BACKEND_LIMIT (backend_key_data_of ctx) bytes)
    else (if byte == 118 then as_one_of backend.NegotiateProtocolVersion
    (wire_front (Typed 118) SMALL_BACKEND_LIMIT (negotiate_of ctx) bytes)
    else (query_by byte ctx bytes))))

-- two bytes are looked for before the type byte is
abbrev pub backend_typed_front : DecodeContext → List ℕ
    → Result (Option (PgWireBackendMessage × List ℕ)) PgWireError
backend_typed_front ctx bytes =
    if nat_lt (length bytes) 2 then Ok None
    else backend_by (slice_index bytes 0) ctx bytes

-- one byte answers a request for encryption
unfoldable pub backend_front : DecodeContext → List ℕ
    → Result (Option (PgWireBackendMessage × List ℕ)) PgWireError
backend_front ctx bytes =
    if ctx.awaiting_backend_ssl_response then as_one_of backend.SslResponse
    (wire_front OneByte SMALL_LIMIT (encryption_response_of 83 ctx) bytes)
    else (if ctx.awaiting_backend_gss_response then as_one_of backend.GssEncResponse
    (wire_front OneByte SMALL_LIMIT (encryption_response_of 71 ctx) bytes)
    else backend_typed_front ctx bytes)

-- the one spelling that is written of a message, or why there is none
unfoldable pub backend_encoding : PgWireBackendMessage → Result (List ℕ) PgWireError
backend_encoding (backend.SslResponse m) = encoded OneByte SMALL_LIMIT None (answer_byte 83 m ∷ [])
backend_encoding (backend.GssEncResponse m) = encoded OneByte SMALL_LIMIT None
    (answer_byte 71 m ∷ [])
backend_encoding (backend.Authentication m) =
    encoded (Typed 82) SMALL_BACKEND_LIMIT (authentication_fault m) (authentication m)
backend_encoding (backend.ParameterStatus m) =
    encoded (Typed 83) SMALL_BACKEND_LIMIT (parameter_status_fault m) (parameter_status m)
backend_encoding (backend.BackendKeyData m) =
    encoded (Typed 75) SMALL_BACKEND_LIMIT (key_fault m.secret_key) (backend_key_data m)
backend_encoding (backend.NegotiateProtocolVersion m) =
    encoded (Typed 118) 30000 (refused_if (is_options_refused m.unsupported_options))
    (negotiate m)
backend_encoding (backend.ParseComplete m) = encoded (Typed 49) SMALL_BACKEND_LIMIT None []
backend_encoding (backend.BindComplete m) = encoded (Typed 50) SMALL_BACKEND_LIMIT None []
backend_encoding (backend.CloseComplete m) = encoded (Typed 51) SMALL_BACKEND_LIMIT None []
backend_encoding (backend.PortalSuspended m) = encoded (Typed 115) SMALL_BACKEND_LIMIT None []
backend_encoding (backend.EmptyQueryResponse m) = encoded (Typed 73) SMALL_BACKEND_LIMIT None []
backend_encoding (backend.NoData m) = encoded (Typed 110) SMALL_BACKEND_LIMIT None []
backend_encoding (backend.CommandComplete m) =
    encoded (Typed 67) SMALL_BACKEND_LIMIT (refused_if (has_zero m.tag)) (text m.tag)
backend_encoding (backend.ReadyForQuery m) =
    encoded (Typed 90) SMALL_BACKEND_LIMIT None (status_byte m.status ∷ [])
backend_encoding (backend.ErrorResponse m) =
    encoded (Typed 69) LONG_LIMIT (codes_fault m.fields) (codes m.fields)
backend_encoding (backend.NoticeResponse m) =
    encoded (Typed 78) LONG_LIMIT (codes_fault m.fields) (codes m.fields)
backend_encoding (backend.NotificationResponse m) =
    encoded (Typed 65) LONG_LIMIT (refused_if (is_notification_refused m))
    (notification_response m)
backend_encoding (backend.ParameterDescription m) =
    encoded (Typed 116) LONG_LIMIT (refused_if (is_too_long m.types)) (counted16 u32 m.types)
backend_encoding (backend.RowDescription m) =
    encoded (Typed 84) LONG_LIMIT (refused_if (is_refused m.fields)) (row_description m)
backend_encoding (backend.DataRow m) = encoded (Typed 68) LONG_LIMIT None (data_row m)
backend_encoding (backend.CopyData m) = encoded (Typed 100) LARGE_LIMIT None m.payload
backend_encoding (backend.CopyDone m) = encoded (Typed 99) SMALL_LIMIT None []
backend_encoding (backend.CopyFail m) =
    encoded (Typed 102) SMALL_LIMIT (refused_if (has_zero m.message)) (text m.message)
backend_encoding (backend.CopyInResponse m) =
    encoded (Typed 71) SMALL_BACKEND_LIMIT (refused_if (is_miscounted m.columns m.column_formats))
    (formats m.format m.columns m.column_formats)
backend_encoding (backend.CopyOutResponse m) =
    encoded (Typed 72) SMALL_BACKEND_LIMIT (refused_if (is_miscounted m.columns m.column_formats))
    (formats m.format m.columns m.column_formats)
backend_encoding (backend.CopyBothResponse m) =
    encoded (Typed 87) SMALL_BACKEND_LIMIT (refused_if (is_miscounted m.columns m.column_formats))
    (formats m.format m.columns m.column_formats)
