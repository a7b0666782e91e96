-- What a client writes, and what stands at the front of what it wrote.
use Rattle.std.specs.Prelude.{ℕ, Bool, true, false, List, [], ◌∷◌, ◌++◌, length, Option, Some, None, Result, Ok, Err, nat_lt, ◌==◌, if◌then◌else◌, slice_index}
use Rattle.pgw_types.specs.declared.error.PgWireError.{PgWireError}
use Rattle.pgw_types.specs.declared.error.PgWireError.TheVariants.{InvalidMessageType}
use Rattle.pgw_types.specs.declared.context.DecodeContext.{DecodeContext}
use Rattle.pgw_wire.specs.declared.framing.Framing.TheVariants.{Typed, Untyped, Opening, Code}
use Rattle.pgw_wire.specs.Framing.{wire_front, encoded, as_one_of}
use Rattle.pgw_wire.specs.Keys.{key_fault}
use Rattle.pgw_wire.specs.Writing.{text, i32, u32, has_zero, refused_if}
use Rattle.pgw_startup.specs.Startup.{startup_of, startup, is_startup_refused}
use Rattle.pgw_startup.specs.declared.password.PasswordMessageFamily.{PasswordMessageFamily}
use Rattle.pgw_startup.specs.Password.{family_of, password_body, password_fault}
use Rattle.pgw_control.specs.Openings.{has_code, ssl_request_of, gss_enc_request_of, cancel_request_of, cancel_request}
use Rattle.pgw_query.specs.Rows.{query_of}
use Rattle.pgw_ext.specs.Kinds.{name, is_name_refused}
use Rattle.pgw_ext.specs.Rows.{parse_of, parse, is_parse_refused, bind_of, bind, is_bind_refused, close_of, describe_of, execute_of}
use Rattle.pgw_copy.specs.Rows.{copy_data_of, copy_fail_of}
use Rattle.pgw_frontend.specs.declared.frontend.SslNegotiationMetaMessage.TheVariants as negotiation
use Rattle.pgw_frontend.specs.declared.frontend.PgWireFrontendMessage.{PgWireFrontendMessage}
use Rattle.pgw_frontend.specs.declared.frontend.PgWireFrontendMessage.TheVariants as frontend
use Rattle.pgw_wire.specs.declared.limits.TheConstants.{LARGE_LIMIT, SMALL_BACKEND_LIMIT, SMALL_LIMIT}
use Rattle.pgw_wire.specs.Empty.{empty_request_of}

-- ---- writing

abbrev pub password_encoding : PasswordMessageFamily → Result (List ℕ) PgWireError
password_encoding m = encoded (Typed 112) SMALL_LIMIT (password_fault m) (password_body m)

-- the one spelling that is written of a message, or why there is none
unfoldable pub encoding : PgWireFrontendMessage → Result (List ℕ) PgWireError
encoding (frontend.SslNegotiation (negotiation.PostgresSsl m)) =
    encoded Code SMALL_LIMIT None (u32 80877103)
encoding (frontend.SslNegotiation (negotiation.PostgresGss m)) =
    encoded Code SMALL_LIMIT None (u32 80877104)
encoding (frontend.SslNegotiation negotiation.None) = Ok []
encoding (frontend.Startup m) =
    encoded Untyped SMALL_LIMIT (refused_if (is_startup_refused m)) (startup m)
encoding (frontend.CancelRequest m) =
    encoded (Opening 80877102) SMALL_LIMIT (key_fault m.secret_key) (cancel_request m)
encoding (frontend.PasswordMessageFamily m) = password_encoding m
encoding (frontend.PortalSuspended m) = encoded (Typed 115) SMALL_BACKEND_LIMIT None []
encoding (frontend.Query m) =
    encoded (Typed 81) LARGE_LIMIT (refused_if (has_zero m.query)) (text m.query)
encoding (frontend.Parse m) =
    encoded (Typed 80) LARGE_LIMIT (refused_if (is_parse_refused m)) (parse m)
encoding (frontend.Bind m) =
    encoded (Typed 66) LARGE_LIMIT (refused_if (is_bind_refused m)) (bind m)
encoding (frontend.Close m) =
    encoded (Typed 67) SMALL_LIMIT (refused_if (is_name_refused m.name))
    (m.target_type ∷ name m.name)
encoding (frontend.Describe m) =
    encoded (Typed 68) SMALL_LIMIT (refused_if (is_name_refused m.name))
    (m.target_type ∷ name m.name)
encoding (frontend.Execute m) =
    encoded (Typed 69) SMALL_LIMIT (refused_if (is_name_refused m.name))
    (name m.name ++ i32 m.max_rows)
encoding (frontend.Flush m) = encoded (Typed 72) SMALL_LIMIT None []
encoding (frontend.Sync m) = encoded (Typed 83) SMALL_LIMIT None []
encoding (frontend.Terminate m) = encoded (Typed 88) SMALL_LIMIT None []
encoding (frontend.CopyData m) = encoded (Typed 100) LARGE_LIMIT None m.payload
encoding (frontend.CopyDone m) = encoded (Typed 99) SMALL_LIMIT None []
encoding (frontend.CopyFail m) =
    encoded (Typed 102) SMALL_LIMIT (refused_if (has_zero m.message)) (text m.message)

-- one after the other; the first refusal decides
abbrev pub both : Result (List ℕ) PgWireError → Result (List ℕ) PgWireError
    → Result (List ℕ) PgWireError
both (Err e) next = Err e
both (Ok a) (Err e) = Err e
both (Ok a) (Ok b) = Ok (a ++ b)

-- the spellings of some messages, one after the other, where each has one
abbrev pub encodings : List PgWireFrontendMessage → Result (List ℕ) PgWireError
encodings [] = Ok []
encodings (m ∷ ms) = both (encoding m) (encodings ms)

-- ---- reading

-- while a request for encryption may come: with no such code, that none was asked for
unfoldable pub negotiation_front : DecodeContext → List ℕ
    → Result (Option (PgWireFrontendMessage × List ℕ)) PgWireError
negotiation_front ctx bytes =
    if nat_lt (length bytes) 8 then Ok None
    else (if has_code 80877103 bytes then as_one_of
    (λ m. frontend.SslNegotiation (negotiation.PostgresSsl m))
    (wire_front Code SMALL_LIMIT (ssl_request_of ctx) bytes)
    else (if has_code 80877104 bytes then as_one_of
    (λ m. frontend.SslNegotiation (negotiation.PostgresGss m))
    (wire_front Code SMALL_LIMIT (gss_enc_request_of ctx) bytes)
    else Ok (Some (frontend.SslNegotiation negotiation.None, bytes))))

-- while the first message may come
unfoldable pub first_front : DecodeContext → List ℕ
    → Result (Option (PgWireFrontendMessage × List ℕ)) PgWireError
first_front ctx bytes =
    if nat_lt (length bytes) 8 then Ok None
    else (if has_code 80877102 bytes then as_one_of frontend.CancelRequest
    (wire_front (Opening 80877102) SMALL_LIMIT (cancel_request_of ctx) bytes)
    else as_one_of frontend.Startup (wire_front Untyped SMALL_LIMIT (startup_of ctx) bytes))

-- by the type byte
abbrev pub frontend_by : ℕ → DecodeContext → List ℕ
    → Result (Option (PgWireFrontendMessage × List ℕ)) PgWireError
frontend_by byte ctx bytes =
    if byte == 112 then as_one_of frontend.PasswordMessageFamily
    (wire_front (Typed 112) SMALL_LIMIT (family_of ctx) bytes)
    else (if byte == 81 then as_one_of frontend.Query
    (wire_front (Typed 81) LARGE_LIMIT (query_of ctx) bytes)
    else (if byte == 80 then as_one_of frontend.Parse
    (wire_front (Typed 80) LARGE_LIMIT (parse_of ctx) bytes)
    else (if byte == 66 then as_one_of frontend.Bind
    (wire_front (Typed 66) LARGE_LIMIT (bind_of ctx) bytes)
    else (if byte == 67 then as_one_of frontend.Close
    (wire_front (Typed 67) SMALL_LIMIT (close_of ctx) bytes)
    else (if byte == 68 then as_one_of frontend.Describe
    (wire_front (Typed 68) SMALL_LIMIT (describe_of ctx) bytes)
    else (if byte == 69 then as_one_of frontend.Execute
    (wire_front (Typed 69) SMALL_LIMIT (execute_of ctx) bytes)
    else (if byte == 72 then as_one_of frontend.Flush
    (wire_front (Typed 72) SMALL_LIMIT (empty_request_of 72 ctx) bytes)
    else (if byte == 83 then as_one_of frontend.Sync
    (wire_front (Typed 83) SMALL_LIMIT (empty_request_of 83 ctx) bytes)
    else (if byte == 88 then as_one_of frontend.Terminate
    (wire_front (Typed 88) SMALL_LIMIT (empty_request_of 88 ctx) bytes)
    else (if byte == 100 then as_one_of frontend.CopyData
    (wire_front (Typed 100) LARGE_LIMIT (copy_data_of ctx) bytes)
    else (if byte == 99 then as_one_of frontend.CopyDone
    (wire_front (Typed 99) SMALL_LIMIT (empty_request_of 99 ctx) bytes)
    else (if byte == 102 then as_one_of frontend.CopyFail
    (wire_front (Typed 102) SMALL_LIMIT (copy_fail_of ctx) bytes)
    else Err (InvalidMessageType byte)))))))))))))

-- two bytes are looked for before the type byte is
unfoldable pub typed_front : DecodeContext → List ℕ
    → Result (Option (PgWireFrontendMessage × List ℕ)) PgWireError
typed_front ctx bytes =
    if nat_lt (length bytes) 2 then Ok None else frontend_by (slice_index bytes 0) ctx bytes

unfoldable pub frontend_front : DecodeContext → List ℕ
    → Result (Option (PgWireFrontendMessage × List ℕ)) PgWireError
frontend_front ctx bytes =
    if ctx.awaiting_frontend_ssl then negotiation_front ctx bytes
    else (if ctx.awaiting_frontend_startup then first_front ctx bytes
    else typed_front ctx bytes)

-- ---- what a message is a part of

abbrev pub is_extended : PgWireFrontendMessage → Bool
is_extended (frontend.Parse m) = true
is_extended (frontend.Bind m) = true
is_extended (frontend.Close m) = true
is_extended (frontend.Describe m) = true
is_extended (frontend.Execute m) = true
is_extended (frontend.PortalSuspended m) = true
is_extended (frontend.Flush m) = true
is_extended (frontend.Sync m) = true
is_extended m = false
