-- What a client finds at the front of the bytes that came.
use Rattle.std.specs.Prelude.{◌≡◌, ℕ, ◌-◌, List, length, Option, Some, None, Result, Ok, Err, true, false}
use Rattle.pgw_types.specs.declared.error.PgWireError.{PgWireError}
use Rattle.pgw_types.specs.declared.context.ProtocolVersion.{ProtocolVersion}
use Rattle.pgw_types.specs.declared.context.DecodeContext.{DecodeContext}
use Rattle.pgw_backend.specs.declared.backend.PgWireBackendMessage.{PgWireBackendMessage}
use Rattle.pgw_backend.specs.declared.backend.PgWireBackendMessage.TheVariants as backend
use Rattle.pgw_wire.specs.Formats.{SpellsTyped, NoBody}
use Rattle.pgw_startup.specs.Login.{SpellsAuthentication, SpellsParameterStatus, SpellsBackendKeyData, SpellsNegotiate}
use Rattle.pgw_startup.specs.Response.{SpellsEncryptionResponse}
use Rattle.pgw_query.specs.Rows.{SpellsCommandComplete, SpellsReadyForQuery, SpellsNotificationResponse, SpellsParameterDescription, SpellsRowDescription, SpellsDataRow, SpellsInfoResponse}
use Rattle.pgw_copy.specs.Rows.{SpellsCopyData, SpellsCopyFail, SpellsCopyResponse}
use Rattle.pgw_backend.specs.Backend.{backend_front}
use Rattle.pgw_wire.specs.declared.limits.TheConstants.{LARGE_LIMIT, LONG_LIMIT, SMALL_BACKEND_LIMIT, SMALL_LIMIT}

-- more bytes are needed, or a refusal, or a message with its length
pub data BackendFront : Type 0 where
  More : BackendFront
  Bad : (why : PgWireError) → BackendFront
  Whole : (m : PgWireBackendMessage) → (len : ℕ) → BackendFront

-- the phase in which each message has a type byte
abbrev pub typed_phase : ProtocolVersion → DecodeContext
typed_phase version = record {
  protocol_version = version;
  awaiting_frontend_ssl = false;
  awaiting_frontend_startup = false;
  awaiting_backend_ssl_response = false;
  awaiting_backend_gss_response = false;
}

abbrev pub front_of : List ℕ → Result (Option (PgWireBackendMessage × List ℕ)) PgWireError
    → BackendFront
front_of bytes (Err e) = Bad e
front_of bytes (Ok None) = More
front_of bytes (Ok (Some x)) = Whole x.0 (length bytes - length x.1)

unfoldable pub front : ProtocolVersion → List ℕ → BackendFront
front version bytes = front_of bytes (backend_front (typed_phase version) bytes)

-- these bytes, and no others, spell the message: its type byte, a length that is at most the row's limit, and its fields; or the one byte of an answer
abbrev pub Spelled : ProtocolVersion → PgWireBackendMessage → List ℕ → Type 0
Spelled version (backend.SslResponse m) = SpellsEncryptionResponse m
Spelled version (backend.GssEncResponse m) = SpellsEncryptionResponse m
Spelled version (backend.Authentication m) =
    SpellsTyped 82 SMALL_BACKEND_LIMIT SpellsAuthentication m
Spelled version (backend.ParameterStatus m) =
    SpellsTyped 83 SMALL_BACKEND_LIMIT SpellsParameterStatus m
Spelled version (backend.BackendKeyData m) =
    SpellsTyped 75 SMALL_BACKEND_LIMIT (SpellsBackendKeyData version) m
Spelled version (backend.NegotiateProtocolVersion m) =
    SpellsTyped 118 SMALL_BACKEND_LIMIT SpellsNegotiate m
Spelled version (backend.ParseComplete m) = SpellsTyped 49 SMALL_BACKEND_LIMIT NoBody m
Spelled version (backend.BindComplete m) = SpellsTyped 50 SMALL_BACKEND_LIMIT NoBody m
Spelled version (backend.CloseComplete m) = SpellsTyped 51 SMALL_BACKEND_LIMIT NoBody m
Spelled version (backend.PortalSuspended m) = SpellsTyped 115 SMALL_BACKEND_LIMIT NoBody m
Spelled version (backend.EmptyQueryResponse m) = SpellsTyped 73 SMALL_BACKEND_LIMIT NoBody m
Spelled version (backend.NoData m) = SpellsTyped 110 SMALL_BACKEND_LIMIT NoBody m
Spelled version (backend.CommandComplete m) =
    SpellsTyped 67 SMALL_BACKEND_LIMIT SpellsCommandComplete m
Spelled version (backend.ReadyForQuery m) =
    SpellsTyped 90 SMALL_BACKEND_LIMIT SpellsReadyForQuery m
Spelled version (backend.ErrorResponse m) = SpellsTyped 69 LONG_LIMIT SpellsInfoResponse m
Spelled version (backend.NoticeResponse m) = SpellsTyped 78 LONG_LIMIT SpellsInfoResponse m
Spelled version (backend.NotificationResponse m) =
    SpellsTyped 65 LONG_LIMIT SpellsNotificationResponse m
Spelled version (backend.ParameterDescription m) =
    SpellsTyped 116 LONG_LIMIT SpellsParameterDescription m
Spelled version (backend.RowDescription m) = SpellsTyped 84 LONG_LIMIT SpellsRowDescription m
Spelled version (backend.DataRow m) = SpellsTyped 68 LONG_LIMIT SpellsDataRow m
Spelled version (backend.CopyData m) = SpellsTyped 100 LARGE_LIMIT SpellsCopyData m
Spelled version (backend.CopyDone m) = SpellsTyped 99 SMALL_LIMIT NoBody m
Spelled version (backend.CopyFail m) = SpellsTyped 102 SMALL_LIMIT SpellsCopyFail m
Spelled version (backend.CopyInResponse m) =
    SpellsTyped 71 SMALL_BACKEND_LIMIT SpellsCopyResponse m
Spelled version (backend.CopyOutResponse m) =
    SpellsTyped 72 SMALL_BACKEND_LIMIT SpellsCopyResponse m
Spelled version (backend.CopyBothResponse m) =
    SpellsTyped 87 SMALL_BACKEND_LIMIT SpellsCopyResponse m

-- the phase in which the message comes
abbrev pub AwaitsBackend : DecodeContext → PgWireBackendMessage → Type 0
AwaitsBackend ctx (backend.SslResponse m) = ctx.awaiting_backend_ssl_response ≡ true
AwaitsBackend ctx (backend.GssEncResponse m) =
    (ctx.awaiting_backend_ssl_response ≡ false) × (ctx.awaiting_backend_gss_response ≡ true)
AwaitsBackend ctx m =
    (ctx.awaiting_backend_ssl_response ≡ false) × (ctx.awaiting_backend_gss_response ≡ false)

-- the bytes spell the message in this context
unfoldable pub SpellsIn : DecodeContext → PgWireBackendMessage → List ℕ → Type 0
SpellsIn ctx m bytes = AwaitsBackend ctx m × Spelled ctx.protocol_version m bytes

abbrev pub Spells : ProtocolVersion → PgWireBackendMessage → List ℕ → Type 0
Spells version m bytes = SpellsIn (typed_phase version) m bytes
