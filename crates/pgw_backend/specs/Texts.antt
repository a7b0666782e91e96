-- Messages whose texts are UTF-8 and whose numbers fit, as every value of the program's is.
use Rattle.std.specs.Prelude.{IsUtf8}
use Rattle.pgw_types.specs.declared.context.ProtocolVersion.{ProtocolVersion}
use Rattle.pgw_startup.specs.Sound.{IsAuthentication, IsParameterStatus, IsBackendKeyData, IsNegotiate}
use Rattle.pgw_wire.specs.Keys.{SuitsKey}
use Rattle.pgw_query.specs.Sound.{AreCoded, AreFields, IsDataRow, IsNotification, IsParameterDescription}
use Rattle.pgw_copy.specs.Sound.{IsCopyFail, AreColumns}
use Rattle.pgw_backend.specs.declared.backend.PgWireBackendMessage.{PgWireBackendMessage}
use Rattle.pgw_backend.specs.declared.backend.PgWireBackendMessage.TheVariants as backend

abbrev pub IsSound : PgWireBackendMessage → Type 0
IsSound (backend.Authentication m) = IsAuthentication m
IsSound (backend.ParameterStatus m) = IsParameterStatus m
IsSound (backend.BackendKeyData m) = IsBackendKeyData m
IsSound (backend.NegotiateProtocolVersion m) = IsNegotiate m
IsSound (backend.CommandComplete m) = IsUtf8 m.tag
IsSound (backend.ErrorResponse m) = AreCoded m.fields
IsSound (backend.NoticeResponse m) = AreCoded m.fields
IsSound (backend.NotificationResponse m) = IsNotification m
IsSound (backend.ParameterDescription m) = IsParameterDescription m
IsSound (backend.RowDescription m) = AreFields m.fields
IsSound (backend.DataRow m) = IsDataRow m
IsSound (backend.CopyFail m) = IsCopyFail m
IsSound (backend.CopyInResponse m) = AreColumns m.format m.columns m.column_formats
IsSound (backend.CopyOutResponse m) = AreColumns m.format m.columns m.column_formats
IsSound (backend.CopyBothResponse m) = AreColumns m.format m.columns m.column_formats
IsSound m = Unit {0}

-- only a key hangs on the version
abbrev pub Suits : ProtocolVersion → PgWireBackendMessage → Type 0
Suits version (backend.BackendKeyData m) = SuitsKey version m.secret_key
Suits version m = Unit {0}
