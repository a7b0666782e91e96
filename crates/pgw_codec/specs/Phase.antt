-- In which phase a server's next byte is read (Message Flow: SSL and GSSAPI session encryption).
use Rattle.std.specs.Prelude.{true, false}
use Rattle.pgw_types.specs.declared.context.ProtocolVersion.{ProtocolVersion}
use Rattle.pgw_types.specs.declared.context.DecodeContext.{DecodeContext}
use Rattle.pgw_frontend.specs.declared.frontend.SslNegotiationMetaMessage.TheVariants as negotiation
use Rattle.pgw_frontend.specs.declared.frontend.PgWireFrontendMessage.{PgWireFrontendMessage}
use Rattle.pgw_frontend.specs.declared.frontend.PgWireFrontendMessage.TheVariants as frontend

-- A request for encryption is answered by one byte. Behind any other message each message has a type byte.
abbrev pub phase_behind : PgWireFrontendMessage → DecodeContext → DecodeContext
phase_behind (frontend.SslNegotiation (negotiation.PostgresSsl m)) ctx =
    record ctx { awaiting_backend_ssl_response = true }
phase_behind (frontend.SslNegotiation (negotiation.PostgresGss m)) ctx =
    record ctx { awaiting_backend_gss_response = true }
phase_behind m ctx =
    record ctx { awaiting_backend_ssl_response = false; awaiting_backend_gss_response = false }

abbrev pub with_codec_version : ProtocolVersion → DecodeContext → DecodeContext
with_codec_version version ctx = record ctx { protocol_version = version }
