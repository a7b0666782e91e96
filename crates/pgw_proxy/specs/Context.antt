-- Under which context the messages of each side are read, and what a message makes of it (Message
-- Flow, "Start-up").
use Rattle.std.specs.Prelude.{◌||◌, Bool, true, false, pos, Option, Some, None, if◌then◌else◌}
use Rattle.pgw_types.specs.declared.context.ProtocolVersion.{ProtocolVersion}
use Rattle.pgw_types.specs.declared.context.ProtocolVersion.TheVariants.{PROTOCOL3_0, PROTOCOL3_2}
use Rattle.pgw_types.specs.declared.context.DecodeContext.{DecodeContext}
use Rattle.pgw_types.specs.Versions.{first_context}
use Rattle.pgw_startup.specs.Negotiate.{negotiated_version}
use Rattle.pgw_startup.specs.declared.response.EncryptionResponse.TheVariants as answer
use Rattle.pgw_startup.specs.declared.negotiate.NegotiateProtocolVersion.{NegotiateProtocolVersion}
use Rattle.pgw_backend.specs.declared.backend.PgWireBackendMessage.{PgWireBackendMessage as Backend}
use Rattle.pgw_backend.specs.declared.backend.PgWireBackendMessage.TheVariants as backend
use Rattle.pgw_frontend.specs.declared.frontend.PgWireFrontendMessage.{PgWireFrontendMessage as Frontend}
use Rattle.pgw_frontend.specs.declared.frontend.PgWireFrontendMessage.TheVariants as frontend
use Rattle.pgw_codec.specs.Phase.{phase_behind, with_codec_version}
use Rattle.pgw_proxy.specs.declared.context.Context.{Context}

-- as a connection begins, before any Startup: a server's messages are read at 3.0
abbrev pub first : Context
first = record { decode = first_context PROTOCOL3_0; ready = false }

-- a client's messages are read at 3.2, whatever is agreed
abbrev pub client_context : Context → DecodeContext
client_context c = with_codec_version PROTOCOL3_2 c.decode

-- the answer to a request for encryption is due
abbrev pub is_due : Context → Bool
is_due c = c.decode.awaiting_backend_ssl_response || c.decode.awaiting_backend_gss_response

-- no Startup came yet
abbrev pub is_unstarted : Context → Bool
is_unstarted c = c.decode.awaiting_frontend_startup

-- ---- a client's message

-- a first message is awaited, and no request for encryption may come any more
abbrev pub past_requests : DecodeContext → DecodeContext
past_requests ctx = record ctx { awaiting_frontend_ssl = false; awaiting_frontend_startup = true }

-- each message has a type byte from now on
abbrev pub past_startup : DecodeContext → DecodeContext
past_startup ctx = record ctx { awaiting_frontend_ssl = false; awaiting_frontend_startup = false }

-- under the version that is offered, if it is known
abbrev pub at_version : Option ProtocolVersion → DecodeContext → DecodeContext
at_version None ctx = ctx
at_version (Some version) ctx = with_codec_version version ctx

-- A Startup sets the version by its minor number, and a CancelRequest stands where one may. Behind
-- a request for encryption its answer is due.
unfoldable pub behind_client : Frontend → Context → Context
behind_client (frontend.Startup m) c =
    record c {
      decode = at_version (negotiated_version (pos m.protocol_number_minor))
          (past_startup c.decode);
    }
behind_client (frontend.CancelRequest m) c = record c { decode = past_requests c.decode }
behind_client m c = record c { decode = phase_behind m c.decode }

-- ---- a server's message

-- no answer is due any more
abbrev pub no_answer_due : DecodeContext → DecodeContext
no_answer_due ctx =
    record ctx { awaiting_backend_ssl_response = false; awaiting_backend_gss_response = false }

-- between a Startup and the first ReadyForQuery a server may offer another version
abbrev pub with_version_offer : NegotiateProtocolVersion → Context → Context
with_version_offer m c = if c.ready || is_unstarted c then c
    else record c { decode = at_version (negotiated_version m.newest_minor_protocol) c.decode }

unfoldable pub behind_server : Backend → Context → Context
behind_server (backend.SslResponse m) c = record c { decode = no_answer_due c.decode }
behind_server (backend.GssEncResponse m) c = record c { decode = no_answer_due c.decode }
behind_server (backend.NegotiateProtocolVersion m) c = with_version_offer m c
behind_server (backend.ReadyForQuery m) c = record c { ready = true }
behind_server m c = c

-- the server goes on encrypted, and what follows cannot be read
abbrev pub is_accepted : Backend → Bool
is_accepted (backend.SslResponse answer.Accept) = true
is_accepted (backend.GssEncResponse answer.Accept) = true
is_accepted m = false
