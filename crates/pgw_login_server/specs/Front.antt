-- What stands at the front of the bytes of a client that logs in (Message Flow, "Start-up", "Canceling Requests in Progress", "SSL Session Encryption", "GSSAPI Session Encryption").
use Rattle.std.specs.Prelude.{ℕ, ◌-◌, Bool, true, false, List, length, take, Option, Some, None, Result, Ok, Err, if◌then◌else◌}
use Rattle.pgw_types.specs.declared.error.PgWireError.{PgWireError}
use Rattle.pgw_types.specs.declared.context.ProtocolVersion.{ProtocolVersion}
use Rattle.pgw_types.specs.declared.context.DecodeContext.{DecodeContext}
use Rattle.pgw_wire.specs.Reading.{◌>>=◌}
use Rattle.pgw_wire.specs.Framing.{length_frame}
use Rattle.pgw_frontend.specs.declared.frontend.SslNegotiationMetaMessage.TheVariants as negotiation
use Rattle.pgw_frontend.specs.declared.frontend.PgWireFrontendMessage.{PgWireFrontendMessage as Message}
use Rattle.pgw_frontend.specs.declared.frontend.PgWireFrontendMessage.TheVariants as frontend
use Rattle.pgw_frontend.specs.Frontend.{frontend_front}
use Rattle.pgw_machine.specs.Course.{Front, More, Bad, Whole}

-- which message comes next where its first byte does not tell: a request for encryption, or the first one
abbrev pub phase : Bool → Bool → ProtocolVersion → DecodeContext
phase encryption first version = record {
  protocol_version = version;
  awaiting_frontend_ssl = encryption;
  awaiting_frontend_startup = first;
  awaiting_backend_ssl_response = false;
  awaiting_backend_gss_response = false;
}

-- whether the bytes ask for no encryption, and begin a first message
abbrev pub asks_for_none : Message → Bool
asks_for_none (frontend.SslNegotiation negotiation.None) = true
asks_for_none m = false

-- what was found, or the first message where no encryption is asked for
abbrev pub or_first_message : ProtocolVersion → Result (Option (Message × List ℕ)) PgWireError
    → Result (Option (Message × List ℕ)) PgWireError
or_first_message version (Err e) = Err e
or_first_message version (Ok None) = Ok None
or_first_message version (Ok (Some x)) =
    if asks_for_none x.0 then frontend_front (phase false true version) x.1 else Ok (Some x)

-- A message with a type byte, of which its header says the length. Under a bound, what is refused of the header alone comes
-- first, and then a length above the bound, before any byte of the body is looked at.
abbrev pub typed_within : Option ℕ → ProtocolVersion → List ℕ
    → Result (Option (Message × List ℕ)) PgWireError
typed_within None version bytes = frontend_front (phase false false version) bytes
typed_within (Some bound) version bytes =
    frontend_front (phase false false version) (take 5 bytes)
    >>= (λ header. length_frame 1 bound bytes
    >>= (λ frame. frontend_front (phase false false version) bytes))

-- Before the startup message, requests for encryption may stand, and a request to cancel in its place. Each message after
-- it has a type byte, and is bounded.
abbrev pub client_front : Bool → Option ℕ → ProtocolVersion → List ℕ
    → Result (Option (Message × List ℕ)) PgWireError
client_front false bound version bytes =
    or_first_message version (frontend_front (phase true true version) bytes)
client_front true bound version bytes = typed_within bound version bytes

-- as client_front, as a machine reads it: a message with its length
abbrev pub server_front : {M : Type 0} → List ℕ → Result (Option (M × List ℕ)) PgWireError
    → Front M PgWireError
server_front bytes (Err e) = Bad e
server_front bytes (Ok None) = More
server_front bytes (Ok (Some x)) = Whole x.0 (length bytes - length x.1)
