-- What stands at the front of the bytes that one side sent and that were not passed on yet.
use Rattle.std.specs.Prelude.{◌≡◌, ◌≢◌, List, ℕ, Bool, true, false, Option, Some, None, Result}
use Rattle.std.specs.Prelude.{Ok, Err}
use Rattle.std.specs.Prelude.{if◌then◌else◌}
use Rattle.pgw_types.specs.declared.error.PgWireError.{PgWireError}
use Rattle.pgw_types.specs.declared.error.PgWireError.TheVariants as wire
use Rattle.pgw_types.specs.declared.context.DecodeContext.{DecodeContext}
use Rattle.pgw_backend.specs.declared.backend.PgWireBackendMessage.{PgWireBackendMessage as Backend}
use Rattle.pgw_backend.specs.Backend.{backend_front}
use Rattle.pgw_frontend.specs.declared.frontend.SslNegotiationMetaMessage.TheVariants as negotiation
use Rattle.pgw_frontend.specs.declared.frontend.PgWireFrontendMessage.{PgWireFrontendMessage as Frontend}
use Rattle.pgw_frontend.specs.declared.frontend.PgWireFrontendMessage.TheVariants as frontend
use Rattle.pgw_frontend.specs.Frontend.{frontend_front}
use Rattle.pgw_proxy.specs.declared.context.Context.{Context}
use Rattle.pgw_proxy.specs.declared.recorded.Side.{Side}
use Rattle.pgw_proxy.specs.declared.recorded.Side.TheVariants.{Client, Server}
use Rattle.pgw_proxy.specs.declared.recorded.Recorded.{Recorded}
use Rattle.pgw_proxy.specs.declared.recorded.Recorded.TheVariants as recorded
use Rattle.pgw_proxy.specs.declared.fault.ProxyFault.{ProxyFault}
use Rattle.pgw_proxy.specs.declared.fault.ProxyFault.TheVariants as fault
use Rattle.pgw_proxy.specs.Context.{client_context, is_due, past_requests, behind_client}
use Rattle.pgw_proxy.specs.Context.{behind_server, is_accepted}

-- ---- as it is read

-- what a reader finds: a message and the bytes behind it, or nothing yet, or a refusal
abbrev pub RelayFinding : Type 0 → Type 0
RelayFinding M = Result (Option (M × List ℕ)) PgWireError

-- whether the bytes ask for no encryption, and begin a first message
abbrev pub client_asks_none : Frontend → Bool
client_asks_none (frontend.SslNegotiation negotiation.None) = true
client_asks_none m = false

-- that no encryption is asked for is passed over
abbrev pub front_past_encryption : DecodeContext → RelayFinding Frontend → RelayFinding Frontend
front_past_encryption ctx (Err e) = Err e
front_past_encryption ctx (Ok None) = Ok None
front_past_encryption ctx (Ok (Some x)) =
    if client_asks_none x.0 then frontend_front (past_requests ctx) x.1 else Ok (Some x)

-- a client's message
unfoldable pub client_side_front : DecodeContext → List ℕ → RelayFinding Frontend
client_side_front ctx bytes =
    if ctx.awaiting_frontend_ssl then front_past_encryption ctx (frontend_front ctx bytes)
    else frontend_front ctx bytes

-- ---- as it is passed on

-- a refusal of that side's bytes, or that memory was wanting
abbrev pub refused : (PgWireError → ProxyFault) → PgWireError → ProxyFault
refused make wire.OutOfMemory = fault.OutOfMemory
refused make e = make e

-- a message, the bytes behind it, and the context behind it
abbrev pub RelayFront : Type 0
RelayFront = Recorded × (List ℕ × Context)

-- a client does not go on while the answer to its request for encryption is due
abbrev pub of_client : Context → RelayFinding Frontend → Result (Option RelayFront) ProxyFault
of_client c (Err e) = Err (refused fault.Client e)
of_client c (Ok None) = Ok None
of_client c (Ok (Some x)) = if is_due c then Err fault.Negotiation
    else Ok (Some (recorded.Frontend x.0, (x.1, behind_client x.0 c)))

-- that the server goes on encrypted is not passed on
abbrev pub of_server : Context → RelayFinding Backend → Result (Option RelayFront) ProxyFault
of_server c (Err e) = Err (refused fault.Server e)
of_server c (Ok None) = Ok None
of_server c (Ok (Some x)) = if is_accepted x.0 then Err fault.TlsAccepted
    else Ok (Some (recorded.Backend x.0, (x.1, behind_server x.0 c)))

-- what stands at the front of a side's bytes: a message to be passed on, or nothing yet, or a fault
unfoldable pub side_front : Side → Context → List ℕ → Result (Option RelayFront) ProxyFault
side_front Client c bytes = of_client c (client_side_front (client_context c) bytes)
side_front Server c bytes = of_server c (backend_front c.decode bytes)

-- ---- a call

-- It gave what stands at the front, and took its bytes and no others, or memory was wanting.
abbrev pub GivesSideFront : Side → Context → List ℕ → Context → List ℕ
    → Result (Option Recorded) ProxyFault → Type 0
GivesSideFront side c bytes next rest (Ok None) =
    (next ≡ c) × (rest ≡ bytes) × (side_front side c bytes ≡ Ok None)
GivesSideFront side c bytes next rest (Ok (Some m)) =
    side_front side c bytes ≡ Ok (Some (m, (rest, next)))
GivesSideFront side c bytes next rest (Err f) =
    f ≢ fault.OutOfMemory → side_front side c bytes ≡ Err f
