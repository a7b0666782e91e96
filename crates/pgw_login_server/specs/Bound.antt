-- How much a core keeps of a client that has not logged in.
use Rattle.std.specs.Prelude.{◌≡◌, ◌≢◌, ℕ, false, List, take, Option, Some, Result}
use Rattle.pgw_types.specs.declared.error.PgWireError.{PgWireError}
use Rattle.pgw_frontend.specs.declared.frontend.PgWireFrontendMessage.{PgWireFrontendMessage as Message}
use Rattle.pgw_frontend.specs.Frontend.{frontend_front}
use Rattle.pgw_login.specs.declared.client_info.PgWireConnectionState.TheVariants.{ReadyForQuery}
use Rattle.pgw_login_server.specs.Front.{phase}
use Rattle.pgw_login_server.specs.Server.{Stage}

-- the client may not ask yet, and there is a bound
abbrev pub IsBounded : Stage → ℕ → Type 0
IsBounded stage bound = (stage.bound ≡ Some bound) × (stage.client.state ≢ ReadyForQuery)

-- what the type byte and the length field of a message come to, alone
abbrev pub header_front : Stage → List ℕ → Result (Option (Message × List ℕ)) PgWireError
header_front stage bytes =
    frontend_front (phase false false stage.client.protocol_version) (take 5 bytes)
