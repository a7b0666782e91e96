-- Messages whose body has no bytes (PostgreSQL 18, section 54.7, Message Formats).
use Rattle.std.specs.Prelude.{ℕ, List, Result, Ok}
use Rattle.pgw_types.specs.declared.error.PgWireError.{PgWireError}
use Rattle.pgw_types.specs.declared.context.DecodeContext.{DecodeContext}
use Rattle.pgw_wire.specs.Reading.{all_of}
use Rattle.pgw_wire.specs.declared.empty.EmptyRequest.{EmptyRequest}
use Rattle.pgw_wire.specs.declared.empty.EmptyResponse.{EmptyResponse}

-- Terminate, Sync, Flush and CopyDone, by their type bytes
unfoldable pub empty_request_of : (byte : ℕ) → DecodeContext → List ℕ
    → Result (EmptyRequest byte) PgWireError
empty_request_of byte ctx bytes = all_of (Ok (record {}, bytes))

-- ParseComplete, BindComplete, CloseComplete, PortalSuspended, EmptyQueryResponse and NoData, by
-- their type bytes
unfoldable pub empty_response_of : (byte : ℕ) → DecodeContext → List ℕ
    → Result (EmptyResponse byte) PgWireError
empty_response_of byte ctx bytes = all_of (Ok (record {}, bytes))
