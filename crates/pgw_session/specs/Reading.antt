-- How a client reads: what stands at the front of a server's bytes under a version. Not part of the claims of
-- `run_session` on transcripts, whose proofs it carries; those on dialogues rest on it.
use Rattle.std.specs.Prelude.{ℕ, List}
use Rattle.pgw_types.specs.declared.context.ProtocolVersion.{ProtocolVersion}
use Rattle.pgw_types.specs.declared.error.PgWireError.{PgWireError}
use Rattle.pgw_backend.specs.Front as message
use Rattle.pgw_backend.specs.declared.backend.PgWireBackendMessage.{PgWireBackendMessage as Backend}
use Rattle.pgw_machine.specs.Course.{Front, More, Bad, Whole}

abbrev pub session_front : message.BackendFront → Front Backend PgWireError
session_front message.More = More
session_front (message.Bad why) = Bad why
session_front (message.Whole m len) = Whole m len

abbrev pub version_front : ProtocolVersion → List ℕ → Front Backend PgWireError
version_front version bytes = session_front (message.front version bytes)
