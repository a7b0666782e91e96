-- Of what a server may say at any time (Message Flow: Asynchronous Operations) what a client takes then, but for a
-- login exchange. It listens to no channel, so a notification is none of it.
use Rattle.std.specs.Prelude.{Bool, true, false}
use Rattle.pgw_backend.specs.declared.backend.PgWireBackendMessage.{PgWireBackendMessage}
use Rattle.pgw_backend.specs.declared.backend.PgWireBackendMessage.TheVariants as backend

abbrev pub is_asynchronous : PgWireBackendMessage → Bool
is_asynchronous (backend.NoticeResponse m) = true
is_asynchronous (backend.ParameterStatus m) = true
is_asynchronous m = false
