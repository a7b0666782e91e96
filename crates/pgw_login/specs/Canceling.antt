-- What becomes of a pass where a query is canceled.
use Rattle.std.specs.Prelude.{Bool, Result, Ok, Err}
use Rattle.pgw_wire.specs.Keys.{key_bytes}
use Rattle.pgw_control.specs.declared.cancel.CancelRequest.{CancelRequest}
use Rattle.pgw_registry.specs.Passes.{Known, Makes, OnlyFull}
use Rattle.pgw_registry.specs.declared.call.Call.TheVariants.{Cancel}
use Rattle.pgw_registry.specs.declared.call.Reply.TheVariants.{Canceled}
use Rattle.pgw_registry.specs.declared.error.RegistryError.{RegistryError}

-- the manager's call is made with the request's number and key, whatever it replies; or the count of events is full
abbrev pub CanceledBy : Known → CancelRequest → Known → Result (Unit {0}) RegistryError → Type 0
CanceledBy v request w (Ok done) =
    (found : Bool)
    × Makes (Cancel request.pid (key_bytes request.secret_key)) (Canceled found) v w
CanceledBy v request w (Err e) = OnlyFull e v w
