-- What every CancelRequest of the program is: its numbers fit.
use Rattle.std.specs.Prelude.{FitsSigned}
use Rattle.std.specs.Int.{w32}
use Rattle.pgw_wire.specs.Keys.{IsKey}
use Rattle.pgw_control.specs.declared.cancel.CancelRequest.{CancelRequest}

abbrev pub IsCancelRequest : CancelRequest → Type 0
IsCancelRequest m = FitsSigned w32 m.pid × IsKey m.secret_key
