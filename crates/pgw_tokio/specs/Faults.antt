-- The error that a stream's call failed with.
use Rattle.std.specs.Prelude.{Option, Some}
use Rattle.std.specs.declared.io.Error.{Error}
use Rattle.pgw_tokio_moving.specs.declared.exchange.Stop.{Stop}
use Rattle.pgw_tokio_moving.specs.declared.exchange.Stop.TheVariants as stop

-- that of the call that failed, or an earlier one
abbrev pub fault_after : Stop → Option Error → Option Error
fault_after (stop.Fault e) earlier = Some e
fault_after stop.Over earlier = earlier
fault_after stop.End earlier = earlier
