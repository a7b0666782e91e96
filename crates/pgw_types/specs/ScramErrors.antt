-- What an error of a client of SCRAM holds.
use Rattle.pgw_types.specs.declared.error.PgWireError.{PgWireError}
use Rattle.pgw_types.specs.declared.error.PgWireError.TheVariants as wire
use Rattle.pgw_types.specs.declared.scram_error.ScramClientError.{ScramClientError}
use Rattle.pgw_types.specs.declared.scram_error.ScramClientError.TheVariants as scram

unfoldable pub scram_of_wire : PgWireError → ScramClientError
scram_of_wire wire.OutOfMemory = scram.OutOfMemory
scram_of_wire e = scram.PgWireError e
