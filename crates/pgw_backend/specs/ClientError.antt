-- What a client's errors hold.
use Rattle.std.specs.Prelude.{◌≡◌}
use Rattle.pgw_types.specs.declared.config_error.ConfigError.{ConfigError}
use Rattle.pgw_types.specs.declared.config_error.ConfigError.TheVariants as config
use Rattle.pgw_types.specs.declared.error.PgWireError.{PgWireError}
use Rattle.pgw_types.specs.declared.error.PgWireError.TheVariants as wire
use Rattle.pgw_types.specs.declared.scram_error.ScramClientError.{ScramClientError}
use Rattle.pgw_types.specs.declared.scram_error.ScramClientError.TheVariants as scram
use Rattle.pgw_query.specs.declared.row_error.RowError.{RowError}
use Rattle.pgw_query.specs.declared.row_error.RowError.TheVariants as row
use Rattle.pgw_backend.specs.declared.backend.PgWireBackendMessage.{PgWireBackendMessage}
use Rattle.pgw_backend.specs.declared.client_error.PgWireClientError.{PgWireClientError}
use Rattle.pgw_backend.specs.declared.client_error.PgWireClientError.TheVariants as client

-- the error holds this message, or memory ran out
abbrev pub IsUnexpected : PgWireBackendMessage → PgWireClientError → Type 0
IsUnexpected m (client.UnexpectedMessage x) = x ≡ m
IsUnexpected m client.OutOfMemory = Unit {0}
IsUnexpected m e = ⊥

unfoldable pub client_of_wire : PgWireError → PgWireClientError
client_of_wire wire.OutOfMemory = client.OutOfMemory
client_of_wire e = client.PgWireError e

abbrev pub of_config : ConfigError → PgWireClientError
of_config (config.InvalidConfig key) = client.InvalidConfig key
of_config (config.UnknownConfig key) = client.UnknownConfig key
of_config (config.InvalidUtf8ConfigValue bytes) = client.InvalidUtf8ConfigValue bytes
of_config config.OutOfMemory = client.OutOfMemory

abbrev pub of_scram : ScramClientError → PgWireClientError
of_scram (scram.InvalidConfig key) = client.InvalidConfig key
of_scram (scram.PgWireError e) = client.PgWireError e
of_scram (scram.ScramError fault) = client.ScramError fault
of_scram scram.OutOfMemory = client.OutOfMemory

abbrev pub of_row : RowError → PgWireClientError
of_row (row.FromSqlError fault) = client.FromSqlError fault
of_row row.DataRowIndexOutOfBounds = client.DataRowIndexOutOfBounds
of_row row.OutOfMemory = client.OutOfMemory
