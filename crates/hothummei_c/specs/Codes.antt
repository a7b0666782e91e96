-- The numbers that the calls answer.
use Rattle.std.specs.Prelude.{ℕ}
use Rattle.pgw_backend.specs.declared.client_error.PgWireClientError.{PgWireClientError as ClientError}
use Rattle.pgw_backend.specs.declared.client_error.PgWireClientError.TheVariants as client

abbrev pub ok : ℕ
ok = 0

abbrev pub null_pointer : ℕ
null_pointer = 1

abbrev pub out_of_place : ℕ
out_of_place = 2

abbrev pub no_such_index : ℕ
no_such_index = 3

abbrev pub not_utf8 : ℕ
not_utf8 = 4

abbrev pub out_of_range : ℕ
out_of_range = 5

abbrev pub out_of_memory : ℕ
out_of_memory = 6

abbrev pub value_missing : ℕ
value_missing = 19

-- each error has a number of its own
abbrev pub code_of : ClientError → ℕ
code_of client.OutOfMemory = out_of_memory
code_of (client.InvalidConfig key) = 10
code_of (client.UnknownConfig key) = 11
code_of (client.InvalidUtf8ConfigValue bytes) = 12
code_of client.UnexpectedEOF = 13
code_of (client.UnexpectedMessage m) = 14
code_of client.IoError = 15
code_of (client.PgWireError why) = 16
code_of (client.RemoteError e) = 17
code_of (client.FromSqlError why) = 18
code_of client.DataRowIndexOutOfBounds = 19
code_of (client.ScramError why) = 20
code_of (client.UnsupportedSASLAuthMethods methods) = 21
code_of client.ReadLimit = 22
code_of client.Broken = 23
