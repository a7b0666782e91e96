-- What is shown of borrowed parts.
use Rattle.std.specs.Prelude.{Bool}
use Rattle.pgw_secrets.specs.declared.password_file.Asked.{Asked}
use Rattle.pgw_secrets.specs.declared.password_file.Entry.{Entry}
use Rattle.pgw_secrets.specs.Lookup.{answers}
use Rattle.pgw_secrets.specs.declared.password_line.Parts.{Parts as Borrowed}
use Rattle.pgw_secrets.specs.PasswordReader.{EntryParts}

abbrev pub password_parts : Borrowed → EntryParts
password_parts p = record {
  host = p.host.now;
  port = p.port.now;
  database = p.database.now;
  user = p.user.now;
  password = p.password.now;
}

abbrev pub answers_asked : Asked → Entry → Bool
answers_asked asked =
    answers asked.host.now asked.port.now asked.database.now asked.user.now
