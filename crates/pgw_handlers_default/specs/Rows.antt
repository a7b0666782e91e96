-- What a command tag tells of rows.
use Rattle.std.specs.Prelude.{ℕ, Option, Some, None}
use Rattle.pgw_query.specs.declared.tag.Tag.{Tag}

abbrev pub rows_of_last : Option Tag → Option ℕ
rows_of_last None = None
rows_of_last (Some tag) = tag.rows
