-- Where a row that is read stands.
use Rattle.std.specs.Prelude.{take, drop}
use Rattle.pgw_rows.specs.Rows.{PlaceInRow}
use Rattle.pgw_rows.specs.declared.decoder.DataRowDecoder.{DataRowDecoder}

abbrev pub row_place : DataRowDecoder → PlaceInRow
row_place d =
    record { fields = d.fields.now; passed = d.passed; bytes = drop d.at (take d.end d.row.now) }
