-- What every message of the program is: its texts are UTF-8, and its numbers fit; and no name is an empty text, which would come back as none.
use Rattle.std.specs.Prelude.{ℕ, List, Option, Some, None, ◌<◌, ◌^◌, length, FitsSigned, IsUtf8}
use Rattle.std.specs.List.{AllByRecursion}
use Rattle.std.specs.Int.{w32}
use Rattle.pgw_wire.specs.Sound.{IsOid, IsCode}
use Rattle.pgw_ext.specs.declared.parse.Parse.{Parse}
use Rattle.pgw_ext.specs.declared.bind.Bind.{Bind}
use Rattle.pgw_ext.specs.declared.target.Close.{Close}
use Rattle.pgw_ext.specs.declared.target.Describe.{Describe}
use Rattle.pgw_ext.specs.declared.execute.Execute.{Execute}

abbrev pub IsName : Option (List ℕ) → Type 0
IsName None = Unit {0}
IsName (Some t) = IsUtf8 t × (0 < length t)

abbrev pub IsParse : Parse → Type 0
IsParse m = IsName m.name × IsUtf8 m.query × AllByRecursion IsOid m.type_oids

abbrev pub IsBind : Bind → Type 0
IsBind m =
    IsName m.portal_name × IsName m.statement_name
    × AllByRecursion IsCode m.parameter_format_codes
    × AllByRecursion IsCode m.result_column_format_codes

abbrev pub IsClose : Close → Type 0
IsClose m = (m.target_type < 2 ^ 8) × IsName m.name

abbrev pub IsDescribe : Describe → Type 0
IsDescribe m = (m.target_type < 2 ^ 8) × IsName m.name

abbrev pub IsExecute : Execute → Type 0
IsExecute m = IsName m.name × FitsSigned w32 m.max_rows
