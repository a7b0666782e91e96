-- Messages of a client whose texts are UTF-8 and whose numbers fit, as every value of the program's is.
use Rattle.std.specs.Prelude.{ℕ, ◌<◌, ◌^◌, List, Option, Some, None, FitsSigned, IsUtf8}
use Rattle.std.specs.List.{AllByRecursion}
use Rattle.std.specs.Int.{w32}
use Rattle.pgw_startup.specs.Sound.{IsStartup}
use Rattle.pgw_control.specs.Sound.{IsCancelRequest}
use Rattle.pgw_wire.specs.Sound.{IsOid, IsCode}
use Rattle.pgw_frontend.specs.declared.frontend.PgWireFrontendMessage.{PgWireFrontendMessage}
use Rattle.pgw_frontend.specs.declared.frontend.PgWireFrontendMessage.TheVariants as frontend

abbrev pub IsText : Option (List ℕ) → Type 0
IsText None = Unit {0}
IsText (Some t) = IsUtf8 t

abbrev pub IsSoundFrontend : PgWireFrontendMessage → Type 0
IsSoundFrontend (frontend.Startup m) = IsStartup m
IsSoundFrontend (frontend.CancelRequest m) = IsCancelRequest m
IsSoundFrontend (frontend.Query m) = IsUtf8 m.query
IsSoundFrontend (frontend.Parse m) =
    IsText m.name × IsUtf8 m.query × AllByRecursion IsOid m.type_oids
IsSoundFrontend (frontend.Bind m) =
    IsText m.portal_name × IsText m.statement_name
    × AllByRecursion IsCode m.parameter_format_codes
    × AllByRecursion IsCode m.result_column_format_codes
IsSoundFrontend (frontend.Close m) = (m.target_type < 2 ^ 8) × IsText m.name
IsSoundFrontend (frontend.Describe m) = (m.target_type < 2 ^ 8) × IsText m.name
IsSoundFrontend (frontend.Execute m) = IsText m.name × FitsSigned w32 m.max_rows
IsSoundFrontend (frontend.CopyFail m) = IsUtf8 m.message
IsSoundFrontend m = Unit {0}
