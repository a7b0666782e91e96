-- Whether a server is as a configuration wants it: read-only, or not.
use Rattle.std.specs.Prelude.{ℕ, codes, nat_eq, if◌then◌else◌, List, [], ◌∷◌, Bool, true, false}
use Rattle.std.specs.Prelude.{Option, Some, None, Result, Ok, Err}
use Rattle.std.specs.Cmp.Lexicographic.{pointwise}
use Rattle.pgw_backend.specs.declared.client_error.PgWireClientError.{PgWireClientError as ClientError}
use Rattle.pgw_backend.specs.declared.client_error.PgWireClientError.TheVariants as client
use Rattle.pgw_config.specs.declared.config.TargetSessionAttrs.{TargetSessionAttrs}
use Rattle.pgw_config.specs.declared.config.TargetSessionAttrs.TheVariants as target
use Rattle.pgw_query.specs.declared.data.DataRow.{DataRow}
use Rattle.pgw_session.specs.declared.types.Response.{Response}
use Rattle.pgw_session.specs.declared.types.Response.TheVariants as response
use Rattle.pgw_prog_commands.specs.declared.targets.Fit.{Fit}
use Rattle.pgw_prog_commands.specs.declared.targets.Fit.TheVariants as fit

-- whether it is to be read-only; none where any server will do
abbrev pub wanted_of : TargetSessionAttrs → Option Bool
wanted_of target.Any = None
wanted_of target.ReadWrite = Some false
wanted_of target.ReadOnly = Some true

-- what is asked
abbrev pub question : List ℕ
question = codes "SHOW transaction_read_only"

-- a row of one value says it: four bytes of length, and `on` or `off`
unfoldable pub target_setting : List ℕ → Option Bool
target_setting row =
    if pointwise nat_eq row (0 ∷ 0 ∷ 0 ∷ 2 ∷ 111 ∷ 110 ∷ []) then Some true
    else if pointwise nat_eq row (0 ∷ 0 ∷ 0 ∷ 3 ∷ 111 ∷ 102 ∷ 102 ∷ []) then Some false
    else None

-- the first row of a result
abbrev pub told_in_rows : List DataRow → Option Bool
told_in_rows [] = None
told_in_rows (row ∷ more) = target_setting row.payload

abbrev pub told_in : Response → Option Bool
told_in (response.Query tag fields rows) = told_in_rows rows
told_in other = None

-- the first response
abbrev pub target_told : List Response → Option Bool
target_told [] = None
target_told (r ∷ more) = told_in r

abbrev pub target_fit : Bool → Option Bool → Fit
target_fit read_only None = fit.Unfit
target_fit true (Some true) = fit.Fits
target_fit true (Some false) = fit.Unfit
target_fit false (Some true) = fit.Unfit
target_fit false (Some false) = fit.Fits

-- a server that answers an error, or none, will not do
abbrev pub fit_of : Bool → Result (List Response) ClientError → Fit
fit_of read_only (Ok responses) = target_fit read_only (target_told responses)
fit_of read_only (Err client.OutOfMemory) = fit.Starved
fit_of read_only (Err e) = fit.Unfit
