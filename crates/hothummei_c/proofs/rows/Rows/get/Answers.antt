use Rattle.std.proofs.Common.{◌∙◌, List, Some, sym, subst, ap}
use Rattle.std.specs.Prelude.{slice_get}
use Rattle.pgw_query.specs.declared.data.DataRow.{DataRow}
use Rattle.pgw_query.specs.declared.run.Run.{Run}
use Rattle.pgw_query.specs.Runs.{lent_row, rows_of}
use Rattle.hothummei_c.specs.declared.places.RowPlace.{RowPlace}
use Rattle.hothummei_c.specs.Places.{Located, LocatesRow}
use Rattle.hothummei_c.proofs.PlaceLaws.{lies_at, none_at, one_lies}
use Rattle.hothummei_c.proofs.rows.Rows.get.Goals as goal

pub row_at-requires : goal.row_at-requires
row_at-requires c =
    let runs = c.self.inside.runs.items in
    let found =
    sym (c.in-Some.ensures ∙ ap (λ (l : List RowPlace). slice_get l c.args.index) c.as_slice.ensures.value) in
    let at = lies_at runs c.self.inside.places.items (rows_of runs) c.args.index _ c.self.invariant found in
    subst (λ (l : List Run). Located l c.in-Some.place.now) (sym c.as_slice-in-Some.ensures.value) (at.0, at.2)

pub returns-in-None : goal.returns-in-None
returns-in-None c =
    let runs = c.self.inside.runs.items in
    let none =
    sym (c.in-None.ensures ∙ ap (λ (l : List RowPlace). slice_get l c.args.index) c.as_slice.ensures.value) in
    sym (none_at runs c.self.inside.places.items (rows_of runs) c.args.index c.self.invariant none)
    ∙ ap (λ (l : List DataRow). slice_get l c.args.index) c.self.view_is

pub returns-in-Some : goal.returns-in-Some
returns-in-Some c =
    let runs = c.self.inside.runs.items in
    let found =
    sym (c.in-Some.ensures ∙ ap (λ (l : List RowPlace). slice_get l c.args.index) c.as_slice.ensures.value) in
    let at = lies_at runs c.self.inside.places.items (rows_of runs) c.args.index _ c.self.invariant found in
    let read =
    subst (λ (l : List Run). LocatesRow l c.in-Some.place.now (lent_row c.row_at.result))
    c.as_slice-in-Some.ensures.value c.row_at.ensures in
    ap Some (one_lies (slice_get runs (c.in-Some.place.now).run) (c.in-Some.place.now).at
    (lent_row c.row_at.result) at.0 read at.2)
    ∙ sym at.1 ∙ ap (λ (l : List DataRow). slice_get l c.args.index) c.self.view_is
