use Rattle.std.proofs.Common.{◌∙◌, length, ap}
use Rattle.pgw_query.specs.Runs.{rows_of}
use Rattle.hothummei_c.proofs.PlaceLaws.{as_many}
use Rattle.hothummei_c.proofs.rows.Rows.len.Goals as goal

pub returns : goal.returns
returns c =
    let runs = c.self.inside.runs.items in
    ap length c.as_slice.ensures.value ∙ as_many runs c.self.inside.places.items (rows_of runs) c.self.invariant
    ∙ ap length c.self.view_is
