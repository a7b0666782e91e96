use Rattle.std.proofs.Common.{ap, List, ℕ}
use Rattle.pgw_rows.specs.Rows.{PlaceInRow}
use Rattle.pgw_rows.proofs.CutLaws.{front_from}
use Rattle.pgw_rows.proofs.decoder.DataRowDecoder.within.Goals as goal

pub returns : goal.returns
returns c =
    let made : List ℕ → PlaceInRow = λ bytes. record { fields = c.args.fields.now; passed = 0; bytes = bytes } in
    ap made (front_from c.args.bytes.now c.args.from c.args.to c.requires.ordered)
