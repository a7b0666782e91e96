use Rattle.std.proofs.Common.{◌≤◌, arith, length-take-le, rules}
use Rattle.pgw_rows.proofs.CutLaws.{cut_within}
use Rattle.pgw_rows.proofs.cut.read_value.Goals as goal

pub returns-in-Binary : goal.returns-in-Binary
returns-in-Binary g c =
    let within : c.args.cut.to ≤ c.args.end =
    omega (arith, c.requires.in_row.1, length-take-le c.args.end c.args.bytes.now c.requires.within) in
    let same = cut_within c.args.bytes.now c.args.end c.args.cut.from c.args.cut.to c.requires.in_row.0 within in
    rw same (search rules)

pub returns-in-Text : goal.returns-in-Text
returns-in-Text g c =
    let within : c.args.cut.to ≤ c.args.end =
    omega (arith, c.requires.in_row.1, length-take-le c.args.end c.args.bytes.now c.requires.within) in
    let same = cut_within c.args.bytes.now c.args.end c.args.cut.from c.args.cut.to c.requires.in_row.0 within in
    rw same (search rules)
