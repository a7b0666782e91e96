use Rattle.std.proofs.Common.{◌≡◌, ◌≤◌, ℤ, pos, nat_abs, length, drop, Ok, ap, ◌∙◌, arith, rules}
use Rattle.std.specs.Int.{w32}
use Rattle.std.proofs.lemmas.List.{length-drop}
use mir.Val.{SFits, to_z, of_z}
use Rattle.pgw_wire.specs.Reading.{int_at}
use Rattle.pgw_query.proofs.RunLaws.{rest_of}
use Rattle.pgw_rows.proofs.CutLaws.{is_count, value_null, value_short, value_whole}
use Rattle.pgw_rows.proofs.cut.locate.Goals as goal

pub returns-then-len-lt0 : goal.returns-then-len-lt0
returns-then-len-lt0 c =
    let read = rw (rest_of c.args.row.now c.args.at) at c.in_ok-len.ensures in
    let fits : SFits w32 c.in_ok-len.len = search rules in
    let long = length-drop c.args.at c.args.row.now in (
      omega (arith, long, read.1),
      value_null c.args.row.now c.args.at c.in_ok-len.len fits c.if-len-lt0.true
          read.0,
    )

pub returns-then-rest-len : goal.returns-then-rest-len
returns-then-rest-len c =
    let row = c.args.row.now in
    let bytes = drop c.args.at row in
    let n = nat_abs (to_z w32 (of_z w32 c.in_ok-len.len)) in
    let whole = rest_of row c.args.at in
    let read = rw whole at c.in_ok-len.ensures in
    let fits : SFits w32 c.in_ok-len.len = search rules in
    let same = is_count c.in_ok-len.len fits c.if-len-lt0.false in
    let counted : int_at w32 bytes ≡ Ok (pos n, drop 4 bytes) =
    read.0 ∙ ap (λ (z : ℤ). Ok (z, drop 4 bytes)) same in
    let long = length-drop 4 bytes in
    value_short row c.args.at n counted (omega (arith, long, ap length whole))

pub returns : goal.returns
returns c =
    let row = c.args.row.now in
    let bytes = drop c.args.at row in
    let n = nat_abs (to_z w32 (of_z w32 c.in_ok-len.len)) in
    let whole = rest_of row c.args.at in
    let read = rw whole at c.in_ok-len.ensures in
    let fits : SFits w32 c.in_ok-len.len = search rules in
    let same = is_count c.in_ok-len.len fits c.if-len-lt0.false in
    let counted : int_at w32 bytes ≡ Ok (pos n, drop 4 bytes) =
    read.0 ∙ ap (λ (z : ℤ). Ok (z, drop 4 bytes)) same in
    let long = length-drop 4 bytes in
    let longer = length-drop c.args.at row in
    let within : n ≤ length (drop 4 bytes) = omega (arith, long, ap length whole) in
    (omega arith, omega (arith, long, longer, within, read.1), value_whole row c.args.at n counted within)
