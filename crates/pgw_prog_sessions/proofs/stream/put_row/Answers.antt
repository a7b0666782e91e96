use Rattle.std.proofs.Common.{decimal, ◌∙◌, arith}
use Rattle.pgw_prog_sessions.proofs.StreamLaws.{puts_row, row_parts}
use Rattle.pgw_prog_sessions.proofs.stream.put_row.Goals as goal

pub returns : goal.returns
returns c =
    let old = c.args.out.now.items in
    let digits = c.as_bytes-digits.ensures.value ∙ c.format.ensures.text in
    let e1 = c.in_ok-extend_from_slice.ensures.ok in
    let e2 = c.in_ok-extend_from_slice-2.ensures.ok in
    let e3 = c.in_ok-extend_from_slice-3.ensures.ok in
    let e4 = c.in_ok-extend_from_slice-4.ensures.ok in
    let e5 = c.in_ok-extend_from_slice-5.ensures.ok in
    puts_row c.args.number old c.extend_from_slice-5.new.self.items (omega (arith, c.ranges.number.fits))
    (row_parts old c.to_be_bytes.result c.to_be_bytes-2.result (decimal c.args.number)
    c.extend_from_slice-5.new.self.items (rw digits at (rw (e4, e3, e2, e1) at e5))
    (rw digits at c.to_be_bytes.ensures) (rw digits at c.to_be_bytes-2.ensures))
