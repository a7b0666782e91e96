use Rattle.std.proofs.Common.{◌∷◌, [], arith, subst, sym}
use Rattle.pgw_prog_sessions.specs.Stream.{HasEncoding, complete, stream_ready}
use Rattle.pgw_prog_sessions.proofs.StreamLaws.{complete_encodes, puts_on, ready_encodes}
use Rattle.pgw_prog_sessions.proofs.stream.put_end.Goals as goal

pub put-requires : goal.put-requires
put-requires c =
    subst HasEncoding (sym c.in_ok-complete.ensures)
    (complete_encodes c.args.count (omega (arith, c.ranges.count.fits)))

pub put-requires-2 : goal.put-requires-2
put-requires-2 c = subst HasEncoding (sym c.ready.ensures) ready_encodes

pub returns : goal.returns
returns c =
    puts_on (complete c.args.count ∷ []) (stream_ready ∷ []) c.args.out.now.items c.put.new.out.items
    c.put-2.new.out.items (rw c.in_ok-complete.ensures at c.in_ok-put.ensures)
    (rw c.ready.ensures at c.in_ok-put-2.ensures)
