use Rattle.pgw_prog_script.proofs.WorthLaws.{pair_taken, space_taken}
use Rattle.pgw_prog_script.proofs.server_bytes.ServerBytes.add_whole_pairs.Goals as goal

pub loop-rest-preserved-then-byte-lt256 : goal.loop-rest-preserved-then-byte-lt256
loop-rest-preserved-then-byte-lt256 c =
    pair_taken c.loop-rest.rest.now c.args.text.now _ _ _ c.pair_worth-byte.result c.in-len2-up.len_at_least
    c.loop-rest.invariant c.pair_worth-byte.ensures c.if-byte-lt256.true c.in_ok-push.ensures.items

pub loop-rest-preserved : goal.loop-rest-preserved
loop-rest-preserved c =
    space_taken c.loop-rest.rest.now c.args.text.now _ _ c.in-len2-up.len_at_least c.loop-rest.invariant
    c.if-first-eq32.true
