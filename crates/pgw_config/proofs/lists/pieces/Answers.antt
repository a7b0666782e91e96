use Rattle.std.proofs.Common.{◌≡◌, ◌++◌, rules}
use Rattle.pgw_types.specs.Marks.{pieces_at}
use Rattle.pgw_config.proofs.PieceLaws.{goes_on, ends}
use Rattle.pgw_config.proofs.lists.pieces.Goals as goal

pub loop-piece-preserved : goal.loop-piece-preserved
loop-piece-preserved c =
    let f : c.push.new.self ++ pieces_at c.args.mark c.in-Some.after.now ≡ pieces_at c.args.mark c.args.text.now =
    goes_on c.args.mark c.loop-piece.rest.now c.in-Some.piece.now c.in-Some.after.now c.loop-piece.all
    c.push.new.self c.in_ok-from_str.field-0 (pieces_at c.args.mark c.args.text.now)
    (c.in-Some.ensures.byte c.requires (λ w o h. h)) c.in_ok-push.ensures.ok c.in_ok-from_str.ensures
    c.loop-piece.invariant.1 in
    search (rules, f)

pub returns : goal.returns
returns c =
    ends c.args.mark c.loop-piece.rest.now c.loop-piece.all c.push-2.new.self c.in_ok-from_str-2.field-0
    (pieces_at c.args.mark c.args.text.now)
    (c.in_default.ensures.byte c.requires (λ w o h. h)) c.in_ok-push-2.ensures.ok c.in_ok-from_str-2.ensures
    c.loop-piece.invariant.1
