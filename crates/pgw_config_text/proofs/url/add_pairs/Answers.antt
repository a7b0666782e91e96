use Rattle.std.proofs.Common.{◌≡◌, ◌∙◌, sym, ap, length, Some, arith}
use Rattle.std.specs.Option.{option_copied}
use Rattle.pgw_types.specs.Marks.{or_empty, behind_mark}
use Rattle.pgw_config_text.proofs.UrlLaws.{no_more_pairs, pairs_end, pairs_go_on, behind_is_less, behind_is_no_more}
use Rattle.pgw_config_text.proofs.url.add_pairs.Goals as goal

pub returns-in-None : goal.returns-in-None
returns-in-None c =
    no_more_pairs c.args.cut c.loop-rest.cut c.args.text.now c.loop-rest.rest.now c.next.result
    (sym c.loop-rest-test.ensures) (sym c.cut_at.ensures.behind
    ∙ ap option_copied c.in-None.is) c.next.ensures c.loop-rest.invariant

pub loop-rest-smaller : goal.loop-rest-smaller
loop-rest-smaller c =
    let found : behind_mark 61 c.loop-rest.rest.now ≡ Some c.in-Some.behind.now =
    sym c.cut_at.ensures.behind ∙ ap option_copied c.in-Some.is in
    let less = behind_is_less 61 c.loop-rest.rest.now c.in-Some.behind.now found in
    let no_more = behind_is_no_more 38 c.in-Some.behind.now in
    let is : length c.or_empty-rest.result.now ≡ length (or_empty (behind_mark 38 c.in-Some.behind.now)) =
    ap length (c.or_empty-rest.ensures ∙ ap or_empty c.cut_at-in-Some.ensures.behind) in
    omega (arith, less, no_more, is)

pub loop-rest-preserved : goal.loop-rest-preserved
loop-rest-preserved c whole pairs =
    pairs_go_on c.args.cut c.loop-rest.cut c.in_ok-cut-in-Some.cut whole c.args.text.now c.loop-rest.rest.now
    c.cut_at.result.0.now c.in-Some.behind.now c.cut_at-in-Some.result.0.now c.or_empty-rest.result.now
    (sym c.cut_at.ensures.behind
    ∙ ap option_copied c.in-Some.is) c.cut_at.ensures.before c.cut_at-in-Some.ensures.before
    (c.or_empty-rest.ensures
    ∙ ap or_empty c.cut_at-in-Some.ensures.behind) c.in_ok-cut-in-Some.ensures
    c.loop-rest.invariant pairs

pub returns : goal.returns
returns c =
    pairs_end c.args.cut c.loop-rest.cut c.args.text.now c.loop-rest.rest.now (sym c.loop-rest-test.ensures)
    c.loop-rest.invariant
