use Rattle.std.proofs.Common.{sym, ap, ◌∙◌}
use Rattle.pgw_config_text.specs.Shown.{pair_front}
use Rattle.pgw_config_text.proofs.CutLaws.{ends_here, stops_here, goes_on, pair_is_less}
use Rattle.pgw_config_text.proofs.key_value.cut_all.Goals as goal

pub returns-in-Nothing : goal.returns-in-Nothing
returns-in-Nothing c =
    ends_here c.args.text.now c.loop-parts.rest.now c.loop-parts.parts c.in_ok-read_front.field-0
    c.in_ok-read_front.ensures c.in-Nothing.is c.loop-parts.invariant

pub returns-in-Faulty : goal.returns-in-Faulty
returns-in-Faulty c =
    stops_here c.args.text.now c.loop-parts.rest.now c.loop-parts.parts c.in_ok-read_front.field-0
    c.in_ok-read_front.ensures c.in-Faulty.is c.loop-parts.invariant

pub loop-parts-smaller : goal.loop-parts-smaller
loop-parts-smaller c =
    pair_is_less c.loop-parts.rest.now c.in-Pair.key c.in-Pair.value c.in-Pair.behind.now
    (sym c.in_ok-read_front.ensures
    ∙ ap pair_front c.in-Pair.is)

pub loop-parts-preserved : goal.loop-parts-preserved
loop-parts-preserved c more end cut =
    goes_on c.args.text.now c.loop-parts.rest.now c.in-Pair.behind.now c.in-Pair.key c.in-Pair.value
    c.loop-parts.parts c.push.new.self more end
    (sym c.in_ok-read_front.ensures
    ∙ ap pair_front c.in-Pair.is) c.in_ok-push-in-Pair.ensures.ok c.loop-parts.invariant cut
