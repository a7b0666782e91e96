use Rattle.std.proofs.Common.{ap, ◌∙◌}
use Rattle.pgw_config_text.specs.Text.{url_in}
use Rattle.pgw_config_text.proofs.TextLaws.{url_only, pairs_only}
use Rattle.pgw_config_text.proofs.text.cut.Goals as goal

pub returns-in-Some-clause-only : goal.returns-in-Some-clause-only
returns-in-Some-clause-only c =
    url_only c.args.text.now c.in-Some.rest.now c.read_url.result (c.in-Some.ensures
    ∙ ap url_in c.as_bytes.ensures.value) c.read_url.ensures

pub returns-in-None-clause-only : goal.returns-in-None-clause-only
returns-in-None-clause-only c =
    pairs_only c.args.text.now c.read_pairs.result (c.in-None.ensures
    ∙ ap url_in c.as_bytes.ensures.value) c.read_pairs.ensures
