use Rattle.std.proofs.Common.{ℕ, List, IfOk, ap, subst, ◌∙◌}
use Rattle.pgw_types.specs.Marks.{before_mark, behind_mark, or_empty}
use Rattle.pgw_config_text.specs.Part.{adds}
use Rattle.pgw_config_text.specs.Url.{address_in}
use Rattle.pgw_config_text.specs.UrlReader.{AddsPairs}
use Rattle.pgw_config_text.proofs.UrlLaws.{url_read}
use Rattle.pgw_config_text.proofs.url.read_url.Goals as goal

pub returns : goal.returns
returns c =
    url_read c.args.text.now c.in_ok-cut.cut c.in_ok-cut-2.cut c.add_pairs.result c.in_ok-cut.ensures.login
    (c.in_ok-cut-2.ensures
    ∙ ap (λ (t : List ℕ). adds c.in_ok-cut.cut (address_in t)) (c.cut_at.ensures.before
    ∙ ap (before_mark 63) c.in_ok-cut.ensures.behind))
    (subst (λ (t : List ℕ). IfOk c.add_pairs.result (AddsPairs c.in_ok-cut-2.cut t)) (c.or_empty.ensures
    ∙ ap or_empty (c.cut_at.ensures.behind
    ∙ ap (behind_mark 63) c.in_ok-cut.ensures.behind)) c.add_pairs.ensures)
