use Rattle.std.proofs.Common.{ℕ, List, map, fold, ap, sym, ◌∙◌}
use Rattle.std.proofs.lemmas.List.{take_all}
use Rattle.pgw_config_text.specs.Part.{adds}
use Rattle.pgw_config_text.specs.Url.{host_in}
use Rattle.pgw_config_text.specs.declared.part.Cut.{Cut}
use Rattle.pgw_config_text.proofs.UrlLaws.{all_hosts_added}
use Rattle.pgw_config_text.proofs.url.add_hosts.Goals as goal

pub returns : goal.returns
returns c =
    c.loop-host.invariant
    ∙ ap (λ items. fold (λ cut text. adds cut (host_in text)) c.args.cut (map (λ piece. piece.now) items))
    (take_all c.loop-host.host-index c.deref-host-items.result.now c.loop-host-test.false
    ∙ c.deref-host-items.ensures.value)
    ∙ ap (λ (texts : List (List ℕ)). fold (λ (cut : Cut) text. adds cut (host_in text)) c.args.cut texts)
    c.in_ok-hosts.ensures
    ∙ sym (all_hosts_added c.args.cut c.args.text.now (sym c.if-is_empty.ensures))
