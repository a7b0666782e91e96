use Rattle.std.proofs.Common.{codes, ◌∙◌}
use Rattle.std.proofs.lemmas.Str.Pattern.{contains_text}
use Rattle.pgw_login_sasl.proofs.ConfigurationLaws.{kept, usual}
use Rattle.pgw_login_sasl.proofs.error_text.configuration.Goals as goal

pub returns-then-contains : goal.returns-then-contains
returns-then-contains c =
    kept c.contains.result c.args.issuer.now c.from_str.result
    (contains_text c.contains.result (codes "/.well-known/") c.args.issuer.now c.contains.ensures.cases)
    c.if-contains.true c.from_str.ensures

pub returns : goal.returns
returns c =
    usual c.contains.result c.args.issuer.now c.from_string.result
    (contains_text c.contains.result (codes "/.well-known/") c.args.issuer.now c.contains.ensures.cases)
    c.if-contains.false (c.from_string.ensures
    ∙ c.in_ok-text.ensures.ok)
