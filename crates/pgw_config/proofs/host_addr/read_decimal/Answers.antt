use Rattle.std.proofs.Common.{◌∙◌, sym, refl}
use Rattle.pgw_config.proofs.DigitLaws.{digits_parsed, plus_is_none}
use Rattle.pgw_config.proofs.host_addr.read_decimal.Goals as goal

pub returns-then-has_plus : goal.returns-then-has_plus
returns-then-has_plus c = plus_is_none 10 8 c.args.text.now refl (sym c.has_plus.ensures ∙ c.if-has_plus.true)

pub returns : goal.returns
returns c =
    c.ok.ensures.value
    ∙ digits_parsed 10 8 c.args.text.now c.parse.result c.parse.ensures.value.0 (sym c.has_plus.ensures
    ∙ c.if-has_plus.false)
