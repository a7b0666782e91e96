use Rattle.std.proofs.Common.{◌∙◌, sym, refl}
use Rattle.pgw_config.proofs.DigitLaws.{digits_parsed, plus_is_none}
use Rattle.pgw_config.proofs.host_addr.read_hexadecimal.Goals as goal

pub returns-then-has_plus : goal.returns-then-has_plus
returns-then-has_plus c = plus_is_none 16 16 c.args.text.now refl (sym c.has_plus.ensures ∙ c.if-has_plus.true)

pub returns : goal.returns
returns c =
    c.ok.ensures.value
    ∙ digits_parsed 16 16 c.args.text.now c.from_str_radix.result c.from_str_radix.ensures.value
    (sym c.has_plus.ensures
    ∙ c.if-has_plus.false)
