use Rattle.std.proofs.Common.{Bool, cond, ap, ◌∙◌, Some}
use Rattle.pgw_types.specs.Numbers.{number_in}
use Rattle.pgw_config.specs.Lists.{port_of}
use Rattle.pgw_config.proofs.lists.read_port.Goals as goal

pub returns-else-is_empty : goal.returns-else-is_empty
unfolding port_of
returns-else-is_empty c =
    c.read_u16.ensures
    ∙ ap (λ (b : Bool). cond b (Some 5432) (number_in 16 c.args.text.now)) c.if-is_empty.ensures
