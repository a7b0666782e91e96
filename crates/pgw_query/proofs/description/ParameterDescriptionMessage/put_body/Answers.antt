use Rattle.std.proofs.Common.{arith, ap, length}
use Rattle.pgw_wire.proofs.RefusalLaws.{not_longer}
use Rattle.pgw_query.proofs.description.ParameterDescriptionMessage.put_body.Goals as goal

pub put_counted16-requires : goal.put_counted16-requires
put_counted16-requires c =
    omega (arith, ap length c.as_slice-types.ensures, not_longer 65535 (length c.args.self.now.types) c.requires)
