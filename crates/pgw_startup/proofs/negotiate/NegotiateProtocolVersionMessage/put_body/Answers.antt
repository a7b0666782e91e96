use Rattle.std.proofs.Common.{arith, ap, length}
use Rattle.std.specs.List.{list_any}
use Rattle.pgw_wire.specs.Writing.{has_zero}
use Rattle.pgw_wire.proofs.RefusalLaws.{not_longer_or}
use Rattle.pgw_startup.proofs.negotiate.NegotiateProtocolVersionMessage.put_body.Goals as goal

pub overflow_cast-options : goal.overflow_cast-options
overflow_cast-options c =
    let options = c.args.self.now.unsupported_options in
    omega (
      arith,
      ap length c.as_slice-options.ensures,
      not_longer_or 2147483647 (length options)
          (list_any has_zero options) c.requires,
    )
