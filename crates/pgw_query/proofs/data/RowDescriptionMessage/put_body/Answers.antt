use Rattle.std.proofs.Common.{arith, ap, length}
use Rattle.std.specs.List.{list_any}
use Rattle.pgw_wire.specs.Writing.{has_zero}
use Rattle.pgw_wire.proofs.RefusalLaws.{not_longer_or}
use Rattle.pgw_query.proofs.data.RowDescriptionMessage.put_body.Goals as goal

pub overflow_cast-fields : goal.overflow_cast-fields
overflow_cast-fields c =
    let fields = c.args.self.now.fields in
    omega (
      arith,
      ap length c.as_slice-fields.ensures,
      not_longer_or 32767 (length fields)
          (list_any (λ f. has_zero f.name) fields) c.requires,
    )
