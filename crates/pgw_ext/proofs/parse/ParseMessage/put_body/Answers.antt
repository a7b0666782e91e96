use Rattle.std.proofs.Common.{◌||◌, arith, ap, length}
use Rattle.std.proofs.lemmas.Bool.{or_parts, ltb-false}
use Rattle.pgw_wire.specs.Counted.{is_too_long}
use Rattle.pgw_wire.specs.Writing.{has_zero}
use Rattle.pgw_wire.proofs.RefusalLaws.{not_refused}
use Rattle.pgw_ext.specs.Kinds.{is_name_refused}
use Rattle.pgw_ext.specs.Rows.{is_parse_refused}
use Rattle.pgw_ext.proofs.parse.ParseMessage.put_body.Goals as goal

pub put_counted16-requires : goal.put_counted16-requires
put_counted16-requires c =
    let m = c.args.self.now in
    let behind =
    (or_parts (is_name_refused m.name) (has_zero m.query || is_too_long m.type_oids)
    (not_refused (is_parse_refused m) c.requires)).1 in
    omega (
      arith,
      ap length c.as_slice.ensures,
      ltb-false 65535 (length m.type_oids)
          (or_parts (has_zero m.query) (is_too_long m.type_oids) behind).1,
    )
