use Rattle.std.proofs.Common.{◌≡◌, ◌≤◌, ◌||◌, None, arith, ap, length}
use Rattle.std.proofs.lemmas.Bool.{or_parts, ltb-false}
use Rattle.pgw_wire.specs.Counted.{is_too_long}
use Rattle.pgw_wire.specs.Writing.{refused_if}
use Rattle.pgw_wire.proofs.RefusalLaws.{not_refused}
use Rattle.pgw_ext.specs.Kinds.{is_name_refused}
use Rattle.pgw_ext.specs.Rows.{is_bind_refused}
use Rattle.pgw_ext.specs.declared.bind.Bind.{Bind}
use Rattle.pgw_ext.proofs.bind.BindMessage.put_body.Goals as goal

-- its lists are as long as their counts can tell
lists_fit : (m : Bind) → refused_if (is_bind_refused m) ≡ None
    → (length m.parameter_format_codes ≤ 65535) × (length m.parameters ≤ 65535)
    × (length m.result_column_format_codes ≤ 65535)
lists_fit m is =
    let names = is_name_refused m.portal_name || is_name_refused m.statement_name in
    let behind = is_too_long m.parameters || is_too_long m.result_column_format_codes in
    let lists =
    (or_parts names (is_too_long m.parameter_format_codes || behind) (not_refused (is_bind_refused m) is)).1
    in
    let one = or_parts (is_too_long m.parameter_format_codes) behind lists in
    let two = or_parts (is_too_long m.parameters) (is_too_long m.result_column_format_codes) one.1 in (
      ltb-false 65535 (length m.parameter_format_codes) one.0,
      ltb-false 65535 (length m.parameters) two.0,
      ltb-false 65535 (length m.result_column_format_codes) two.1,
    )

pub put_counted16-requires : goal.put_counted16-requires
put_counted16-requires c = omega (arith, ap length c.as_slice.ensures, (lists_fit c.args.self.now c.requires).0)

pub put_counted16-requires-2 : goal.put_counted16-requires-2
put_counted16-requires-2 c =
    omega (arith, ap length c.as_slice-2.ensures, (lists_fit c.args.self.now c.requires).1)

pub put_counted16-requires-3 : goal.put_counted16-requires-3
put_counted16-requires-3 c =
    omega (arith, ap length c.as_slice-3.ensures, (lists_fit c.args.self.now c.requires).2)
