use Rattle.pgw_secrets.proofs.Lines.{no_second, no_third, no_fourth}
use Rattle.pgw_secrets.proofs.password_line.parts_of.Goals as goal

pub returns-in_default-cut_field : goal.returns-in_default-cut_field
returns-in_default-cut_field c =
    no_second c.args.line.now c.in-Some.host.now c.in-Some.line.now c.in-Some.ensures
    c.in_default-cut_field.ensures

pub returns-in_default-cut_field-2 : goal.returns-in_default-cut_field-2
returns-in_default-cut_field-2 c =
    no_third c.args.line.now c.in-Some.host.now c.in-Some.line.now c.in-Some-cut_field.port.now
    c.in-Some-cut_field.line.now c.in-Some.ensures c.in-Some-cut_field.ensures
    c.in_default-cut_field-2.ensures

pub returns-in_default-cut_field-3 : goal.returns-in_default-cut_field-3
returns-in_default-cut_field-3 c =
    no_fourth c.args.line.now c.in-Some.host.now c.in-Some.line.now c.in-Some-cut_field.port.now
    c.in-Some-cut_field.line.now c.in-Some-cut_field-2.database.now c.in-Some-cut_field-2.line.now
    c.in-Some.ensures c.in-Some-cut_field.ensures c.in-Some-cut_field-2.ensures c.in_default-cut_field-3.ensures
