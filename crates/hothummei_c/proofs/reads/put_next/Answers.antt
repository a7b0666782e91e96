use Rattle.std.proofs.Common.{None, Some}
use Rattle.hothummei_c.proofs.ReadLaws.{puts}
use Rattle.hothummei_c.proofs.reads.put_next.Goals as goal

pub returns-in-Some-None : goal.returns-in-Some-None
returns-in-Some-None c =
    let there = rw c.in-Some-None.field-0-is at c.in-Some-None.ensures in
    puts None _ _ c.args.values.now.items _ c.args.row.now c.args.at _ c.push_value.ensures there.1 there.0
    c.null_value.ensures

pub returns-in-Some-Some : goal.returns-in-Some-Some
returns-in-Some-Some c =
    let there = rw c.in-Some-Some.field-0-is at c.in-Some-Some.ensures in
    puts (Some _) _ _ c.args.values.now.items _ c.args.row.now c.args.at _ c.push_value-in-Some-Some.ensures
    there.2 there.1 c.value_of.ensures.tells
