use Rattle.std.proofs.Common.{arith}
use Rattle.hothummei_c.proofs.ReadLaws.{begins_so, ends_so, goes_on, stops}
use Rattle.hothummei_c.proofs.reads.put_values.Goals as goal

pub each-init : goal.each-init
each-init c = begins_so c.args.count c.args.row.now _ c.clear.ensures.items

pub each-preserved : goal.each-preserved
each-preserved c =
    goes_on c.args.count c.args.row.now c.each.values.items _ c.each.left c.each.at c.in-Ok.next
    (omega (arith, c.each-test.true)) c.each.invariant c.in-Ok.ensures

pub returns-in-Err : goal.returns-in-Err
returns-in-Err c =
    stops c.args.count c.args.row.now c.each.values.items c.put_next.new.values.items c.put_next.new.values.items
    c.each.left c.each.at c.in-Err.code (omega (arith, c.each-test.true)) c.each.invariant c.in-Err.ensures

pub returns : goal.returns
returns c =
    ends_so c.args.count c.args.row.now c.each.values.items c.each.left c.each.at
    (omega (arith, c.each-test.false)) c.each.invariant
