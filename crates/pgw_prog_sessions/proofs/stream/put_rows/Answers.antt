use Rattle.std.proofs.Common.{◌≡◌, ◌-◌, subst, arith}
use Rattle.pgw_prog_sessions.proofs.StreamLaws.{PutSome, put_all, put_none, put_one}
use Rattle.pgw_prog_sessions.proofs.stream.put_rows.Goals as goal

pub loop-left-init : goal.loop-left-init
loop-left-init c = record { bound = c.requires; some = put_none c.args.count c.args.before c.args.out.now.items }

pub loop-left-preserved : goal.loop-left-preserved
loop-left-preserved c =
    let l = c.loop-left in
    record {
      bound = c.next_number-number.ensures.bound;
      some = put_one c.args.count c.args.before l.left (l.left - 1) l.number c.next_number-number.result
          c.args.out.now.items l.out.items c.put_row.new.out.items l.invariant.some
          (omega (arith, c.loop-left-test.true)) c.next_number-number.ensures.value c.in_ok-put_row.ensures;
    }

pub returns : goal.returns
returns c =
    let l = c.loop-left in
    let over : l.left ≡ 0 = omega (arith, c.loop-left-test.false) in
    put_all c.args.count c.args.before l.number c.args.out.now.items l.out.items
    (subst (λ n. PutSome c.args.count c.args.before n l.number c.args.out.now.items l.out.items) over
    l.invariant.some)
