use Rattle.std.proofs.Common.{refl, arith}
use Rattle.pgw_proxy.proofs.PlainLaws.{plain_up}
use Rattle.pgw_proxy.proofs.plain.plain_end.Goals as goal

pub returns-then-is_plain : goal.returns-then-is_plain
returns-then-is_plain c =
    let found = c.in-Some.ensures in (
      omega arith,
      omega (arith, found.0.1, found.1),
      omega arith,
      plain_up c.args.side c.args.ready c.args.bytes.now _ c.in-Some.end _ refl refl (omega arith)
          (omega (arith, found.0.1, found.1)) found.1 c.if-is_plain.ensures,
    )
