use Rattle.std.proofs.Common.{◌++◌}
use Rattle.pgw_proxy.proofs.TakingLaws.{ran_broken}
use Rattle.pgw_proxy.proofs.taking.take_behind.Goals as goal

pub returns-in-Err : goal.returns-in-Err
returns-in-Err c =
    ran_broken c.args.side c.args.context.now c.args.context.now (c.args.waiting.now.items ++ c.args.piece.now)
    c.append.new.waiting.items c.args.out.now.items c.args.tape.now.items
