use Rattle.std.proofs.Common.{◌≢◌, ◌≡◌, [], ap, arith, length}
use Rattle.pgw_client_calls.proofs.CallLaws.{puts_of}
use Rattle.pgw_client_calls.proofs.connection.Connection.put_out.Goals as goal

pub returns-clause-puts : goal.returns-clause-puts
returns-clause-puts g c =
    let w = c.write_out.ensures in
    let some : c.args.self.now.desk.out.items ≢ [] =
    λ none. (let l : length c.args.self.now.desk.out.items ≡ 0 = ap length none in omega (arith, l)) in
    puts_of _ _ _ c.write_out.result some w.wrote w.failed w.within w.clean w.io w.cause.failed w.inbox w.read
    w.limit
