use Rattle.pgw_proxy.proofs.FrontLaws.{server_bad}
use Rattle.pgw_proxy.proofs.front.take_server.Goals as goal

pub returns-in-Err : goal.returns-in-Err
returns-in-Err g c =
    server_bad c.args.context.now (g.B.Buffer.held c.args.bytes.now) c.in-Err.e c.server_fault.result
    c.server_fault.ensures c.in-Err.ensures.exact.1
