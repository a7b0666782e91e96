use Rattle.pgw_proxy.proofs.FrontLaws.{client_bad}
use Rattle.pgw_proxy.proofs.front.take_client.Goals as goal

pub returns-in-Err : goal.returns-in-Err
returns-in-Err g c =
    let bad = rw c.client_context.ensures at c.in-Err.ensures in
    client_bad c.args.context.now (g.B.Buffer.held c.args.bytes.now) c.in-Err.e c.client_fault.result
    c.client_fault.ensures bad.1
