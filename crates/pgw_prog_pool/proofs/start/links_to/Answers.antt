use Rattle.pgw_prog_pool.proofs.StartLaws.{links_more}
use Rattle.pgw_prog_pool.proofs.start.links_to.Goals as goal

pub loop-server-preserved : goal.loop-server-preserved
loop-server-preserved c =
    links_more c.loop-server.links _ c.in_ok-link_to.field-0 c.args.servers.now c.loop-server.server-index _
    c.loop-server-test.true c.server-item.is c.in_ok-push.ensures.ok c.in_ok-link_to.ensures.unused
    c.in_ok-link_to.ensures.left c.loop-server.invariant
