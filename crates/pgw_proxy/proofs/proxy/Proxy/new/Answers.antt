use Rattle.std.proofs.Common.{refl, false}
use Rattle.pgw_proxy.proofs.StandsLaws.{at_start}
use Rattle.pgw_proxy.proofs.proxy.Proxy.new.Goals as goal

pub returns-clause-stands : goal.returns-clause-stands
returns-clause-stands c =
    at_start (record { context = c.new.result; client = c.new-2.result; server = c.new-3.result; over = false })
    refl c.new.ensures c.new-2.ensures.items c.new-3.ensures.items
