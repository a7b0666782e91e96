use Rattle.std.proofs.Common.{refl}
use Rattle.pgw_pool.specs.Views.{view_of}
use Rattle.pgw_pool.proofs.RunLaws.{ran}
use Rattle.pgw_pool.proofs.lease.Lease.run.Goals as goal

pub returns-clause-ran : goal.returns-clause-ran
returns-clause-ran g c = λ h l lease.
    let V = view_of g.L.Link.tape g.L.Link.faults in
    ran h l c.args.request.now (V c.args.self.now.client) (V c.ask.new.client) lease c.ask.result
    (V c.ask.new.client).broken refl (c.ask.ensures.asks lease.usable)
