use Rattle.pgw_pool.specs.Views.{session_view, session_left, lease_count}
use Rattle.pgw_pool.proofs.HistoryLaws.{mapped_behind}
use Rattle.pgw_pool.proofs.pool.Pool.keep.Goals as goal

pub returns-clause-idle : goal.returns-clause-idle
returns-clause-idle g c =
    let grown =
    mapped_behind (session_view g.L.Link.tape g.L.Link.faults) c.args.self.now.idle.items
    c.push_back_reserved.new.self.items _ c.push_back_reserved.ensures.items in
    grown

pub returns-clause-lefts : goal.returns-clause-lefts
returns-clause-lefts g c =
    let grown =
    mapped_behind (session_left g.L.Link.left) c.args.self.now.idle.items c.push_back_reserved.new.self.items
    _ c.push_back_reserved.ensures.items in
    grown

pub returns-clause-had : goal.returns-clause-had
returns-clause-had g c =
    let grown =
    mapped_behind lease_count c.args.self.now.idle.items c.push_back_reserved.new.self.items _
    c.push_back_reserved.ensures.items in
    grown
