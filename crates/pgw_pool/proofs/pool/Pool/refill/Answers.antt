use Rattle.std.proofs.Common.{map, refl}
use Rattle.pgw_pool.specs.Histories.{new_history}
use Rattle.pgw_pool.specs.Views.{view_of, session_view, lease_count}
use Rattle.pgw_pool.proofs.HistoryLaws.{idle_one_more}
use Rattle.pgw_pool.proofs.LeaseCounts.{one_joins}
use Rattle.pgw_pool.proofs.pool.Pool.refill.Goals as goal

pub returns-in-Ok-clause-refills : goal.returns-in-Ok-clause-refills
returns-in-Ok-clause-refills g c =
    let V = view_of g.L.Link.tape g.L.Link.faults in
    (V c.in-Ok.client, c.in-Ok.ensures.connects, c.in-Ok.ensures.idle, c.keep.ensures.idle)

pub returns-in-Ok-clause-given : goal.returns-in-Ok-clause-given
returns-in-Ok-clause-given g c = λ hs are.
    let V = view_of g.L.Link.tape g.L.Link.faults in
    let S = session_view g.L.Link.tape g.L.Link.faults in
    idle_one_more c.args.self.now.lent c.keep.new.self.lent hs (new_history c.args.config.now c.args.nonce)
    (map S c.args.self.now.idle.items) (map S c.keep.new.self.idle.items) (V c.in-Ok.client)
    c.keep.ensures.lent c.keep.ensures.idle are c.in-Ok.ensures.idle

pub returns-in-Ok-clause-foretold : goal.returns-in-Ok-clause-foretold
returns-in-Ok-clause-foretold g c = λ t.
    let V = view_of g.L.Link.tape g.L.Link.faults in
    record {
      last = V c.in-Ok.client;
      left = _;
      connects = c.in-Ok.ensures.connects;
      offer = (c.in-Ok.ensures.foretold t).0;
      made = (c.in-Ok.ensures.foretold t).1;
      foretold = (c.in-Ok.ensures.foretold t).2;
      idle_now = c.keep.ensures.idle;
      lefts_now = c.keep.ensures.lefts;
    }

pub returns-in-Ok-clause-all_counted : goal.returns-in-Ok-clause-all_counted
returns-in-Ok-clause-all_counted g c = λ hs are.
    one_joins hs (new_history c.args.config.now c.args.nonce) (map lease_count c.args.self.now.idle.items)
    (map lease_count c.keep.new.self.idle.items) 0 c.keep.ensures.had are refl
