use Rattle.std.proofs.Common.{◌≡◌, List, [], length, get_or, map, replicate, arith, inr, refl, ◌∙◌, ap, subst}
use Rattle.pgw_pool.specs.Histories.{AreIdle}
use Rattle.pgw_pool.specs.Views.{view_of, left_in, session_view, session_left, lease_count}
use Rattle.pgw_pool.specs.Starting.{dials, new_histories, ConnectAll, ConnectForetold}
use Rattle.pgw_pool.proofs.HistoryLaws.{mapped_behind}
use Rattle.pgw_pool.proofs.LeaseCounts.{new_counted, one_more_new}
use Rattle.pgw_pool.proofs.StartLaws.{all_taken, caused_before, connected_first, connected_next, foretold_first, foretold_next, idle_first, idle_next, stops_next, wants_first}
use Rattle.pgw_pool.proofs.pool.Pool.start.Goals as goal

pub loop-nonce-init : goal.loop-nonce-init
loop-nonce-init g c =
    let d = c.args.dialer.now in
    let none : map (session_view g.L.Link.tape g.L.Link.faults) c.in-Ok.idle.items ≡ [] =
    ap (map (session_view g.L.Link.tape g.L.Link.faults)) c.in-Ok.ensures.items in
    record {
      count = c.in-Ok.ensures.len;
      room = c.in-Ok.ensures.exact;
      later = (omega arith);
      had = ap (map lease_count) c.in-Ok.ensures.items;
      idle = idle_first c.args.config.now c.args.nonces.now _ none;
      connected =
          connected_first c.args.config.now c.args.limit
          (dials (g.D.Dialer.tape d) (g.D.Dialer.offers d) (g.D.Dialer.faults d)) c.args.nonces.now _ none;
      foretold =
          λ t. foretold_first c.args.config.now c.args.limit
          (dials (g.D.Dialer.tape d) (g.D.Dialer.offers d) (g.D.Dialer.faults d)) c.args.nonces.now _ _
          (ap (map (session_left g.L.Link.left)) c.in-Ok.ensures.items) none;
    }

pub loop-nonce-preserved : goal.loop-nonce-preserved
loop-nonce-preserved g c =
    let V = view_of g.L.Link.tape g.L.Link.faults in
    let S = session_view g.L.Link.tape g.L.Link.faults in
    let first = c.args.dialer.now in
    let mid = c.loop-nonce.dialer in
    let now = c.log_in.new.dialer in
    let i = c.loop-nonce.invariant in
    let F = left_in g.L.Link.left in
    let T = session_left g.L.Link.left in
    let client = c.in-Ok-log_in.client in
    let before = c.loop-nonce.idle.items in
    let grown = mapped_behind S before c.push_back_reserved.new.self.items _ c.push_back_reserved.ensures.items in
    let lefts_grown =
    mapped_behind T before c.push_back_reserved.new.self.items _ c.push_back_reserved.ensures.items in
    let counts_grown =
    mapped_behind lease_count before c.push_back_reserved.new.self.items _ c.push_back_reserved.ensures.items
    in
    record {
      count = (let len = c.push_back_reserved.ensures.len in let count = i.count in omega (arith, len, count));
      room = c.push_back_reserved.ensures.capacity ∙ i.room;
      later = (let l = i.later in let m = c.in-Ok-log_in.ensures.cause.later in omega (arith, l, m));
      had = one_more_new c.args.nonces.now c.loop-nonce.nonce-index (map lease_count before)
          (map lease_count c.push_back_reserved.new.self.items) c.loop-nonce-test.true counts_grown i.had;
      idle = idle_next c.args.config.now c.args.nonces.now c.loop-nonce.nonce-index
          (get_or c.args.nonces.now c.loop-nonce.nonce-index []) (map S c.loop-nonce.idle.items)
          (map S c.push_back_reserved.new.self.items) (V client) c.loop-nonce-test.true refl grown i.idle
          c.in-Ok-log_in.ensures.idle;
      connected =
          connected_next c.args.config.now c.args.limit c.args.nonces.now c.loop-nonce.nonce-index
          (get_or c.args.nonces.now c.loop-nonce.nonce-index [])
          (dials (g.D.Dialer.tape first) (g.D.Dialer.offers first) (g.D.Dialer.faults first))
          (dials (g.D.Dialer.tape mid) (g.D.Dialer.offers mid) (g.D.Dialer.faults mid))
          (dials (g.D.Dialer.tape now) (g.D.Dialer.offers now) (g.D.Dialer.faults now))
          (map S c.loop-nonce.idle.items) (map S c.push_back_reserved.new.self.items) (V client)
          c.loop-nonce-test.true refl grown i.connected c.in-Ok-log_in.ensures.connects;
      foretold =
          λ t. foretold_next c.args.config.now c.args.limit c.args.nonces.now c.loop-nonce.nonce-index
          (get_or c.args.nonces.now c.loop-nonce.nonce-index [])
          (dials (g.D.Dialer.tape first) (g.D.Dialer.offers first) (g.D.Dialer.faults first))
          (dials (g.D.Dialer.tape mid) (g.D.Dialer.offers mid) (g.D.Dialer.faults mid))
          (dials (g.D.Dialer.tape now) (g.D.Dialer.offers now) (g.D.Dialer.faults now))
          (map T c.loop-nonce.idle.items) (map T c.push_back_reserved.new.self.items) (F client)
          (map S c.loop-nonce.idle.items) (map S c.push_back_reserved.new.self.items) (V client)
          c.loop-nonce-test.true refl
          lefts_grown grown (i.foretold t) c.in-Ok-log_in.ensures.connects (c.in-Ok-log_in.ensures.foretold t)
          c.in-Ok-log_in.ensures.cause.later;
    }

pub returns-clause-idle : goal.returns-clause-idle
returns-clause-idle g c =
    let S = session_view g.L.Link.tape g.L.Link.faults in
    subst (λ (ns : List (List _)). AreIdle 0 (new_histories c.args.config.now ns) (map S c.loop-nonce.idle.items))
    (all_taken c.args.nonces.now c.loop-nonce.nonce-index c.loop-nonce-test.false) c.loop-nonce.invariant.idle

pub returns-clause-connected : goal.returns-clause-connected
returns-clause-connected g c =
    let S = session_view g.L.Link.tape g.L.Link.faults in
    let first = c.args.dialer.now in
    let mid = c.loop-nonce.dialer in
    subst (λ (ns : List (List _)). ConnectAll c.args.config.now c.args.limit
    (dials (g.D.Dialer.tape first) (g.D.Dialer.offers first) (g.D.Dialer.faults first)) ns
    (dials (g.D.Dialer.tape mid) (g.D.Dialer.offers mid) (g.D.Dialer.faults mid))
    (map S c.loop-nonce.idle.items))
    (all_taken c.args.nonces.now c.loop-nonce.nonce-index c.loop-nonce-test.false)
    c.loop-nonce.invariant.connected

pub returns-clause-foretold : goal.returns-clause-foretold
returns-clause-foretold g c = λ t.
    let S = session_view g.L.Link.tape g.L.Link.faults in
    let T = session_left g.L.Link.left in
    let first = c.args.dialer.now in
    let mid = c.loop-nonce.dialer in
    subst (λ (ns : List (List _)). ConnectForetold c.args.config.now c.args.limit
    (dials (g.D.Dialer.tape first) (g.D.Dialer.offers first) (g.D.Dialer.faults first)) ns
    (dials (g.D.Dialer.tape mid) (g.D.Dialer.offers mid) (g.D.Dialer.faults mid))
    (map T c.loop-nonce.idle.items) (map S c.loop-nonce.idle.items))
    (all_taken c.args.nonces.now c.loop-nonce.nonce-index c.loop-nonce-test.false)
    (c.loop-nonce.invariant.foretold t)

pub returns-in-Err-clause-refused : goal.returns-in-Err-clause-refused
returns-in-Err-clause-refused g c =
    let d = c.args.dialer.now in
    inr (
      refl,
      wants_first g.D.Dialer.foretells c.args.config.now c.args.limit c.args.nonces.now
          (dials (g.D.Dialer.tape d) (g.D.Dialer.offers d) (g.D.Dialer.faults d)),
    )

pub returns-clause-cause : goal.returns-clause-cause
returns-clause-cause g c = record { later = c.loop-nonce.invariant.later; failed = tt }

pub returns-in-Err-log_in-clause-refused : goal.returns-in-Err-log_in-clause-refused
returns-in-Err-log_in-clause-refused g c =
    let S = session_view g.L.Link.tape g.L.Link.faults in
    let first = c.args.dialer.now in
    let mid = c.loop-nonce.dialer in
    let now = c.log_in.new.dialer in
    stops_next g.D.Dialer.foretells c.args.config.now c.args.limit c.args.nonces.now c.loop-nonce.nonce-index
    (get_or c.args.nonces.now c.loop-nonce.nonce-index [])
    (dials (g.D.Dialer.tape first) (g.D.Dialer.offers first) (g.D.Dialer.faults first))
    (dials (g.D.Dialer.tape mid) (g.D.Dialer.offers mid) (g.D.Dialer.faults mid))
    (dials (g.D.Dialer.tape now) (g.D.Dialer.offers now) (g.D.Dialer.faults now))
    (map S c.loop-nonce.idle.items) c.in-Err-log_in.error c.loop-nonce-test.true refl
    c.loop-nonce.invariant.connected (λ t. (_, c.loop-nonce.invariant.foretold t))
    c.loop-nonce.invariant.later c.in-Err-log_in.ensures.cause.later c.in-Err-log_in.ensures.refused

pub returns-in-Err-log_in-clause-cause : goal.returns-in-Err-log_in-clause-cause
returns-in-Err-log_in-clause-cause g c =
    caused_before _ _ _ c.in-Err-log_in.error c.loop-nonce.invariant.later c.in-Err-log_in.ensures.cause

pub returns-clause-had : goal.returns-clause-had
returns-clause-had g c =
    subst (λ (ns : List (List _)). map lease_count c.loop-nonce.idle.items ≡ replicate (length ns) 0)
    (all_taken c.args.nonces.now c.loop-nonce.nonce-index c.loop-nonce-test.false) c.loop-nonce.invariant.had

pub returns-clause-all_counted : goal.returns-clause-all_counted
returns-clause-all_counted g c =
    let had =
    subst (λ (ns : List (List _)). map lease_count c.loop-nonce.idle.items ≡ replicate (length ns) 0)
    (all_taken c.args.nonces.now c.loop-nonce.nonce-index c.loop-nonce-test.false)
    c.loop-nonce.invariant.had in
    had ∙ new_counted c.args.config.now c.args.nonces.now
