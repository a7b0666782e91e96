use Rattle.std.proofs.Common.{map, refl, ap, rules}
use Rattle.pgw_pool.specs.Views.{view_of, left_in, session_view, session_left, lease_count}
use Rattle.pgw_pool.specs.declared.checking.CheckError.TheVariants as refusal
use Rattle.pgw_pool.proofs.CheckLaws.{checks_first, lends_checked, stay_checked}
use Rattle.pgw_pool.proofs.LeaseCounts.{lends_fit_counted, stay_counted}
use Rattle.pgw_pool.proofs.pool.Pool.lend_checked.Goals as goal

pub returns-in-Ok-clause-lent : goal.returns-in-Ok-clause-lent
returns-in-Ok-clause-lent g c =
    let V = view_of g.L.Link.tape g.L.Link.faults in
    let S = session_view g.L.Link.tape g.L.Link.faults in
    let first = ap (map S) c.in-Some.ensures.items in
    record {
      checks =
          checks_first (V c.in-Some.session.client) (V c.look_at.new.client) _ _ _ first c.in-Ok.ensures.asked;
      below = search rules;
      next = refl;
      numbered = refl;
    }

pub returns-in-Ok-clause-foretold : goal.returns-in-Ok-clause-foretold
returns-in-Ok-clause-foretold g c =
    let V = view_of g.L.Link.tape g.L.Link.faults in
    let S = session_view g.L.Link.tape g.L.Link.faults in
    let F = left_in g.L.Link.left in
    let e = c.in-Ok.ensures.asked in
    record {
      old = V c.in-Some.session.client;
      left = F c.in-Some.session.client;
      answer = e.0;
      first = ap (map S) c.in-Some.ensures.items;
      lefts_first = ap (map (session_left g.L.Link.left)) c.in-Some.ensures.items;
      asked = e.1;
      foretold = c.in-Ok.ensures.foretold;
      by = e.2;
    }

pub returns-in-Ok-clause-checked : goal.returns-in-Ok-clause-checked
returns-in-Ok-clause-checked g c = λ hs are.
    let V = view_of g.L.Link.tape g.L.Link.faults in
    let S = session_view g.L.Link.tape g.L.Link.faults in
    let first = ap (map S) c.in-Some.ensures.items in
    let idle = map S c.args.self.now.idle.items in
    let rest = map S c.pop_front.new.self.items in
    lends_checked c.args.self.now.lent _ _ hs idle rest (V c.look_at.new.client)
    (record {
      checks =
          checks_first (V c.in-Some.session.client) (V c.look_at.new.client) _ _ _ first c.in-Ok.ensures.asked;
      below = search rules;
      next = refl;
      numbered = refl;
    }) are

pub returns-in-Err-clause-refused : goal.returns-in-Err-clause-refused
returns-in-Err-clause-refused g c =
    let V = view_of g.L.Link.tape g.L.Link.faults in
    let S = session_view g.L.Link.tape g.L.Link.faults in
    let last = V c.look_at.new.client in
    let first = ap (map S) c.in-Some.ensures.items in
    let checks = checks_first (V c.in-Some.session.client) last _ _ _ first c.in-Err.ensures.asked in
    (search rules, (last, checks), c.saturating_add-self.ensures)

pub returns-in-Err-clause-none_foretold : goal.returns-in-Err-clause-none_foretold
returns-in-Err-clause-none_foretold g c =
    let V = view_of g.L.Link.tape g.L.Link.faults in
    let S = session_view g.L.Link.tape g.L.Link.faults in
    let F = left_in g.L.Link.left in
    let e = c.in-Err.ensures.asked in (
      V c.look_at.new.client,
      F c.look_at.new.client,
      record {
        old = V c.in-Some.session.client;
        left = F c.in-Some.session.client;
        answer = e.0;
        first = ap (map S) c.in-Some.ensures.items;
        lefts_first = ap (map (session_left g.L.Link.left)) c.in-Some.ensures.items;
        asked = e.1;
        foretold = c.in-Err.ensures.foretold;
        by = e.2;
      },
    )

pub returns-in-Err-clause-stay : goal.returns-in-Err-clause-stay
returns-in-Err-clause-stay g c = λ hs are.
    let V = view_of g.L.Link.tape g.L.Link.faults in
    let S = session_view g.L.Link.tape g.L.Link.faults in
    let last = V c.look_at.new.client in
    let first = ap (map S) c.in-Some.ensures.items in
    let checks = checks_first (V c.in-Some.session.client) last _ _ _ first c.in-Err.ensures.asked in
    let idle = map S c.args.self.now.idle.items in
    let rest = map S c.pop_front.new.self.items in
    let was = c.args.self.now.dropped in
    stay_checked (refusal.Unfit c.in-Err.why) c.args.self.now.lent was _ hs idle rest
    (search rules, (last, checks), c.saturating_add-self.ensures) are

pub returns-in-Ok-clause-had : goal.returns-in-Ok-clause-had
returns-in-Ok-clause-had g c =
    (lease_count c.in-Some.session, ap (map lease_count) c.in-Some.ensures.items, c.saturating_add-leases.ensures)

pub returns-in-Ok-clause-all_counted : goal.returns-in-Ok-clause-all_counted
returns-in-Ok-clause-all_counted g c = λ hs are.
    lends_fit_counted hs (map lease_count c.args.self.now.idle.items) (map lease_count c.pop_front.new.self.items)
    c.saturating_add-leases.result
    (lease_count c.in-Some.session, ap (map lease_count) c.in-Some.ensures.items, c.saturating_add-leases.ensures)
    are

pub returns-in-Err-clause-leaves : goal.returns-in-Err-clause-leaves
returns-in-Err-clause-leaves g c = (lease_count c.in-Some.session, ap (map lease_count) c.in-Some.ensures.items)

pub returns-in-Err-clause-stay_counted : goal.returns-in-Err-clause-stay_counted
returns-in-Err-clause-stay_counted g c = λ hs are.
    stay_counted (refusal.Unfit c.in-Err.why) hs (map lease_count c.args.self.now.idle.items)
    (map lease_count c.pop_front.new.self.items)
    (lease_count c.in-Some.session, ap (map lease_count) c.in-Some.ensures.items) are
