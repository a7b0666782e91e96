use Rattle.std.proofs.Common.{map, ap, refl, ◌∙◌}
use Rattle.pgw_pool.specs.Views.{session_view}
use Rattle.pgw_pool.specs.Closing.{none_closed}
use Rattle.pgw_pool.proofs.ClosingLaws.{one_more_closed}
use Rattle.pgw_pool.proofs.pool.Pool.close.Goals as goal

pub sessions-init : goal.sessions-init
sessions-init g c = record { closes = none_closed; offers = λ t. refl }

pub sessions-preserved : goal.sessions-preserved
sessions-preserved g c =
    let S = session_view g.L.Link.tape g.L.Link.faults in
    record {
      closes =
          one_more_closed _ _ _ (S c.in-Some.session) (map S c.sessions.idle.items)
          (map S c.pop_front.new.self.items) _ _ _ _ _ _ _ (ap (map S) c.in-Some.ensures.items)
          c.first_error-result.ensures c.sessions.invariant.closes c.close-left.ensures.closed;
      offers = λ t. c.close-left.ensures.offers t ∙ c.sessions.invariant.offers t;
    }
