use Rattle.std.proofs.Common.{◌≡◌, map}
use Rattle.std.specs.VecDeque.{deque_len}
use Rattle.pgw_pool.specs.Views.{session_view}
use Rattle.pgw_pool.specs.Closing.{ClosesIdleSessions}
use Rattle.pgw_pool.proofs.pool.Pool.close.Given as goal

abbrev pub decreases-sessions : goal.decreases-sessions
decreases-sessions g l = deque_len l.idle

abbrev pub invariant-sessions : goal.invariant-sessions
invariant-sessions g l =
    let S = session_view g.L.Link.tape g.L.Link.faults in
    record {
      closes : ClosesIdleSessions (map S (l.fn.self.idle).items) (g.D.Dialer.tape l.fn.dialer)
          (g.D.Dialer.faults l.fn.dialer) (map S (l.idle).items) (g.D.Dialer.tape l.dialer)
          (g.D.Dialer.faults l.dialer) l.result;
      offers : g.D.Dialer.foretells → g.D.Dialer.offers l.dialer ≡ g.D.Dialer.offers l.fn.dialer;
    }
