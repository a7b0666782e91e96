use Rattle.std.proofs.Common.{◌≡◌, ◌≤◌, length, take, map, replicate}
use Rattle.std.specs.VecDeque.{deque_len, deque_capacity}
use Rattle.pgw_pool.specs.Histories.{AreIdle}
use Rattle.pgw_pool.specs.Views.{session_view, session_left, lease_count}
use Rattle.pgw_pool.specs.Starting.{dials, new_histories, ConnectAll, ConnectForetold}
use Rattle.pgw_pool.proofs.pool.Pool.start.Given as goal

abbrev pub invariant-loop-nonce : goal.invariant-loop-nonce
invariant-loop-nonce g l =
    let old =
    dials (g.D.Dialer.tape l.fn.dialer) (g.D.Dialer.offers l.fn.dialer) (g.D.Dialer.faults l.fn.dialer) in
    let now = dials (g.D.Dialer.tape l.dialer) (g.D.Dialer.offers l.dialer) (g.D.Dialer.faults l.dialer) in
    record {
      count : deque_len l.idle ≡ l.nonce-index;
      room : deque_capacity l.idle ≡ length l.nonces;
      later : g.D.Dialer.faults l.fn.dialer ≤ g.D.Dialer.faults l.dialer;
      had : map lease_count (l.idle).items ≡ replicate (length (take l.nonce-index l.nonces)) 0;
      idle : AreIdle 0 (new_histories l.config (take l.nonce-index l.nonces))
          (map (session_view g.L.Link.tape g.L.Link.faults) (l.idle).items);
      connected : ConnectAll l.config l.limit old (take l.nonce-index l.nonces) now
          (map (session_view g.L.Link.tape g.L.Link.faults) (l.idle).items);
      foretold : g.D.Dialer.foretells
          → ConnectForetold l.config l.limit old (take l.nonce-index l.nonces) now
          (map (session_left g.L.Link.left) (l.idle).items)
          (map (session_view g.L.Link.tape g.L.Link.faults) (l.idle).items);
    }
