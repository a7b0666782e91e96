use Rattle.std.proofs.Common.{◌≡◌, List, length}
use Rattle.futures.specs.Task.{Keeps}
use Rattle.pgw_tokio_moving.specs.Calls.{Call}
use Rattle.pgw_tokio_moving.specs.Moving.{held_in, MovesStreamBytes}
use Rattle.pgw_tokio_moving.proofs.exchange.Exchange.poll_send.Given as goal

abbrev pub invariant-loop-self : goal.invariant-loop-self
invariant-loop-self g l = record {
  went : (calls : List Call) × MovesStreamBytes g.S.AsyncRead g.S.AsyncWrite g.E.Engine (held_in l.fn.self) calls
      (held_in l.self);
  same : (l.self.engine ≡ l.fn.self.engine) × (l.self.turn ≡ l.fn.self.turn);
  kept : Keeps l.fn.cx l.cx;
}

abbrev pub decreases-loop-self : goal.decreases-loop-self
decreases-loop-self g l = length l.self.out.items
