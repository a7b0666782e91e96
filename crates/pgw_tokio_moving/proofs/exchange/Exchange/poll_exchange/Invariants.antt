use Rattle.std.proofs.Common.{List}
use Rattle.futures.specs.Task.{Keeps}
use Rattle.pgw_tokio_moving.specs.Calls.{Call}
use Rattle.pgw_tokio_moving.specs.Moving.{held_in, HasSoundEngine, MovesStreamBytes}
use Rattle.pgw_tokio_moving.proofs.exchange.Exchange.poll_exchange.Given as goal

abbrev pub invariant-loop : goal.invariant-loop
invariant-loop g l = record {
  went : (calls : List Call) × MovesStreamBytes g.S.AsyncRead g.S.AsyncWrite g.E.Engine (held_in l.fn.self) calls
      (held_in l.self);
  sound : HasSoundEngine g.E.Engine (held_in l.self);
  kept : Keeps l.fn.cx l.cx;
}
