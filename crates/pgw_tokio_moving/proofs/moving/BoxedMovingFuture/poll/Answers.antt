use Rattle.std.proofs.Common.{◌≡◌, rules}
use Rattle.futures.specs.declared.task.Poll.TheVariants.{Pending}
use Rattle.pgw_tokio_moving.specs.Moving.{held_in}
use Rattle.pgw_tokio_moving.proofs.MovingLaws.{box_came_on, on_pending}
use Rattle.pgw_tokio_moving.proofs.moving.BoxedMovingFuture.poll.Goals as goal

pub returns-clause-same : goal.returns-clause-same
returns-clause-same g c x later =
    let p = c.poll_exchange in
    let is : p.result ≡ Pending = search rules in
    rw (c.in-Some.is, ← c.deref_mut.ensures.value)
    (box_came_on g.S.AsyncRead g.S.AsyncWrite g.E.Engine (held_in c.deref_mut.result.now)
    (held_in p.new.self) x (on_pending p.result is p.ensures.went) later)

pub returns-2-clause-value : goal.returns-2-clause-value
returns-2-clause-value g c =
    rw (c.in-Some.is, ← c.deref_mut.ensures.value) (record {
      came = record {
        last = held_in c.poll_exchange.new.self;
        ran = search rules;
        stands = c.poll_exchange.ensures.sound;
        stream = search rules;
        engine_is = search rules;
        out = search rules;
      };
      whole = search rules;
    })
