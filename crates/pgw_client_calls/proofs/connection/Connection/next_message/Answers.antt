use Rattle.std.proofs.Common.{arith, ◌∙◌, length, ap, ◌≡◌}
use Rattle.pgw_client_calls.specs.Desk.{client_of}
use Rattle.pgw_client_calls.proofs.ReadingLaws.{came_whole, came_refused, came_after, ended_after, unread_after, taken_shrinks}
use Rattle.pgw_client_calls.proofs.ForetoldLaws.{foretold_on}
use Rattle.pgw_client_calls.proofs.connection.Connection.next_message.Goals as goal

pub returns-in-Ok-Some-clause-shrinks : goal.returns-in-Ok-Some-clause-shrinks
returns-in-Ok-Some-clause-shrinks g c =
    let d = rw c.in-Ok-Some.field-0-is at c.in-Ok-Some.ensures.decoded in
    let less =
    taken_shrinks c.reads.self.desk.protocol_version c.reads.self.inbox c.next_message.new.self
    c.in-Ok-Some.message d in
    omega (arith, c.reads.invariant.kept, less)

pub returns-in-Ok-Some-clause-came : goal.returns-in-Ok-Some-clause-came
returns-in-Ok-Some-clause-came g c =
    let s = c.reads.self in
    let d = rw c.in-Ok-Some.field-0-is at c.in-Ok-Some.ensures.decoded in
    c.reads.invariant.came _ _
    (came_whole (client_of s.desk) (g.L.Link.tape s.link) (g.L.Link.faults s.link) s.inbox
    c.next_message.new.self s.read s.limit c.in-Ok-Some.message d)

pub returns-in-Err-clause-came : goal.returns-in-Err-clause-came
returns-in-Err-clause-came g c =
    let s = c.reads.self in
    c.reads.invariant.came _ _
    (came_refused (client_of s.desk) (g.L.Link.tape s.link) (g.L.Link.faults s.link) s.inbox
    c.next_message.new.self s.read s.limit c.in-Err.e c.in-Err.ensures.decoded)

pub reads-preserved : goal.reads-preserved
reads-preserved g c =
    let s = c.reads.self in
    let d = rw c.in-Ok-None.field-0-is at c.in-Ok-None.ensures.decoded in
    let kept = c.in-Ok-true.ensures.kept in
    let same : length c.next_message.new.self ≡ length s.inbox = ap length d.0 in
    record {
      desk = c.read_more.ensures.desk ∙ c.reads.invariant.desk;
      limit = c.read_more.ensures.limit ∙ c.reads.invariant.limit;
      kept = omega (arith, kept, same, c.reads.invariant.kept);
      foretold =
          λ t. foretold_on _ _ _ _ _ _ (g.met.L.Link.knows t c.reads.self.link) (c.reads.invariant.foretold t)
          (record { foreseen = c.read_more.ensures.foreseen t; ends = c.read_more.ensures.ends t });
      later = omega (arith, c.reads.invariant.later, c.read_more.ensures.cause.later);
      came = λ final r came.
          let grew = rw c.in-Ok-true.field-0-test at c.in-Ok-true.ensures.reads in
          c.reads.invariant.came final r
          (came_after (client_of s.desk) _ (g.L.Link.tape s.link) (g.L.Link.faults s.link) s.inbox
          c.next_message.new.self s.read s.limit _ final r d.0 (ap client_of c.read_more.ensures.desk)
          grew came);
    }

pub returns-in-Ok-false-clause-came : goal.returns-in-Ok-false-clause-came
returns-in-Ok-false-clause-came g c =
    let s = c.reads.self in
    let d = rw c.in-Ok-None.field-0-is at c.in-Ok-None.ensures.decoded in
    let ended = rw c.in-Ok-false.field-0-test at c.in-Ok-false.ensures.reads in
    c.reads.invariant.came _ _
    (ended_after (client_of s.desk) (g.L.Link.tape s.link) (g.L.Link.faults s.link) s.inbox
    c.next_message.new.self s.read s.limit _ d.0 d.1 ended)

pub returns-in-Err-read_more-clause-came : goal.returns-in-Err-read_more-clause-came
returns-in-Err-read_more-clause-came g c =
    let s = c.reads.self in
    let d = rw c.in-Ok-None.field-0-is at c.in-Ok-None.ensures.decoded in
    c.reads.invariant.came _ _
    (unread_after (client_of s.desk) (g.L.Link.tape s.link) (g.L.Link.faults s.link) s.inbox
    c.next_message.new.self s.read s.limit _ c.in-Err-read_more.e d.0 d.1
    c.in-Err-read_more.ensures.reads)

pub returns-in-Ok-false-clause-foretold : goal.returns-in-Ok-false-clause-foretold
returns-in-Ok-false-clause-foretold g c =
    λ t. foretold_on _ _ _ _ _ _ (g.met.L.Link.knows t c.reads.self.link) (c.reads.invariant.foretold t)
    (record { foreseen = c.read_more.ensures.foreseen t; ends = c.read_more.ensures.ends t })

pub returns-in-Err-read_more-clause-foretold : goal.returns-in-Err-read_more-clause-foretold
returns-in-Err-read_more-clause-foretold g c =
    λ t. foretold_on _ _ _ _ _ _ (g.met.L.Link.knows t c.reads.self.link) (c.reads.invariant.foretold t)
    (record { foreseen = c.read_more.ensures.foreseen t; ends = c.read_more.ensures.ends t })
