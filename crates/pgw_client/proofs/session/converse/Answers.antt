use Rattle.std.proofs.Common.{◌-◌, arith, ◌∙◌}
use Rattle.pgw_client.proofs.RefusedLaws.{not_io}
use Rattle.pgw_link.proofs.LogLaws.{ends_further, foreseen_on}
use Rattle.pgw_client.proofs.SessionTurnLaws.{ends_quiet, foreseen_quiet, settled, broke, finished, waited, read_on, ended, unread}
use Rattle.pgw_client.proofs.session.converse.Goals as goal

pub returns-in-Err-clause-kept : goal.returns-in-Err-clause-kept
returns-in-Err-clause-kept g c = c.take_all.ensures.kept ∙ c.reads.invariant.kept

pub returns-then-done-clause-kept : goal.returns-then-done-clause-kept
returns-then-done-clause-kept g c = c.take_all.ensures.kept ∙ c.reads.invariant.kept

pub returns-then-read-limit-clause-kept : goal.returns-then-read-limit-clause-kept
returns-then-read-limit-clause-kept g c = c.take_all.ensures.kept ∙ c.reads.invariant.kept

pub returns-in-Err-fill-clause-kept : goal.returns-in-Err-fill-clause-kept
returns-in-Err-fill-clause-kept g c = c.fill.ensures.kept ∙ c.take_all.ensures.kept ∙ c.reads.invariant.kept

pub returns-then-n-eq0-clause-kept : goal.returns-then-n-eq0-clause-kept
returns-then-n-eq0-clause-kept g c = c.fill.ensures.kept ∙ c.take_all.ensures.kept ∙ c.reads.invariant.kept

pub returns-in-Err-clause-talks : goal.returns-in-Err-clause-talks
returns-in-Err-clause-talks g c f =
    let reading = c.reads.invariant.reading f in
    broke c.take_all.new.notes c.args.limit c.in-Err.e reading c.reads.invariant.read_in
    (c.in-Err.ensures.talks reading.flushed)

pub returns-then-done-clause-talks : goal.returns-then-done-clause-talks
returns-then-done-clause-talks g c f =
    let reading = c.reads.invariant.reading f in
    finished c.args.limit c.in-Ok.done tt reading c.reads.invariant.read_in c.if-done.true
    (c.in-Ok.ensures.talks reading.flushed)

pub returns-then-read-limit-clause-talks : goal.returns-then-read-limit-clause-talks
returns-then-read-limit-clause-talks g c f =
    let reading = c.reads.invariant.reading f in
    let after = settled c.in-Ok.done reading c.if-done.false (c.in-Ok.ensures.talks reading.flushed) in
    waited c.take_all.new.notes c.args.limit after.0 after.1 (omega (arith, c.reads.invariant.read_in))

pub returns-in-Err-fill-clause-talks : goal.returns-in-Err-fill-clause-talks
returns-in-Err-fill-clause-talks g c f =
    let reading = c.reads.invariant.reading f in
    let after = settled c.in-Ok.done reading c.if-done.false (c.in-Ok.ensures.talks reading.flushed) in
    unread c.take_all.new.notes c.args.limit (c.args.limit - c.reads.read) c.in-Err-fill.e after.0 after.1
    (omega arith) c.in-Err-fill.ensures.filled

pub returns-then-n-eq0-clause-talks : goal.returns-then-n-eq0-clause-talks
returns-then-n-eq0-clause-talks g c f =
    let reading = c.reads.invariant.reading f in
    let after = settled c.in-Ok.done reading c.if-done.false (c.in-Ok.ensures.talks reading.flushed) in
    let filled = c.in-Ok-fill.ensures.filled in
    ended c.take_all.new.notes c.args.limit filled.0 c.end_error.result after.0 after.1 (omega arith) filled.2
    (filled.1
    ∙ c.if-n-eq0.true) c.end_error.ensures.is

pub returns-in-Err-clause-foreseen : goal.returns-in-Err-clause-foreseen
returns-in-Err-clause-foreseen g c t =
    let taken =
    foreseen_quiet _ _ _ _ _ _ (c.reads.invariant.foreseen t) (c.take_all.ensures.left t)
    c.take_all.ensures.quiet in
    taken

pub returns-in-Err-clause-ends : goal.returns-in-Err-clause-ends
returns-in-Err-clause-ends g c t =
    let taken =
    ends_quiet _ _ _ _ _ (g.met.L.Link.knows t c.reads.link) (c.reads.invariant.not_ended t)
    (c.take_all.ensures.left t) c.take_all.ensures.quiet in
    taken

pub returns-then-done-clause-foreseen : goal.returns-then-done-clause-foreseen
returns-then-done-clause-foreseen g c t =
    let taken =
    foreseen_quiet _ _ _ _ _ _ (c.reads.invariant.foreseen t) (c.take_all.ensures.left t)
    c.take_all.ensures.quiet in
    taken

pub returns-then-done-clause-ends : goal.returns-then-done-clause-ends
returns-then-done-clause-ends g c t =
    let taken =
    ends_quiet _ _ _ _ _ (g.met.L.Link.knows t c.reads.link) (c.reads.invariant.not_ended t)
    (c.take_all.ensures.left t) c.take_all.ensures.quiet in
    taken

pub returns-then-read-limit-clause-foreseen : goal.returns-then-read-limit-clause-foreseen
returns-then-read-limit-clause-foreseen g c t =
    let taken =
    foreseen_quiet _ _ _ _ _ _ (c.reads.invariant.foreseen t) (c.take_all.ensures.left t)
    c.take_all.ensures.quiet in
    taken

pub returns-then-read-limit-clause-ends : goal.returns-then-read-limit-clause-ends
returns-then-read-limit-clause-ends g c t =
    let taken =
    ends_quiet _ _ _ _ _ (g.met.L.Link.knows t c.reads.link) (c.reads.invariant.not_ended t)
    (c.take_all.ensures.left t) c.take_all.ensures.quiet in
    taken

pub returns-in-Err-fill-clause-foreseen : goal.returns-in-Err-fill-clause-foreseen
returns-in-Err-fill-clause-foreseen g c t =
    let taken =
    foreseen_quiet _ _ _ _ _ _ (c.reads.invariant.foreseen t) (c.take_all.ensures.left t)
    c.take_all.ensures.quiet in
    foreseen_on _ _ _ _ _ _ taken (c.fill.ensures.foreseen t)

pub returns-in-Err-fill-clause-ends : goal.returns-in-Err-fill-clause-ends
returns-in-Err-fill-clause-ends g c t =
    let taken =
    ends_quiet _ _ _ _ _ (g.met.L.Link.knows t c.reads.link) (c.reads.invariant.not_ended t)
    (c.take_all.ensures.left t) c.take_all.ensures.quiet in
    ends_further _ _ _ _ _ (g.met.L.Link.knows t c.take_all.new.link) taken (c.fill.ensures.foreseen t)
    (c.fill.ensures.ends t)

pub returns-then-n-eq0-clause-foreseen : goal.returns-then-n-eq0-clause-foreseen
returns-then-n-eq0-clause-foreseen g c t =
    let taken =
    foreseen_quiet _ _ _ _ _ _ (c.reads.invariant.foreseen t) (c.take_all.ensures.left t)
    c.take_all.ensures.quiet in
    foreseen_on _ _ _ _ _ _ taken (c.fill.ensures.foreseen t)

pub returns-then-n-eq0-clause-ends : goal.returns-then-n-eq0-clause-ends
returns-then-n-eq0-clause-ends g c t =
    let taken =
    ends_quiet _ _ _ _ _ (g.met.L.Link.knows t c.reads.link) (c.reads.invariant.not_ended t)
    (c.take_all.ensures.left t) c.take_all.ensures.quiet in
    ends_further _ _ _ _ _ (g.met.L.Link.knows t c.take_all.new.link) taken (c.fill.ensures.foreseen t)
    (c.fill.ensures.ends t)

pub reads-preserved : goal.reads-preserved
reads-preserved g c = record {
  read_in = omega (arith, c.in-Ok-fill.ensures.bound);
  empty = c.in-Ok.ensures.emptied;
  kept = c.fill.ensures.kept ∙ c.take_all.ensures.kept ∙ c.reads.invariant.kept;
  later = omega (arith, c.reads.invariant.later, c.take_all.ensures.cause.later, c.fill.ensures.cause.later);
  clean =
      c.fill.ensures.clean (not_io c.in-Ok-fill.is) ∙ c.take_all.ensures.clean (not_io c.in-Ok.is)
      ∙ c.reads.invariant.clean;
  foreseen = λ t.
      let taken =
      foreseen_quiet _ _ _ _ _ _ (c.reads.invariant.foreseen t) (c.take_all.ensures.left t)
      c.take_all.ensures.quiet in
      foreseen_on _ _ _ _ _ _ taken (c.fill.ensures.foreseen t);
  not_ended = λ t.
      let taken =
      ends_quiet _ _ _ _ _ (g.met.L.Link.knows t c.reads.link) (c.reads.invariant.not_ended t)
      (c.take_all.ensures.left t) c.take_all.ensures.quiet in
      ends_further _ _ _ _ _ (g.met.L.Link.knows t c.take_all.new.link) taken (c.fill.ensures.foreseen t)
      (c.fill.ensures.ends t);
  reading = λ f.
      let reading = c.reads.invariant.reading f in
      let after = settled c.in-Ok.done reading c.if-done.false (c.in-Ok.ensures.talks reading.flushed) in
      let filled = c.in-Ok-fill.ensures.filled in
      read_on filled.0 c.in-Ok-fill.n after.0 filled.2 filled.1 (omega arith) filled.3;
}
