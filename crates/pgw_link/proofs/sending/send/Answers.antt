use Rattle.std.proofs.Common.{◌≡◌, ◌++◌, ◌+◌, ◌≤◌, ℕ, List, length, take, Result, Ok, Err, arith, sym, ap, ◌∙◌}
use Rattle.std.specs.Result.{OnOk, OnErr}
use Rattle.std.proofs.lemmas.List.{take_all}
use Rattle.pgw_link.specs.Tape.{Tape, Flushed, LinkFails}
use Rattle.pgw_link.specs.Sending.{ReadsNothing, Wrote, WroteSome}
use Rattle.pgw_link.proofs.LogLaws.{keeps_on, put_on}
use Rattle.pgw_link.proofs.sending.send.Goals as goal

on_ok : {A E : Type 0} (P Q : Type 0) (r : Result A E) → (P → Q) → OnOk r P → OnOk r Q
on_ok P Q (Ok x) f p = f p
on_ok P Q (Err e) f p = tt

on_err : {A E : Type 0} (P Q : Type 0) (r : Result A E) → (P → Q) → OnErr r P → OnErr r Q
on_err P Q (Ok x) f p = tt
on_err P Q (Err e) f p = f p

wrote_all : (old mid new : Tape) (bytes : List ℕ) (at : ℕ) → length bytes ≤ at → ReadsNothing old mid
    → mid.wrote ≡ old.wrote ++ take at bytes → mid.writes ≤ old.writes + at → at ≤ length bytes → Flushed mid new
    → Wrote old new bytes
wrote_all old mid new bytes at all none wrote writes within f = record {
  reads_nothing =
      record { took = f.took ∙ none.took; ended = f.ended ∙ none.ended; reads = f.reads ∙ none.reads };
  wrote = f.wrote ∙ wrote ∙ ap (λ (w : List ℕ). old.wrote ++ w) (take_all at bytes all);
  flushed = f.flushed ∙ sym (ap length f.wrote);
  writes = omega (arith, f.writes, writes, within);
}

wrote_some : (old mid new : Tape) (bytes : List ℕ) (at : ℕ) → ReadsNothing old mid
    → mid.wrote ≡ old.wrote ++ take at bytes → mid.flushed ≡ old.flushed → mid.writes ≤ old.writes + at
    → at ≤ length bytes → LinkFails mid new mid.reads (mid.writes) → WroteSome old new bytes
wrote_some old mid new bytes at none wrote flushed writes within f = record {
  count = at;
  reads_nothing =
      record { took = f.took ∙ none.took; ended = f.ended ∙ none.ended; reads = f.reads ∙ none.reads };
  count_in = within;
  wrote = f.wrote ∙ wrote;
  flushed = f.flushed ∙ flushed;
  writes = omega (arith, f.writes, writes);
}

pub returns-clause-clean : goal.returns-clause-clean
returns-clause-clean g c =
    let old = g.L.Link.faults c.args.link.now in
    let mid = g.L.Link.faults c.loop-at.link in
    let new = g.L.Link.faults c.flush.new.self in
    on_ok (new ≡ mid) (new ≡ old) c.flush.result (λ same. same
    ∙ c.loop-at.invariant.clean) c.flush.ensures.no_fault

pub returns-clause-sent : goal.returns-clause-sent
returns-clause-sent g c =
    let i = c.loop-at.invariant in
    let old = g.L.Link.tape c.args.link.now in
    let mid = g.L.Link.tape c.loop-at.link in
    let new = g.L.Link.tape c.flush.new.self in
    on_ok (Flushed mid new) (Wrote old new c.args.bytes.now) c.flush.result
    (wrote_all old mid new c.args.bytes.now c.loop-at.at c.loop-at-test.false i.reads_nothing i.wrote i.writes
    i.at_in) c.flush.ensures.done

pub returns-clause-failed : goal.returns-clause-failed
returns-clause-failed g c =
    let i = c.loop-at.invariant in
    let old = g.L.Link.tape c.args.link.now in
    let mid = g.L.Link.tape c.loop-at.link in
    let new = g.L.Link.tape c.flush.new.self in
    on_err (LinkFails mid new mid.reads mid.writes) (WroteSome old new c.args.bytes.now) c.flush.result
    (wrote_some old mid new c.args.bytes.now c.loop-at.at i.reads_nothing i.wrote i.flushed i.writes i.at_in)
    c.flush.ensures.failed

pub loop-at-preserved : goal.loop-at-preserved
loop-at-preserved g c =
    let i = c.loop-at.invariant in
    let e = c.in_ok-n.ensures in
    let m = e.moved in
    record {
      at_in = omega (arith, e.bound);
      kept = e.kept ∙ i.kept;
      later = omega (arith, i.later, c.write.ensures.cause.later);
      clean = e.no_fault ∙ i.clean;
      reads_nothing =
          let p =
          e.moved in let r =
          i.reads_nothing in record {
            took = p.took ∙ r.took;
            ended = p.ended ∙ r.ended;
            reads = p.reads
                ∙ r.reads;
          };
      wrote = put_on (g.L.Link.tape c.args.link.now) c.args.bytes.now c.loop-at.at c.in_ok-n.n e.moved i.wrote;
      flushed = let p = e.moved in p.flushed ∙ i.flushed;
      writes = let p = e.moved in omega (arith, p.writes, i.writes, e.some);
      left = λ t. keeps_on (g.L.Link.left c.args.link.now) (g.L.Link.left c.loop-at.link)
          (g.L.Link.left c.write.new.self) (i.left t) (e.left t);
    }
