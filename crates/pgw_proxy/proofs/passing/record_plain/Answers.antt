use Rattle.std.proofs.Common.{◌≡◌, ◌+◌, ◌++◌, List, [], ℕ, take, drop, refl, sym, ap, ◌∙◌, arith, append_assoc, length-drop, take_at}
use Rattle.std.specs.Prelude.{slice_range}
use Rattle.std.proofs.lemmas.List.{append-nil}
use Rattle.pgw_query.proofs.RunLaws.{rest_of}
use Rattle.pgw_proxy.specs.Record.{relay_entry}
use Rattle.pgw_proxy.proofs.PassingLaws.{tapes_none, tapes_on}
use Rattle.pgw_proxy.proofs.passing.record_plain.Goals as goal

pub loop-end-init : goal.loop-end-init
loop-end-init c = record {
  within = omega arith;
  tapes = tapes_none c.args.side c.args.ready c.args.bytes.now c.args.tape.now.items;
  part = ([], sym (append-nil c.args.tape.now.items));
}

pub loop-end-preserved : goal.loop-end-preserved
loop-end-preserved c =
    let bytes = c.args.bytes.now in
    let n = c.loop-end.taken in
    let end = c.in-Some.end in
    let inv = c.loop-end.invariant in
    let to = rw (rest_of bytes n) at c.in-Some.ensures in
    let piece : List ℕ = slice_range bytes n (n + end) in
    let cut : piece ≡ take end (drop n bytes) = ap (λ (k : ℕ). take k (drop n bytes)) (omega arith) in
    record {
      within = omega (arith, to.1, length-drop n bytes, inv.within);
      tapes =
          tapes_on c.args.side c.args.ready bytes (drop n bytes) piece n end c.args.tape.now.items
          c.loop-end.tape.items c.put_record.new.tape.items inv.tapes refl cut to c.in-Ok.ensures.ok;
      part = (
        inv.part.0 ++ relay_entry c.args.side piece,
        c.in-Ok.ensures.ok
            ∙ ap (λ (l : List ℕ). l ++ relay_entry c.args.side piece) inv.part.1
            ∙ append_assoc c.args.tape.now.items inv.part.0 (relay_entry c.args.side piece),
      );
    }

pub loop-end-smaller : goal.loop-end-smaller
loop-end-smaller c =
    let to = rw (rest_of c.args.bytes.now c.loop-end.taken) at c.in-Some.ensures in
    omega (arith, to.0, to.1, length-drop c.loop-end.taken c.args.bytes.now, c.loop-end.invariant.within)

pub returns-in-Err-clause-err : goal.returns-in-Err-clause-err
returns-in-Err-clause-err c =
    c.truncate.ensures.items ∙ ap (take c.len-start.result) (c.in-Err.ensures.err ∙ c.loop-end.invariant.part.1)
    ∙ take_at c.args.tape.now.items c.loop-end.invariant.part.0 c.len-start.result (sym c.len-start.ensures.value)
