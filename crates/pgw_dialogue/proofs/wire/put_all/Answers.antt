use Rattle.std.proofs.Common.{◌++◌, take, length, List, ℕ, append_assoc, ap, arith, sym, subst, ◌∙◌, Err}
use Rattle.pgw_frontend.specs.Frontend.{encoding, encodings}
use Rattle.pgw_dialogue.specs.Wire.{IsOwn, PutOut}
use Rattle.pgw_dialogue.proofs.WireLaws.{own_of, appended, all_put, put_refused}
use Rattle.pgw_dialogue.proofs.wire.put_all.Goals as goal

pub returns-in-Err-clause-own : goal.returns-in-Err-clause-own
returns-in-Err-clause-own c = subst IsOwn (sym c.from.ensures) (own_of c.in-Err.e)

pub returns-in-Err-clause-put : goal.returns-in-Err-clause-put
returns-in-Err-clause-put c =
    let p = c.loop-at.invariant.put in
    let refused =
    put_refused c.args.messages.now c.loop-at.at c.index-messages-at.result c.args.out.now.items p.0
    c.encode.new.buf.items c.in-Err.e c.loop-at-test.true c.index-messages-at.is p.2
    (c.in-Err.ensures.exact.0
    ∙ p.1) c.in-Err.ensures.exact.1 in
    let cut = c.truncate.ensures.items ∙ ap (λ n. take n c.encode.new.buf.items) c.len-start.ensures.value in
    let P : List ℕ → Type 0 =
    λ l. PutOut (encodings c.args.messages.now) c.args.out.now.items l (Err c.from.result) in
    subst P (sym cut) (subst (λ x. PutOut (encodings c.args.messages.now) c.args.out.now.items
    (take (length c.args.out.now.items) c.encode.new.buf.items) (Err x)) (sym c.from.ensures) refused)

pub loop-at-preserved : goal.loop-at-preserved
loop-at-preserved c =
    let p = c.loop-at.invariant.put in
    let a =
    appended (encoding c.index-messages-at.result) c.loop-at.out.items c.encode.new.buf.items
    c.in-Ok.ensures.exact in
    record {
      at_in = omega arith;
      put = (
        p.0 ++ a.0,
        a.2 ∙ ap (λ (l : List ℕ). l ++ a.0) p.1
            ∙ append_assoc c.args.out.now.items p.0 a.0,
        all_put c.args.messages.now c.loop-at.at
            c.index-messages-at.result p.0 a.0 c.loop-at-test.true c.index-messages-at.is p.2 a.1,
      );
    }
