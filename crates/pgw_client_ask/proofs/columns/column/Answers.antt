-- The column at the place has the name where the test says so; where it does not, none up to it has.
use Rattle.std.proofs.Common.{◌≡◌, ◌≢◌, true, false, arith, below_more, get_or}
use Rattle.std.proofs.lemmas.List.Elements.{at_read}
use Rattle.pgw_client_ask.proofs.columns.column.Goals as goal

pub returns-then-has_name-clause-found : goal.returns-then-has_name-clause-found
returns-then-has_name-clause-found c = record {
  within = c.loop-place-test.true;
  named = at_read _ (λ f. f.name ≡ c.args.name.now) _ _ c.loop-place-test.true
      c.index-fields-place.is (c.has_name.ensures.0 c.if-has_name.true);
  others = c.loop-place.invariant;
}

pub loop-place-preserved : goal.loop-place-preserved
loop-place-preserved c = λ k d low.
    let other : c.index-fields-place.result.name ≢ c.args.name.now = λ same.
    let yes : c.has_name.result ≡ true = c.has_name.ensures.1 same in
    let no : c.has_name.result ≡ false = c.if-has_name.false in
    cc in
    below_more (λ i. (get_or c.args.fields.now i d).name ≢ c.args.name.now) _
    (λ i. c.loop-place.invariant i d (omega arith))
    (at_read _ (λ f. f.name ≢ c.args.name.now) _ _ c.loop-place-test.true
    c.index-fields-place.is other d)
    k
