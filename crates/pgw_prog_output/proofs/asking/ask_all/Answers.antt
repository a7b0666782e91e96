use Rattle.std.proofs.Common.{◌∙◌, arith}
use Rattle.pgw_prog_output.specs.Asking.{none, next, last}
use Rattle.pgw_prog_output.proofs.AskingLaws.{query_at, all_asked}
use Rattle.pgw_prog_output.proofs.asking.ask_all.Goals as goal

pub returns-in_default : goal.returns-in_default
returns-in_default g c = record {
  asked =
      let is = query_at c.args.queries.now c.loop-query.query-index c.query-item.result (omega arith)
      c.query-item.is in
      let asked = rw c.as_str.ensures.value at c.ask.ensures.asked in
      c.loop-query.invariant.asked _ _ _ (rw is (last _ _ _ _ _ _ _ c.in_default.not-Well asked));
  counts = rw c.loop-query.invariant.same at c.ask.ensures.counts;
}

pub loop-query-preserved : goal.loop-query-preserved
loop-query-preserved g c = record {
  asked = λ new after how rest.
      let is = query_at c.args.queries.now c.loop-query.query-index c.query-item.result (omega arith)
      c.query-item.is in
      let asked = rw c.as_str.ensures.value at c.in-Well.ensures.asked in
      c.loop-query.invariant.asked new after how (rw is (next _ _ how _ _ new _ _ after asked rest));
  same = c.in-Well.ensures.counts ∙ c.loop-query.invariant.same;
}

pub returns-clause-asked : goal.returns-clause-asked
returns-clause-asked g c =
    let is = all_asked c.args.queries.now c.loop-query.query-index (omega arith) in
    c.loop-query.invariant.asked _ _ _ (rw is (none _ _))
