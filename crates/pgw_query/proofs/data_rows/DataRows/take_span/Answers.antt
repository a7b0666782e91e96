use Rattle.std.proofs.Common.{ap, arith, drop, sym, ℕ, subst}
use Rattle.pgw_query.specs.Runs.{MovesRows, rows_of}
use Rattle.pgw_query.proofs.RunLaws.{Taken, taken}
use Rattle.pgw_query.proofs.data_rows.DataRows.take_span.Goals as goal

pub returns-then-span-eq0-clause-left : goal.returns-then-span-eq0-clause-left
returns-then-span-eq0-clause-left c =
    sym (ap (λ (k : ℕ). drop k c.args.bytes.now) (c.requires.none c.if-span-eq0.true))

step : (c : goal.After-advance)
    → Taken c.self.inside.runs.items c.push.new.self.items c.args.bytes.now c.advance.new.self c.args.span.rows
step c =
    taken c.self.inside.runs.items c.push.new.self.items c.args.bytes.now c.in_ok-run.run' c.advance.new.self
    c.args.span.rows c.args.span.end
    c.self.invariant.0 c.requires (omega (arith, c.if-span-eq0.false)) c.in_ok-run.ensures
    c.in_ok-push.ensures.items c.advance.ensures

pub invariant_of-self-2 : goal.invariant_of-self-2
invariant_of-self-2 c = let t = step c in (t.are, omega (arith, t.counted, c.self.invariant.1, c.in-Some.ensures))

pub returns-clause-taken : goal.returns-clause-taken
returns-clause-taken c =
    subst (λ l. MovesRows l (rows_of c.push.new.self.items) c.args.bytes.now c.advance.new.self c.args.span.rows)
    c.self.view_is (step c).takes
