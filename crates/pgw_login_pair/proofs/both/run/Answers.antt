use Rattle.std.proofs.Common.{sym, ◌∙◌, refl, subst}
use Rattle.pgw_machine.specs.declared.event.Event.TheVariants.{ToServer}
use Rattle.pgw_login_pair.specs.Server.{Means}
use Rattle.pgw_login_pair.specs.Sides.{AreActs, IsFrom}
use Rattle.pgw_login_pair.specs.World.{Runs}
use Rattle.pgw_login_pair.proofs.EventLaws.{next_and_rest, none_left}
use Rattle.pgw_login_pair.proofs.both.run.Goals as goal

pub loop-event-preserved : goal.loop-event-preserved
loop-event-preserved g c =
    let kept = c.loop-event.invariant.kept in
    record {
      fits = c.happen.ensures.fits;
      kept = c.happen.ensures.kept ∙ kept;
      going = c.in_ok-happen.ensures.going;
      from = λ begin h. subst
          (λ x. IsFrom (g.H.StartupHandler.means x) begin c.loop-event.server.core → IsFrom
          (g.H.StartupHandler.means x) begin c.happen.new.server.core) kept (c.happen.ensures.from begin)
          (c.loop-event.invariant.from begin h);
      runs = λ generator input w acts are.
          let r = c.loop-event.invariant.runs generator input w acts are in
          let s =
          c.in_ok-happen.ensures.happens generator input r.0
          (subst (λ x. AreActs (g.H.StartupHandler.means x) (Means input)) (sym kept) acts) r.1 in (
            s.0,
            s.2,
            λ end runs. r.2 end
                (subst (λ es. Runs input es r.0 end)
                (sym (next_and_rest c.args.schedule.now c.loop-event.event-index (ToServer 0)
                c.loop-event-test.true)) (s.0, s.1, runs)),
          );
    }

pub returns-in_err-happen-clause-from : goal.returns-in_err-happen-clause-from
returns-in_err-happen-clause-from g c = λ begin h.
    subst (λ x. IsFrom (g.H.StartupHandler.means x) begin c.loop-event.server.core → IsFrom
    (g.H.StartupHandler.means x) begin c.happen.new.server.core) c.loop-event.invariant.kept
    (c.happen.ensures.from begin) (c.loop-event.invariant.from begin h)

pub returns-clause-runs : goal.returns-clause-runs
returns-clause-runs g c = λ generator input w acts are.
    let r = c.loop-event.invariant.runs generator input w acts are in (
      r.0,
      r.2 r.0 (subst (λ es. Runs input es r.0 r.0)
          (sym (none_left c.args.schedule.now c.loop-event.event-index c.loop-event-test.false)) refl),
      r.1,
    )
