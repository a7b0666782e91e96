use Rattle.std.proofs.Common.{sym, ◌∙◌, arith, refl}
use Rattle.pgw_prog_script.specs.Form.{read_script}
use Rattle.pgw_prog_script.proofs.ScriptLaws.{at_end}
use Rattle.pgw_prog_script.proofs.lines.read_whole.Goals as goal

pub loop-rest-init : goal.loop-rest-init
unfolding read_script
loop-rest-init g c =
    let new = c.new-draft.ensures in
    record { same = rw (new.place, new.script) refl; few = omega arith; holds = new.holds }

pub returns-then-may_end-clause-exact : goal.returns-then-may_end-clause-exact
returns-then-may_end-clause-exact g c =
    let D = g.D.Draft in
    let draft = c.loop-rest.draft in
    rw c.finish.ensures (sym c.loop-rest.invariant.same
    ∙ rw c.if-may_end.true at
    (at_end D.form (D.place draft) (D.script draft) c.loop-rest.number c.loop-rest.rest.now
    c.may_end.result (omega (arith, c.loop-rest-test.false)) c.may_end.ensures))

pub returns-else-may_end-clause-exact : goal.returns-else-may_end-clause-exact
returns-else-may_end-clause-exact g c =
    let D = g.D.Draft in
    let draft = c.loop-rest.draft in
    sym c.loop-rest.invariant.same
    ∙ rw c.if-may_end.false at
    (at_end D.form (D.place draft) (D.script draft) c.loop-rest.number c.loop-rest.rest.now
    c.may_end.result (omega (arith, c.loop-rest-test.false)) c.may_end.ensures)
