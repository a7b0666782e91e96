use Rattle.std.proofs.Common.{not, ap, sym, subst, ◌∙◌}
use Rattle.pgw_dialogue.specs.Input.{input_of}
use Rattle.pgw_dialogue.proofs.MachineLaws.{passed_moved, clean_moved}
use Rattle.pgw_dialogue.specs.Machine.{DialoguePasses}
use Rattle.pgw_dialogue.proofs.machine.take.Goals as goal

pub returns-then-is_none-clause-moved : goal.returns-then-is_none-clause-moved
returns-then-is_none-clause-moved c =
    clean_moved (input_of c.args.input.now) c.args.notes.now c.step.new.notes c.args.message c.args.out.now.items
    c.step.new.out.items c.step.result (c.is_none.ensures
    ∙ ap not c.if-is_none.true) c.step.ensures.moved

pub returns-clause-moved : goal.returns-clause-moved
returns-clause-moved c =
    let n = c.args.notes.now in
    let new = c.pass_over.new.notes in
    passed_moved (input_of c.args.input.now) n new c.args.message c.unwrap-first.result c.args.out.now.items
    c.pass_over.result (sym c.take.ensures.value
    ∙ c.unwrap-first.ensures)
    (subst (λ f. DialoguePasses (record n { first_passed = f }) new c.unwrap-first.result c.args.message
    c.pass_over.result) c.take.ensures.after c.pass_over.ensures.passed)
