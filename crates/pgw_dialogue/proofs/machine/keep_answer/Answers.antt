use Rattle.std.proofs.lemmas.Option.{slice_get_past}
use Rattle.pgw_dialogue.specs.Input.{input_of}
use Rattle.pgw_dialogue.proofs.MachineLaws.{no_answer}
use Rattle.pgw_dialogue.proofs.machine.keep_answer.Goals as goal

pub returns-in_default : goal.returns-in_default
returns-in_default c =
    no_answer (input_of c.args.input.now) c.args.closed c.args.tally.now c.args.answers.now c.if-closed-gt0.true
    (slice_get_past _ _ c.in_default.ensures.lookup.3)
