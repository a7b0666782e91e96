use Rattle.std.proofs.Common.{◌∙◌, sym}
use Rattle.pgw_secrets.proofs.Lines.{found_first}
use Rattle.pgw_secrets.specs.PasswordShown.{answers_asked}
use Rattle.pgw_secrets.proofs.password_file.first_of.Goals as goal

pub returns-then-answers : goal.returns-then-answers
returns-then-answers c =
    found_first (answers_asked c.args.asked.now) c.args.entries.now c.loop-entry.entry-index c.entry-item.result
    c.loop-entry-test.true c.entry-item.is c.loop-entry.invariant (sym c.answers.ensures
    ∙ c.if-answers.true)
