use Rattle.std.proofs.Common.{sym, subst}
use Rattle.pgw_session.specs.Transcript.{Completed}
use Rattle.pgw_dialogue.specs.Answers.{taken_of}
use Rattle.pgw_dialogue.proofs.ToldLaws.{done_completed}
use Rattle.pgw_dialogue.proofs.dialogue.Dialogue.report.Goals as goal

pub returns : goal.returns
returns c = record {
  reported = c.into_report.ensures;
  completed = λ input limit given put stands.
      subst (Completed input (taken_of limit given) put) (sym c.into_report.ensures)
      (done_completed input limit c.args.self given put c.requires stands);
}
