use Rattle.pgw_dialogue.proofs.CallLaws.{ends}
use Rattle.pgw_dialogue.proofs.dialogue.Dialogue.at_end.Goals as goal

pub returns-clause-cause : goal.returns-clause-cause
returns-clause-cause c input limit given put stands =
    ends input limit c.args.self.now given put c.end_error.result c.requires stands c.end_error.ensures.is
