use Rattle.pgw_dialogue.proofs.ToldLaws.{told, awaits_still, done_completed}
use Rattle.pgw_dialogue.proofs.laws.dialogues_tell.Goals as goal

pub returns : goal.returns
returns c = record { told = told; awaits = awaits_still; done = done_completed }
