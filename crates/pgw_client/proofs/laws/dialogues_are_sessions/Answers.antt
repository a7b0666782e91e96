use Rattle.pgw_client.proofs.AgreementLaws.{agrees, sent_agrees}
use Rattle.pgw_client.proofs.laws.dialogues_are_sessions.Goals as goal

pub returns : goal.returns
returns c = record { sent = sent_agrees; answered = agrees }
