use Rattle.pgw_dialogue.proofs.InboxLaws.{none_pass}
use Rattle.pgw_dialogue.proofs.inbox.frozen_len.Goals as goal

pub returns-in-None-clause-passed : goal.returns-in-None-clause-passed
returns-in-None-clause-passed c = none_pass c.args.bytes.now c.in-None.ensures
