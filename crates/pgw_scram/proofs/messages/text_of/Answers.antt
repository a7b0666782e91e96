use Rattle.std.proofs.lemmas.Str.{is_utf8-from_IsUtf8}
use Rattle.pgw_scram.proofs.MessageLaws.{not_utf8}
use Rattle.pgw_scram.proofs.messages.text_of.Goals as goal

pub returns-in-Ok-clause-text : goal.returns-in-Ok-clause-text
returns-in-Ok-clause-text c =
    (c.in-Ok.ensures.cases.0, is_utf8-from_IsUtf8 c.args.message.now c.in-Ok.ensures.cases.1)

pub returns-in-Err-clause-none : goal.returns-in-Err-clause-none
returns-in-Err-clause-none c = not_utf8 c.args.message.now c.in-Err.ensures.cases.0
