use Rattle.std.proofs.Common.{◌∙◌, ap, sym}
use Rattle.std.specs.Str.{is_utf8}
use Rattle.std.proofs.lemmas.Str.{is_utf8-from_IsUtf8}
use Rattle.pgw_dialogue.proofs.Bytes.{not_utf8}
use Rattle.pgw_dialogue.proofs.logins.text_password.Goals as goal

pub returns-in-Ok-clause-text : goal.returns-in-Ok-clause-text
returns-in-Ok-clause-text c = (
  c.in-Ok.ensures.cases.0 ∙ c.password_of.ensures,
  sym (ap is_utf8 c.password_of.ensures)
      ∙ is_utf8-from_IsUtf8 c.password_of.result.now c.in-Ok.ensures.cases.1,
)

pub returns-in-Err-clause-none : goal.returns-in-Err-clause-none
returns-in-Err-clause-none c =
    sym (ap is_utf8 c.password_of.ensures) ∙ not_utf8 c.password_of.result.now c.in-Err.ensures.cases.0
