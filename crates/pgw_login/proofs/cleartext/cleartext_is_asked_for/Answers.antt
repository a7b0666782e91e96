use Rattle.pgw_login.proofs.Challenging.{cleartext_asked, asked_cleartext}
use Rattle.pgw_login.proofs.cleartext.cleartext_is_asked_for.Goals as goal

pub returns : goal.returns
returns c = λ before after sent answer.
    (cleartext_asked before after sent answer, asked_cleartext before after sent answer)
