use Rattle.pgw_login.proofs.ActLaws.{did_settle}
use Rattle.pgw_login_sasl.proofs.handler.SASLAuthStartupHandlerStartupHandler.on_startup.Goals as goal

pub returns-clause-means : goal.returns-clause-means
returns-clause-means g c =
    rw c.settle.ensures.answer
    (did_settle c.answer-answer.result c.settle.ensures.settled
    (rw c.of.ensures at c.answer-answer.ensures.answered))
