use Rattle.pgw_client_calls.specs.Canceling.{cut, no_link}
use Rattle.std.proofs.Common.{◌∙◌}
use Rattle.pgw_client_calls.proofs.ConnectLaws.{counts_from, once, rose_once}
use Rattle.pgw_client_calls.proofs.ForetoldLaws.{made_still}
use Rattle.pgw_client_calls.proofs.canceling.send_once.Goals as goal

pub returns-in-Ok-sent-clause-sent : goal.returns-in-Ok-sent-clause-sent
returns-in-Ok-sent-clause-sent g c =
    (_, _, once _ _ _ _ _ _ c.in-Ok.ensures.dialled c.close.ensures.shut, c.in-Ok-sent.ensures.sent)

pub returns-in-Err-sent-clause-failed : goal.returns-in-Err-sent-clause-failed
returns-in-Err-sent-clause-failed g c =
    cut (rose_once _ _ _ _ _ c.in-Ok.ensures.faultless c.in-Ok.ensures.calm c.in-Err-sent.ensures.cause.failed
    c.close.ensures.counts)
    _ _ (once _ _ _ _ _ _ c.in-Ok.ensures.dialled c.close.ensures.shut) c.in-Err-sent.ensures.failed
    (λ t. (_, made_still _ _ _ _ (c.close.ensures.kept t) (c.in-Ok.ensures.offered t)))

pub returns-in-Err-clause-failed : goal.returns-in-Err-clause-failed
returns-in-Err-clause-failed g c = no_link c.in-Err.error c.in-Err.ensures.failed

pub returns-in-Ok-sent-clause-calm : goal.returns-in-Ok-sent-clause-calm
returns-in-Ok-sent-clause-calm g c =
    (counts_from _ _ _ _ c.in-Ok.ensures.calm c.close.ensures.counts).clean (c.in-Ok-sent.ensures.clean
    ∙ c.in-Ok.ensures.faultless)

pub returns-in-Ok-sent-clause-next : goal.returns-in-Ok-sent-clause-next
returns-in-Ok-sent-clause-next g c =
    λ t. (_, made_still _ _ _ _ (c.close.ensures.kept t) (c.in-Ok.ensures.offered t))
