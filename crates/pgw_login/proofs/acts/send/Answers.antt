use Rattle.pgw_login.proofs.ActLaws.{did_send}
use Rattle.pgw_login.proofs.acts.send.Goals as goal

pub returns-clause-sent : goal.returns-clause-sent
returns-clause-sent g c =
    did_send c.args.message _ _ c.send.result c.send.ensures.taken c.send.ensures.calm c.send.ensures.kept
    c.send.ensures.cause
