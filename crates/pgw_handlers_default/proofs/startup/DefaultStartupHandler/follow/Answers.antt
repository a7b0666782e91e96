use Rattle.std.proofs.Common.{refl}
use Rattle.pgw_handlers_default.proofs.startup.DefaultStartupHandler.follow.Goals as goal

pub returns-in_ok-send_reply-in-Goes-clause-follows : goal.returns-in_ok-send_reply-in-Goes-clause-follows
returns-in_ok-send_reply-in-Goes-clause-follows g c =
    rw c.in-Goes.is (refl, c.in_ok-send_reply-in-Goes.ensures.sends, refl)
