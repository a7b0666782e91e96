use Rattle.std.proofs.Common.{◌++◌}
use Rattle.pgw_client_laws.proofs.LoginLaws.{login_call}
use Rattle.pgw_client_laws.proofs.LoginWaiting.{lets_in}
use Rattle.pgw_client_laws.proofs.laws.waiting_logins_are_reported.Goals as goal

pub returns : goal.returns
returns c = λ config h old now last coming is es call foretold has calm.
    lets_in config h.nonce old now coming call.taken call.sent last.rest is es last.answer last.info last.broken
    (login_call old now config h (old.buffer ++ call.taken) call.sent last call.asked) call.moved foretold has
    calm
