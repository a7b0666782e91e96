use Rattle.std.proofs.Common.{◌++◌}
use Rattle.pgw_session.specs.declared.types.Request.TheVariants as request
use Rattle.pgw_session.specs.declared.types.Answer.TheVariants as answer
use Rattle.pgw_client_laws.proofs.SimpleLaws.{simple_call}
use Rattle.pgw_client_laws.proofs.WaitingLaws.{gives}
use Rattle.pgw_client_laws.proofs.laws.waiting_segments_are_reported.Goals as goal

pub returns : goal.returns
returns c = λ q h c old now last coming is es call foretold has calm.
    gives answer.Responses (request.Simple q) c last.info old now coming call.taken call.sent last.rest is es
    last.answer last.broken
    (simple_call q old now h c (old.buffer ++ call.taken) call.sent last call.asked) call.moved foretold has calm
