use Rattle.std.proofs.Common.{◌++◌}
use Rattle.pgw_client_laws.specs.Extended.{call_answer}
use Rattle.pgw_client_laws.proofs.ExtendedLaws.{extended_call}
use Rattle.pgw_client_laws.proofs.WaitingLaws.{gives}
use Rattle.pgw_client_laws.proofs.laws.waiting_extended_segments_are_reported.Goals as goal

pub returns : goal.returns
returns c = λ q h c old now last coming is es extended call foretold has calm.
    gives (call_answer q) q c last.info old now coming call.taken call.sent last.rest is es last.answer
    last.broken
    (extended_call q old now h c (old.buffer ++ call.taken) call.sent last extended call.requested) call.moved
    foretold has calm
