use Rattle.pgw_session.specs.declared.types.Request.TheVariants as request
use Rattle.pgw_session.specs.declared.types.Answer.TheVariants as answer
use Rattle.pgw_client_calls.specs.Line.{Pause}
use Rattle.pgw_client_laws.proofs.SimpleLaws.{simple_call}
use Rattle.pgw_client_laws.proofs.UniqueLaws.{reports}
use Rattle.pgw_client_laws.proofs.laws.whole_segments_are_reported.Goals as goal

pub returns : goal.returns
returns c = λ q before now h c bytes sent end es spelled more call segment got are.
    reports answer.Responses (Pause before now) (request.Simple q) c bytes sent end.info end.rest es spelled more
    segment got are end.answer end.broken (simple_call q before now h c bytes sent end call)
