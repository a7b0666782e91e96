use Rattle.pgw_client_calls.specs.Line.{Pause}
use Rattle.pgw_client_laws.specs.Extended.{call_answer}
use Rattle.pgw_client_laws.proofs.ExtendedLaws.{extended_call}
use Rattle.pgw_client_laws.proofs.UniqueLaws.{reports}
use Rattle.pgw_client_laws.proofs.laws.whole_extended_segments_are_reported.Goals as goal

pub returns : goal.returns
returns c = λ q before now h c bytes sent end es spelled more extended call segment got are.
    reports (call_answer q) (Pause before now) q c bytes sent end.info end.rest es spelled more segment got are
    end.answer end.broken (extended_call q before now h c bytes sent end extended call)
