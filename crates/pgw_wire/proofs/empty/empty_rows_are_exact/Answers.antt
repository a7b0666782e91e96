use Rattle.pgw_wire.proofs.EmptyLaws.{empty_request, empty_response}
use Rattle.pgw_wire.proofs.empty.empty_rows_are_exact.Goals as goal

pub returns : goal.returns
returns c = record { request = empty_request; response = empty_response }
