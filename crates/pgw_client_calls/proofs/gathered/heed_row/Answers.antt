use Rattle.std.proofs.Common.{ap}
use Rattle.pgw_handlers.specs.Extended.{response}
use Rattle.pgw_client_calls.specs.Talk.{fresh}
use Rattle.pgw_client_calls.specs.Extended.{as_lists}
use Rattle.pgw_client_calls.specs.ExtendedSteps.{heeds, refuses, wants}
use Rattle.pgw_client_calls.proofs.gathered.heed_row.Goals as goal

pub returns-in-Ok-keep-clause-heeded : goal.returns-in-Ok-keep-clause-heeded
returns-in-Ok-keep-clause-heeded g c = λ client.
    heeds (
      response c.in-Ok.response,
      c.in-Ok.ensures.means (fresh client),
      ap
          (λ rs. record (as_lists g.H.Responses.ResponseList.listed c.args.gathered.now) { responses = rs })
          c.in-Ok-keep.ensures,
    )

pub returns-in-Err-keep-clause-heeded : goal.returns-in-Err-keep-clause-heeded
returns-in-Err-keep-clause-heeded g c = λ client. wants

pub returns-in-Err-clause-heeded : goal.returns-in-Err-clause-heeded
returns-in-Err-clause-heeded g c =
    λ client. refuses c.in-Err.error (c.in-Err.ensures.means (fresh client)) (c.in-Err.ensures.cause 0).failed
