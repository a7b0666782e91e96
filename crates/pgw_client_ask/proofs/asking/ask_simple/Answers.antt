use Rattle.std.proofs.Common.{refl}
use Rattle.pgw_session.specs.declared.types.Request.TheVariants as request
use Rattle.pgw_session.specs.declared.types.Answer.TheVariants as answer
use Rattle.pgw_client_ask.proofs.AskLaws.{adds, answered_caused, came, came_as, ended_caused, ended_error, ended_ok, ends_as, simple_came}
use Rattle.pgw_client_ask.proofs.asking.ask_simple.Goals as goal

pub returns-in-Ok-clause-asks : goal.returns-in-Ok-clause-asks
returns-in-Ok-clause-asks g c =
    let usable = c.in-Ok.ensures.usable c.requires in (
      adds answer.Responses (request.Simple c.args.sql.now) _ _ _ _ c.in-Ok.responses _ usable
          (λ config nonce ts read wrote stands. c.simple_queries_follow_one_another.ensures config nonce ts read
          wrote c.args.sql.now _ _ _ _ _ stands (c.in-Ok.ensures.asked c.requires)),
      usable,
    )

pub returns-in-Err-clause-asks : goal.returns-in-Err-clause-asks
returns-in-Err-clause-asks g c =
    let call = c.in-Err.ensures.asked c.requires in
    ends_as answer.Responses (request.Simple c.args.sql.now) _ _ _ _ c.in-Err.error _ c.is_broken.result
    c.answered.result c.is_broken.ensures.broken c.answered.ensures
    (λ config nonce ts read wrote stands. c.simple_queries_follow_one_another.ensures config nonce ts read wrote
    c.args.sql.now _ _ _ _ _ stands call)
    (simple_came c.simple_queries_are_segments.ensures c.args.sql.now call refl)

pub returns-in-Ok-clause-came : goal.returns-in-Ok-clause-came
returns-in-Ok-clause-came g c =
    came answer.Responses (request.Simple c.args.sql.now) _ _ _ _ c.in-Ok.responses _
    (c.in-Ok.ensures.usable c.requires)
    (simple_came c.simple_queries_are_segments.ensures c.args.sql.now (c.in-Ok.ensures.asked c.requires) refl)

pub returns-in-Err-clause-came : goal.returns-in-Err-clause-came
returns-in-Err-clause-came g c =
    came_as answer.Responses (request.Simple c.args.sql.now) _ _ _ _ c.in-Err.error _ c.is_broken.result
    c.answered.result c.is_broken.ensures.broken c.answered.ensures
    (simple_came c.simple_queries_are_segments.ensures c.args.sql.now (c.in-Err.ensures.asked c.requires) refl)

pub returns-in-Ok-clause-cause : goal.returns-in-Ok-clause-cause
returns-in-Ok-clause-cause g c =
    answered_caused _ _ _ c.in-Ok.responses (answer.Responses c.in-Ok.responses) c.in-Ok.ensures.cause

pub returns-in-Err-clause-cause : goal.returns-in-Err-clause-cause
returns-in-Err-clause-cause g c =
    ended_caused _ _ _ c.is_broken.result c.in-Err.error c.answered.result c.requires c.answered.ensures
    c.in-Err.ensures.cause

pub returns-in-Ok-clause-foretold : goal.returns-in-Ok-clause-foretold
returns-in-Ok-clause-foretold g c = c.in-Ok.ensures.foretold

pub returns-in-Err-clause-foretold : goal.returns-in-Err-clause-foretold
returns-in-Err-clause-foretold g c = c.in-Err.ensures.foretold

pub returns-in-Ok-clause-ended : goal.returns-in-Ok-clause-ended
returns-in-Ok-clause-ended g c =
    let call = c.in-Ok.ensures.asked c.requires in
    ended_ok (request.Simple c.args.sql.now) _ _ _ _ c.in-Ok.responses _ (call.well, call.halts, call.at_end)

pub returns-in-Err-clause-ended : goal.returns-in-Err-clause-ended
returns-in-Err-clause-ended g c =
    let call = c.in-Err.ensures.asked c.requires in
    ended_error (request.Simple c.args.sql.now) _ _ _ c.in-Err.error _ c.is_broken.result c.answered.result
    c.is_broken.ensures.broken c.answered.ensures (call.well, call.halts, call.at_end)

pub returns-in-Ok-clause-within : goal.returns-in-Ok-clause-within
returns-in-Ok-clause-within g c = record { limit = c.in-Ok.ensures.limit; within = λ was. c.in-Ok.ensures.within }

pub returns-in-Err-clause-within : goal.returns-in-Err-clause-within
returns-in-Err-clause-within g c =
    record { limit = c.in-Err.ensures.limit; within = λ was. c.in-Err.ensures.within }
