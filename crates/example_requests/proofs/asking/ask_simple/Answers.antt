use Rattle.std.proofs.Common.{refl}
use Rattle.pgw_session.specs.declared.types.Answer.TheVariants as answer
use Rattle.example_requests.specs.declared.asking.Question.TheVariants as question
use Rattle.example_requests.specs.declared.asking.Reply.TheVariants as reply
use Rattle.example_requests.proofs.AskLaws.{answered_caused, fails_by, remote_adds, replied_caused, simple_answered, simple_came}
use Rattle.example_requests.proofs.asking.ask_simple.Goals as goal

pub returns-in-Ok-clause-adds : goal.returns-in-Ok-clause-adds
returns-in-Ok-clause-adds g c =
    simple_answered c.args.sql.now c.in-Ok.responses _ _ _ _ _ (c.in-Ok.ensures.usable c.requires)
    (λ config nonce ts read wrote stands. c.simple_queries_follow_one_another.ensures config nonce ts read wrote
    c.args.sql.now _ _ _ _ _ stands (c.in-Ok.ensures.asked c.requires))

pub returns-in-Err-clause-adds : goal.returns-in-Err-clause-adds
returns-in-Err-clause-adds g c =
    remote_adds answer.Responses (question.Simple c.args.sql.now) _ _ _ _ _ c.is_broken.result c.in-Err.error
    c.replied.result c.is_broken.ensures.broken c.replied.ensures
    (λ config nonce ts read wrote stands. c.simple_queries_follow_one_another.ensures config nonce ts read wrote
    c.args.sql.now _ _ _ _ _ stands (c.in-Err.ensures.asked c.requires))

pub returns-in-Err-clause-fails : goal.returns-in-Err-clause-fails
returns-in-Err-clause-fails g c =
    let call = c.in-Err.ensures.asked c.requires in
    fails_by answer.Responses (question.Simple c.args.sql.now) _ _ _ _ _ c.is_broken.result c.in-Err.error
    c.replied.result c.is_broken.ensures.broken c.replied.ensures
    (simple_came c.simple_queries_are_segments.ensures c.args.sql.now c.in-Err.error call refl refl)
    (λ config nonce ts read wrote stands. c.simple_queries_follow_one_another.ensures config nonce ts read wrote
    c.args.sql.now _ _ _ _ _ stands call)

pub returns-in-Ok-clause-cause : goal.returns-in-Ok-clause-cause
returns-in-Ok-clause-cause g c =
    answered_caused _ _ _ c.in-Ok.responses (reply.Responses c.in-Ok.responses) c.in-Ok.ensures.cause

pub returns-in-Err-clause-cause : goal.returns-in-Err-clause-cause
returns-in-Err-clause-cause g c =
    replied_caused _ _ _ c.is_broken.result c.in-Err.error c.replied.result c.requires c.replied.ensures
    c.in-Err.ensures.cause
