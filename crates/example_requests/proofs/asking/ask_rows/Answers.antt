use Rattle.std.proofs.Common.{◌≡◌, [], false, ap, refl, sym, subst, ◌∙◌}
use Rattle.pgw_session.specs.declared.types.Request.TheVariants as request
use Rattle.pgw_handlers_default.specs.Extended.{ExtendedMeans}
use Rattle.pgw_client_calls.specs.State.{is_broken}
use Rattle.pgw_client_calls.proofs.RequestLaws.{called_as}
use Rattle.example_requests.specs.declared.asking.Question.TheVariants as question
use Rattle.example_requests.specs.declared.asking.Reply.TheVariants as reply
use Rattle.example_requests.proofs.AskLaws.{answered_caused, fails_by, remote_adds, replied_caused, rows_answered, rows_came, rows_failed, rows_of, rows_listed, given_listed}
use Rattle.example_requests.proofs.asking.ask_rows.Goals as goal

pub returns-in-Ok-clause-adds : goal.returns-in-Ok-clause-adds
returns-in-Ok-clause-adds g c =
    let lent = c.extended_query-lent.ensures.client in
    let usable = subst (λ x. is_broken x ≡ false) (sym lent) c.requires in
    let a = c.in-Ok.ensures.asks.asked usable in
    let none = ap (λ ps. request.Query c.args.sql.now [] ps) c.new.ensures in
    let back : c.client-1.given.0 ≡ c.query.new.self.client.now =
    c.client-1.given.1 (sym (c.query.ensures.same_client ∙ c.extended_query-lent.ensures.same_client)) in
    rw (sym lent, back) (rows_answered c.args.sql.now c.in-Ok.rows _ _ _ _ _ (rows_listed a.answer)
    (c.in-Ok.ensures.asks.usable usable) (given_listed _ a.answer a.gives)
    (λ config nonce ts read wrote stands. c.extended_queries_follow_one_another.ensures config nonce ts read wrote
    (request.Query c.args.sql.now [] []) _ _ _ _ _ tt stands
    (called_as ExtendedMeans _ _ _ _ _ _ _ none a.called)))

pub returns-clause-adds : goal.returns-clause-adds
returns-clause-adds g c =
    let lent = c.extended_query-lent.ensures.client in
    let usable = subst (λ x. is_broken x ≡ false) (sym lent) c.requires in
    let a = c.in-Err.ensures.asks.asked usable in
    let none = ap (λ ps. request.Query c.args.sql.now [] ps) c.new.ensures in
    let back : c.client-1.given.0 ≡ c.query.new.self.client.now =
    c.client-1.given.1 (sym (c.query.ensures.same_client ∙ c.extended_query-lent.ensures.same_client)) in
    rw (sym lent, back) (remote_adds (rows_of c.args.sql.now) (question.Rows c.args.sql.now) _ _ _ _ _
    c.is_broken.result c.in-Err.error c.replied.result (c.is_broken.ensures.broken
    ∙ ap (λ x. is_broken x) back) c.replied.ensures
    (rows_failed c.args.sql.now _ _ _ _ _ c.in-Err.error (rows_listed a.answer) (given_listed _ a.answer a.gives)
    (λ config nonce ts read wrote stands. c.extended_queries_follow_one_another.ensures config nonce ts read wrote
    (request.Query c.args.sql.now [] []) _ _ _ _ _ tt stands
    (called_as ExtendedMeans _ _ _ _ _ _ _ none a.called))))

pub returns-clause-fails : goal.returns-clause-fails
returns-clause-fails g c =
    let lent = c.extended_query-lent.ensures.client in
    let usable = subst (λ x. is_broken x ≡ false) (sym lent) c.requires in
    let a = c.in-Err.ensures.asks.asked usable in
    let none = ap (λ ps. request.Query c.args.sql.now [] ps) c.new.ensures in
    let back : c.client-1.given.0 ≡ c.query.new.self.client.now =
    c.client-1.given.1 (sym (c.query.ensures.same_client ∙ c.extended_query-lent.ensures.same_client)) in
    let call = called_as ExtendedMeans _ _ _ _ _ _ _ none a.called in
    rw (sym lent, back) (fails_by (rows_of c.args.sql.now) (question.Rows c.args.sql.now) _ _ _ _ _
    c.is_broken.result c.in-Err.error c.replied.result (c.is_broken.ensures.broken
    ∙ ap (λ x. is_broken x) back) c.replied.ensures
    (rows_came c.extended_queries_are_segments.ensures c.args.sql.now c.in-Err.error call
    (given_listed _ a.answer a.gives) refl)
    (rows_failed c.args.sql.now _ _ _ _ _ c.in-Err.error (rows_listed a.answer) (given_listed _ a.answer a.gives)
    (λ config nonce ts read wrote stands. c.extended_queries_follow_one_another.ensures config nonce ts read wrote
    (request.Query c.args.sql.now [] []) _ _ _ _ _ tt stands call)))

pub returns-in-Ok-clause-cause : goal.returns-in-Ok-clause-cause
returns-in-Ok-clause-cause g c =
    let lent = c.extended_query-lent.ensures.client in
    let back : c.client-1.given.0 ≡ c.query.new.self.client.now =
    c.client-1.given.1 (sym (c.query.ensures.same_client ∙ c.extended_query-lent.ensures.same_client)) in
    rw (sym lent, back) (answered_caused _ _ _ c.in-Ok.rows (reply.Rows c.in-Ok.rows) c.in-Ok.ensures.asks.cause)

pub returns-clause-cause : goal.returns-clause-cause
returns-clause-cause g c =
    let lent = c.extended_query-lent.ensures.client in
    let usable = subst (λ x. is_broken x ≡ false) (sym lent) c.requires in
    let back : c.client-1.given.0 ≡ c.query.new.self.client.now =
    c.client-1.given.1 (sym (c.query.ensures.same_client ∙ c.extended_query-lent.ensures.same_client)) in
    rw (sym lent, back) (replied_caused _ _ _ c.is_broken.result c.in-Err.error c.replied.result usable
    c.replied.ensures c.in-Err.ensures.asks.cause)
