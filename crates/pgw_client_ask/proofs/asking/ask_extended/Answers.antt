use Rattle.std.proofs.Common.{◌≡◌, Bool, List, false, ap, refl, sym, subst, ◌∙◌}
use Rattle.pgw_query.specs.declared.data.DataRow.{DataRow}
use Rattle.pgw_client_calls.specs.declared.gathered.Gathered.{Gathered}
use Rattle.pgw_client_calls.specs.State.{is_broken}
use Rattle.pgw_client_calls.proofs.ForetoldLaws.{foretold_still}
use Rattle.pgw_client_laws.specs.Extended.{call_answer}
use Rattle.pgw_client_ask.specs.Asking.{wants}
use Rattle.pgw_client_ask.proofs.AskLaws.{adds, answered_caused, came, came_as, called_both, ended_caused, ended_error, ended_ok, ended_still, ends_as, extended, extended_came, extended_ended}
use Rattle.pgw_client_ask.proofs.asking.ask_extended.Goals as goal

pub returns-in-Err-clause-asks : goal.returns-in-Err-clause-asks
returns-in-Err-clause-asks g c =
    wants c.in-Err.ensures.wants.0 c.in-Err.ensures.wants.1 refl refl c.requires.usable

pub returns-in-Ok-request-clause-asks : goal.returns-in-Ok-request-clause-asks
returns-in-Ok-request-clause-asks g c =
    let lent = c.extended_query-lent.ensures.client in
    let usable = subst (λ x. is_broken x ≡ false) (sym lent) c.requires.usable in
    let q = c.args.request.now in
    let x : Gathered (List DataRow) × Bool = (c.in-Ok-request.gathered, c.in-Ok-request.suspended) in
    let call = called_both q _ (c.in-Ok-request.ensures.asks.asked usable) in
    let back : c.client-1.given.0 ≡ c.request.new.self.client.now =
    c.client-1.given.1 (sym (c.request.ensures.same_client ∙ c.extended_query-lent.ensures.same_client)) in
    let good = c.in-Ok-request.ensures.asks.usable usable in
    rw (sym lent, back, c.given.ensures) (
      adds (call_answer q) q _ _ _ _ x _ good
          (λ config nonce ts read wrote stands. c.extended_queries_follow_one_another.ensures config nonce ts read
          wrote q _ _ _ _ _ (extended q c.requires.extended) stands call),
      good,
    )

pub returns-in-Err-request-clause-asks : goal.returns-in-Err-request-clause-asks
returns-in-Err-request-clause-asks g c =
    let lent = c.extended_query-lent.ensures.client in
    let usable = subst (λ x. is_broken x ≡ false) (sym lent) c.requires.usable in
    let q = c.args.request.now in
    let call = called_both q _ (c.in-Err-request.ensures.asks.asked usable) in
    let back : c.client-1.given.0 ≡ c.request.new.self.client.now =
    c.client-1.given.1 (sym (c.request.ensures.same_client ∙ c.extended_query-lent.ensures.same_client)) in
    let is = extended q c.requires.extended in
    rw (sym lent, back) (
    ends_as (call_answer q) q _ _ _ _ c.in-Err-request.error _ c.is_broken.result c.answered.result
    (c.is_broken.ensures.broken
    ∙ ap (λ x. is_broken x) back) c.answered.ensures
    (λ config nonce ts read wrote stands. c.extended_queries_follow_one_another.ensures config nonce ts read wrote
    q _ _ _ _ _ is stands call)
    (extended_came c.extended_queries_are_segments.ensures q is call refl)
    )

pub returns-in-Ok-request-clause-came : goal.returns-in-Ok-request-clause-came
returns-in-Ok-request-clause-came g c =
    let lent = c.extended_query-lent.ensures.client in
    let usable = subst (λ x. is_broken x ≡ false) (sym lent) c.requires.usable in
    let q = c.args.request.now in
    let x : Gathered (List DataRow) × Bool = (c.in-Ok-request.gathered, c.in-Ok-request.suspended) in
    let call = called_both q _ (c.in-Ok-request.ensures.asks.asked usable) in
    let back : c.client-1.given.0 ≡ c.request.new.self.client.now =
    c.client-1.given.1 (sym (c.request.ensures.same_client ∙ c.extended_query-lent.ensures.same_client)) in
    rw (sym lent, back, c.given.ensures)
    (came (call_answer q) q _ _ _ _ x _ (c.in-Ok-request.ensures.asks.usable usable)
    (extended_came c.extended_queries_are_segments.ensures q (extended q c.requires.extended) call refl))

pub returns-in-Err-request-clause-came : goal.returns-in-Err-request-clause-came
returns-in-Err-request-clause-came g c =
    let lent = c.extended_query-lent.ensures.client in
    let usable = subst (λ x. is_broken x ≡ false) (sym lent) c.requires.usable in
    let q = c.args.request.now in
    let call = called_both q _ (c.in-Err-request.ensures.asks.asked usable) in
    let back : c.client-1.given.0 ≡ c.request.new.self.client.now =
    c.client-1.given.1 (sym (c.request.ensures.same_client ∙ c.extended_query-lent.ensures.same_client)) in
    rw (sym lent, back) (
    came_as (call_answer q) q _ _ _ _ c.in-Err-request.error _ c.is_broken.result c.answered.result
    (c.is_broken.ensures.broken
    ∙ ap (λ x. is_broken x) back) c.answered.ensures
    (extended_came c.extended_queries_are_segments.ensures q (extended q c.requires.extended) call refl)
    )

pub returns-in-Ok-request-clause-cause : goal.returns-in-Ok-request-clause-cause
returns-in-Ok-request-clause-cause g c =
    let x : Gathered (List DataRow) × Bool = (c.in-Ok-request.gathered, c.in-Ok-request.suspended) in
    let lent = c.extended_query-lent.ensures.client in
    let back : c.client-1.given.0 ≡ c.request.new.self.client.now =
    c.client-1.given.1 (sym (c.request.ensures.same_client ∙ c.extended_query-lent.ensures.same_client)) in
    rw (sym lent, back) (answered_caused _ _ _ x c.given.result c.in-Ok-request.ensures.asks.cause)

pub returns-in-Err-request-clause-cause : goal.returns-in-Err-request-clause-cause
returns-in-Err-request-clause-cause g c =
    let lent = c.extended_query-lent.ensures.client in
    let usable = subst (λ x. is_broken x ≡ false) (sym lent) c.requires.usable in
    let back : c.client-1.given.0 ≡ c.request.new.self.client.now =
    c.client-1.given.1 (sym (c.request.ensures.same_client ∙ c.extended_query-lent.ensures.same_client)) in
    rw (sym lent, back) (ended_caused _ _ _ c.is_broken.result c.in-Err-request.error c.answered.result usable
    c.answered.ensures c.in-Err-request.ensures.asks.cause)

pub returns-in-Err-clause-foretold : goal.returns-in-Err-clause-foretold
returns-in-Err-clause-foretold g c = λ t. foretold_still _ _

pub returns-in-Ok-request-clause-foretold : goal.returns-in-Ok-request-clause-foretold
returns-in-Ok-request-clause-foretold g c = λ t.
    let lent = c.extended_query-lent.ensures.client in
    let back : c.client-1.given.0 ≡ c.request.new.self.client.now =
    c.client-1.given.1 (sym (c.request.ensures.same_client ∙ c.extended_query-lent.ensures.same_client)) in
    rw (sym lent, back) (c.in-Ok-request.ensures.asks.foretold t)

pub returns-in-Err-request-clause-foretold : goal.returns-in-Err-request-clause-foretold
returns-in-Err-request-clause-foretold g c = λ t.
    let lent = c.extended_query-lent.ensures.client in
    let back : c.client-1.given.0 ≡ c.request.new.self.client.now =
    c.client-1.given.1 (sym (c.request.ensures.same_client ∙ c.extended_query-lent.ensures.same_client)) in
    rw (sym lent, back) (c.in-Err-request.ensures.asks.foretold t)

pub returns-in-Err-clause-ended : goal.returns-in-Err-clause-ended
returns-in-Err-clause-ended g c = ended_still _ _ _ _

pub returns-in-Ok-request-clause-ended : goal.returns-in-Ok-request-clause-ended
returns-in-Ok-request-clause-ended g c =
    let lent = c.extended_query-lent.ensures.client in
    let usable = subst (λ x. is_broken x ≡ false) (sym lent) c.requires.usable in
    let q = c.args.request.now in
    let x : Gathered (List DataRow) × Bool = (c.in-Ok-request.gathered, c.in-Ok-request.suspended) in
    let call = called_both q _ (c.in-Ok-request.ensures.asks.asked usable) in
    let back : c.client-1.given.0 ≡ c.request.new.self.client.now =
    c.client-1.given.1 (sym (c.request.ensures.same_client ∙ c.extended_query-lent.ensures.same_client)) in
    rw (sym lent, back) (ended_ok q _ _ _ _ x _ (extended_ended q (extended q c.requires.extended) call))

pub returns-in-Err-request-clause-ended : goal.returns-in-Err-request-clause-ended
returns-in-Err-request-clause-ended g c =
    let lent = c.extended_query-lent.ensures.client in
    let usable = subst (λ x. is_broken x ≡ false) (sym lent) c.requires.usable in
    let q = c.args.request.now in
    let call = called_both q _ (c.in-Err-request.ensures.asks.asked usable) in
    let back : c.client-1.given.0 ≡ c.request.new.self.client.now =
    c.client-1.given.1 (sym (c.request.ensures.same_client ∙ c.extended_query-lent.ensures.same_client)) in
    rw (sym lent, back) (
    ended_error q _ _ _ c.in-Err-request.error _ c.is_broken.result c.answered.result (c.is_broken.ensures.broken
    ∙ ap (λ x. is_broken x) back) c.answered.ensures
    (extended_ended q (extended q c.requires.extended) call)
    )

pub returns-in-Err-clause-within : goal.returns-in-Err-clause-within
returns-in-Err-clause-within g c = record { limit = refl; within = λ was. was }

pub returns-in-Ok-request-clause-within : goal.returns-in-Ok-request-clause-within
returns-in-Ok-request-clause-within g c =
    let lent = c.extended_query-lent.ensures.client in
    let back : c.client-1.given.0 ≡ c.request.new.self.client.now =
    c.client-1.given.1 (sym (c.request.ensures.same_client ∙ c.extended_query-lent.ensures.same_client)) in
    rw (sym lent, back) (record {
      limit = c.in-Ok-request.ensures.asks.limit;
      within = λ was. c.in-Ok-request.ensures.asks.within;
    })

pub returns-in-Err-request-clause-within : goal.returns-in-Err-request-clause-within
returns-in-Err-request-clause-within g c =
    let lent = c.extended_query-lent.ensures.client in
    let back : c.client-1.given.0 ≡ c.request.new.self.client.now =
    c.client-1.given.1 (sym (c.request.ensures.same_client ∙ c.extended_query-lent.ensures.same_client)) in
    rw (sym lent, back) (record {
      limit = c.in-Err-request.ensures.asks.limit;
      within = λ was. c.in-Err-request.ensures.asks.within;
    })
