use Rattle.std.proofs.Common.{Ok, Err, refl, sym, ◌∙◌}
use Rattle.pgw_client_calls.specs.ExtendedSteps.{takes, closes, stops, completes, misplaced}
use Rattle.pgw_client_calls.proofs.ExtendedLaws.{heeded_failed}
use Rattle.pgw_client_calls.proofs.connection.Connection.heed_one.Goals as goal

pub returns-in-Ok-clause-heeded : goal.returns-in-Ok-clause-heeded
returns-in-Ok-clause-heeded g c =
    takes c.in-Taken.field-0 (Ok tt) _ (sym c.place.ensures ∙ c.in-Taken.is) c.in-Ok.ensures.took refl

pub returns-in-Err-clause-heeded : goal.returns-in-Err-clause-heeded
returns-in-Err-clause-heeded g c =
    takes c.in-Taken.field-0 (Err c.in-Err.error) _ (sym c.place.ensures
    ∙ c.in-Taken.is) c.in-Err.ensures.took refl

pub returns-in-Ok-take-clause-heeded : goal.returns-in-Ok-take-clause-heeded
returns-in-Ok-take-clause-heeded g c =
    rw c.is_suspended-suspended.ensures (closes (Ok tt) _ (sym c.place.ensures
    ∙ c.in-Closing.is) c.in-Ok-take.ensures.took refl)

pub returns-in-Err-take-clause-heeded : goal.returns-in-Err-take-clause-heeded
returns-in-Err-take-clause-heeded g c =
    closes (Err c.in-Err-take.error) _ (sym c.place.ensures ∙ c.in-Closing.is) c.in-Err-take.ensures.took refl

pub returns-in-Ok-take-2-clause-heeded : goal.returns-in-Ok-take-2-clause-heeded
returns-in-Ok-take-2-clause-heeded g c =
    completes _ _ c.settle.result _ _ (sym c.place.ensures
    ∙ c.in-Completing.is) c.in-Ok-take-2.ensures.took c.settle.ensures.settled

pub returns-in-Err-take-2-clause-heeded : goal.returns-in-Err-take-2-clause-heeded
returns-in-Err-take-2-clause-heeded g c =
    stops c.in-Err-take-2.error _ (sym c.place.ensures ∙ c.in-Completing.is) c.in-Err-take-2.ensures.took refl

pub returns-in-Failing-clause-heeded : goal.returns-in-Failing-clause-heeded
returns-in-Failing-clause-heeded g c =
    let s = c.settle-in-Failing in
    heeded_failed g.H.ExtendedQueryHandler.means c.args.kind _ _ _ c.args.message _ _ _ _ s.result _
    c.is_due.result c.first_of-error.result (sym c.place.ensures
    ∙ c.in-Failing.is) c.is_due.ensures c.first_of-error.ensures s.ensures.settled

pub returns-in-Misplaced-clause-heeded : goal.returns-in-Misplaced-clause-heeded
returns-in-Misplaced-clause-heeded g c =
    misplaced c.unexpected.result (sym c.place.ensures ∙ c.in-Misplaced.is) c.unexpected.ensures refl refl refl
