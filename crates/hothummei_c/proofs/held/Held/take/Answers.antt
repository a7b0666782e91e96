use Rattle.std.proofs.Common.{◌∙◌, ◌++◌, ◌-◌, List, ℕ, length, take, refl, ap, subst}
use Rattle.pgw_dialogue.specs.Steps.{TookInbox}
use Rattle.pgw_dialogue.proofs.DialogueLaws.{takes, takes_broken, takes_done}
use Rattle.pgw_session.specs.declared.types.Request.{Request}
use Rattle.pgw_session.specs.Input.{input_with}
use Rattle.hothummei_c.specs.declared.held.Held.{Held}
use Rattle.hothummei_c.specs.Held.{dialogue_of, handle_state}
use Rattle.hothummei_c.proofs.HeldLaws.{broken_of, is_behind_answer, same_state}
use Rattle.hothummei_c.proofs.held.Held.take.Goals as goal

pub returns-in-Done-clause-takes : goal.returns-in-Done-clause-takes
returns-in-Done-clause-takes c =
    takes_done (dialogue_of c.args.self.now) c.args.piece.now c.args.out.now.items (ap handle_state c.in-Done.is)

pub returns-in-Refused-clause-takes : goal.returns-in-Refused-clause-takes
returns-in-Refused-clause-takes c =
    takes_broken (dialogue_of c.args.self.now) c.args.piece.now c.args.out.now.items
    (broken_of c.args.self.now.state c.in-Refused.is)

pub returns-clause-takes : goal.returns-clause-takes
returns-clause-takes c =
    let old = c.args.self.now in
    let part =
    subst (λ (b : List ℕ). TookInbox (input_with old.config c.as_slice.result.now old.nonce) old.notes
    c.feed-fed.new.notes (old.inbox ++ b) c.feed-fed.new.inbox c.args.out.now.items
    c.feed-fed.new.out.items c.feed-fed.result) c.within-bytes.ensures c.feed-fed.ensures.took in
    let took =
    subst (λ (rs : List Request). TookInbox (input_with old.config rs old.nonce) old.notes
    c.feed-fed.new.notes (old.inbox ++ take old.room c.args.piece.now) c.feed-fed.new.inbox
    c.args.out.now.items c.feed-fed.new.out.items c.feed-fed.result) c.as_slice.ensures part in
    takes (dialogue_of old) _ c.args.piece.now c.args.out.now.items c.feed-fed.new.out.items c.feed-fed.result
    c.answer_behind-answer.result (ap handle_state c.in-Going.is) refl took
    (ap (λ (b : List ℕ). old.room - length b) c.within-bytes.ensures) c.answer_behind-answer.ensures
    (ap handle_state c.state_behind-self.ensures
    ∙ same_state c.answer_behind-answer.result)

pub returns-in-Done-clause-after : goal.returns-in-Done-clause-after
returns-in-Done-clause-after c = ap handle_state c.in-Done.is

pub returns-in-Refused-clause-after : goal.returns-in-Refused-clause-after
returns-in-Refused-clause-after c = broken_of c.args.self.now.state c.in-Refused.is

pub returns-clause-after : goal.returns-clause-after
returns-clause-after c =
    let old = c.args.self.now in
    let new : Held =
    record old {
      notes = c.feed-fed.new.notes;
      inbox = c.feed-fed.new.inbox;
      room = old.room - length
          c.within-bytes.result.now;
      state = c.state_behind-self.result;
    } in
    is_behind_answer (dialogue_of new) c.feed-fed.result c.answer_behind-answer.result
    (ap handle_state c.state_behind-self.ensures
    ∙ same_state c.answer_behind-answer.result) c.answer_behind-answer.ensures
