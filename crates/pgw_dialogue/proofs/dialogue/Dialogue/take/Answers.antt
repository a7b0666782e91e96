use Rattle.std.proofs.Common.{◌∙◌, ◌++◌, ◌-◌, List, ℕ, length, inl, inr, refl, sym, ap, subst}
use Rattle.pgw_dialogue.specs.Dialogue.{input_at}
use Rattle.pgw_dialogue.specs.Steps.{TookInbox}
use Rattle.pgw_dialogue.proofs.DialogueLaws.{starved_by, takes, takes_broken, takes_done}
use Rattle.pgw_dialogue.proofs.dialogue.Dialogue.take.Goals as goal

pub returns-in-Done-clause-takes : goal.returns-in-Done-clause-takes
returns-in-Done-clause-takes c = takes_done c.args.self.now c.args.piece.now c.args.out.now.items c.in-Done.is

pub returns-in-Refused-clause-takes : goal.returns-in-Refused-clause-takes
returns-in-Refused-clause-takes c =
    takes_broken c.args.self.now c.args.piece.now c.args.out.now.items c.in-Refused.is

pub returns-clause-takes : goal.returns-clause-takes
returns-clause-takes c =
    let old = c.args.self.now in
    let took =
    subst (λ (b : List ℕ). TookInbox (input_at old) old.notes c.feed-fed.new.notes (old.inbox ++ b)
    c.feed-fed.new.inbox c.args.out.now.items c.feed-fed.new.out.items c.feed-fed.result)
    c.within-bytes.ensures c.feed-fed.ensures.took in
    takes old _ c.args.piece.now c.args.out.now.items c.feed-fed.new.out.items c.feed-fed.result
    c.answer_behind-answer.result c.in-Going.is refl took
    (ap (λ (b : List ℕ). old.room - length b) c.within-bytes.ensures) c.answer_behind-answer.ensures
    c.state_behind-self.ensures

pub returns-in-Refused-clause-starved : goal.returns-in-Refused-clause-starved
returns-in-Refused-clause-starved c = λ is. inl is

pub returns-clause-starved : goal.returns-clause-starved
returns-clause-starved c = λ is. inr (starved_by _ (sym c.state_behind-self.ensures ∙ is))
