use Rattle.std.proofs.Common.{◌∙◌, arith}
use Rattle.std.proofs.lemmas.List.{nil_from_length}
use Rattle.pgw_client_calls.proofs.ExtendedLaws.{opens_on, opens_until, opens_none}
use Rattle.pgw_client_calls.proofs.gathered.hand_all.Goals as goal

pub loop-message-preserved : goal.loop-message-preserved
loop-message-preserved g c = record {
  opens = λ after r rest.
      c.loop-message.invariant.opens after r
      (opens_on g.H.ExtendedQueryHandler.means c.in-Some.message c.loop-message.message-iterator.rest.items
      c.next.new.self.rest.items _ _ after r c.in-Some.ensures.steps.0 c.in-Ok.ensures.opens rest);
  config = c.hand.ensures.config ∙ c.loop-message.invariant.config;
}

pub returns-in-Err-clause-opens : goal.returns-in-Err-clause-opens
returns-in-Err-clause-opens g c =
    c.loop-message.invariant.opens _ _
    (opens_until g.H.ExtendedQueryHandler.means c.in-Some.message c.loop-message.message-iterator.rest.items
    c.next.new.self.rest.items _ _ _ c.in-Some.ensures.steps.0 c.in-Err.ensures.opens)

pub returns-clause-opens : goal.returns-clause-opens
returns-clause-opens g c =
    let none =
    nil_from_length c.loop-message.message-iterator.rest.items
    (omega (arith, c.loop-message.message-iterator.rest.ok, c.in-None.ensures.steps.0)) in
    c.loop-message.invariant.opens _ _
    (opens_none g.H.ExtendedQueryHandler.means c.loop-message.message-iterator.rest.items _ none)
