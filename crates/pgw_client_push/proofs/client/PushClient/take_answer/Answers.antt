use Rattle.std.proofs.Common.{◌∙◌, ap, sym}
use Rattle.pgw_client_push.proofs.CallLaws.{one_popped, popped, still_stands}
use Rattle.pgw_client_push.proofs.client.PushClient.take_answer.Goals as goal

pub returns-clause-is : goal.returns-clause-is
returns-clause-is c = λ answer one.
    one_popped c.into_vec.result.items _ c.pop.result _ c.pop.ensures.items c.into_vec.result.ok.0
    c.pop.ensures.variant answer (c.into_vec.ensures
    ∙ c.replace-kept.ensures.value ∙ one)

pub returns-clause-last : goal.returns-clause-last
returns-clause-last c =
    popped c.args.self.now _ c.pop.result c.requires (sym (c.into_vec.ensures ∙ c.replace-kept.ensures.value)
    ∙ c.pop.ensures.items)

pub returns-clause-stands : goal.returns-clause-stands
returns-clause-stands c =
    λ input limit given put. still_stands c.args.self.now _ input limit given put c.requires
    (ap (λ l. record c.args.self.now { notes = record c.args.self.now.notes { answers = l } })
    (c.replace-kept.ensures.after
    ∙ c.new.ensures))
