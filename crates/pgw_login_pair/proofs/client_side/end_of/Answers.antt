use Rattle.std.proofs.Common.{Ok, ap, ◌∙◌, subst}
use Rattle.pgw_dialogue.specs.Dialogue.{IsBehind}
use Rattle.pgw_login_pair.specs.declared.parties.ClientEnd.TheVariants as of_client
use Rattle.pgw_login_pair.specs.Sides.{PartyStands}
use Rattle.pgw_login_pair.proofs.ClientLaws.{ended_between, ended_done, ended_waiting}
use Rattle.pgw_login_pair.proofs.client_side.end_of.Goals as goal

pub report-requires : goal.report-requires
report-requires c = subst (λ p. IsBehind c.args.dialogue (Ok p)) c.in-Done.is c.requires

pub returns-in-Waiting : goal.returns-in-Waiting
returns-in-Waiting c =
    λ input taken put kept. ended_waiting input taken put c.args.dialogue
    (subst (λ p. PartyStands input (Ok c.args.dialogue) p taken put) c.in-Waiting.is kept)

pub returns-in-Ready : goal.returns-in-Ready
returns-in-Ready c =
    λ input taken put kept. ended_between input taken put c.args.dialogue
    (subst (λ p. PartyStands input (Ok c.args.dialogue) p taken put) c.in-Ready.is kept)

pub returns-in-Done : goal.returns-in-Done
returns-in-Done c = λ input taken put kept.
    ap of_client.Ready c.information_in.ensures
    ∙ ended_done input taken put c.args.dialogue c.report.result
    (subst (λ p. IsBehind c.args.dialogue (Ok p)) c.in-Done.is c.requires)
    (subst (λ p. PartyStands input (Ok c.args.dialogue) p taken put) c.in-Done.is kept)
    c.report.ensures.reported
