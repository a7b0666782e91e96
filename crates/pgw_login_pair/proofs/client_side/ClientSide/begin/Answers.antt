use Rattle.std.proofs.Common.{refl}
use Rattle.pgw_dialogue.specs.declared.phase.DialoguePhase.TheVariants as phase
use Rattle.pgw_login_pair.proofs.ClientLaws.{begun, begun_going}
use Rattle.pgw_login_pair.proofs.ServerLaws.{not_starved}
use Rattle.pgw_login_pair.proofs.client_side.ClientSide.begin.Goals as goal

pub returns-clause-going : goal.returns-clause-going
returns-clause-going c = begun_going _ _ _ _ c.start-dialogue.ensures.starts

pub returns-clause-begun : goal.returns-clause-begun
returns-clause-begun c = λ input is_config is_nonce. (
  refl,
  begun input (record {
    dialogue = c.start-dialogue.result;
    phase = phase.Waiting;
    taken = 0;
    out = c.start-dialogue.new.out;
  }) _ _ _ _ is_config refl is_nonce c.new-out.ensures.items refl
      c.start-dialogue.ensures.starts (not_starved c.lacks_memory.ensures c.if-lacks_memory.false),
)
