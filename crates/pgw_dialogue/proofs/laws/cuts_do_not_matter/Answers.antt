use Rattle.std.proofs.Common.{◌∙◌, sym}
use Rattle.pgw_dialogue.proofs.ToldLaws.{sent_is}
use Rattle.pgw_dialogue.proofs.laws.cuts_do_not_matter.Goals as goal

pub returns : goal.returns
returns c input limit one other given put too first second kept sound =
    sym (sent_is input limit one given put first kept) ∙ sent_is input limit other given too second sound
