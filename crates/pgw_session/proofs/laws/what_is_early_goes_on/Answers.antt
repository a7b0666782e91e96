use Rattle.pgw_session.proofs.EarlyLaws.{part_of_early, turn_of_begun}
use Rattle.pgw_session.proofs.laws.what_is_early_goes_on.Goals as goal

pub returns : goal.returns
returns c = record {
  part = λ input es can early. part_of_early input es can early;
  turn = λ input es can b. turn_of_begun input es can b;
}
