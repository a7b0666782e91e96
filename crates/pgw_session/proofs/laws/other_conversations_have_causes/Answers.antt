use Rattle.pgw_session.proofs.FailureLaws.{ended_misplaced, ended_unread, ended_refused, unencoded, waits_at, unfinished}
use Rattle.pgw_session.proofs.laws.other_conversations_have_causes.Goals as goal

pub returns : goal.returns
returns c = record {
  unexpected = λ input taken sent ending m is why. ended_misplaced input ⊥ taken sent ending m is why;
  unread = ended_unread;
  refused = ended_refused;
  unencoded = unencoded;
  waits =
      λ input taken sent pending t is.
      (waits_at input taken sent pending t is, unfinished input taken sent pending t is);
}
