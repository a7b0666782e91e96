use Rattle.std.proofs.Common.{◌≡◌, ◌++◌, fold}
use Rattle.pgw_login.proofs.acts.feed_all.Given as goal

abbrev pub invariant-loop-message : goal.invariant-loop-message
invariant-loop-message g l = record {
  told : g.O.Outbox.sent l.out ≡ fold g.O.Outbox.add (g.O.Outbox.sent l.fn.out) l.yielded;
  calm : g.O.Outbox.faults l.out ≡ g.O.Outbox.faults l.fn.out;
  all : l.fn.messages.items ≡ l.yielded ++ l.message-iterator.rest.items;
}
