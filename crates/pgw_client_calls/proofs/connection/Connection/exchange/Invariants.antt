use Rattle.std.proofs.Common.{◌≡◌, ◌≤◌, ◌+◌, ◌-◌, length, false, ℕ, List, Option}
use Rattle.pgw_link.specs.Tape.{Tape}
use Rattle.pgw_client_calls.specs.Desk.{client_of}
use Rattle.pgw_client_calls.specs.Line.{Line, Foretold, line}
use Rattle.pgw_client_calls.specs.Extended.{none_gathered, as_lists, Finish}
use Rattle.pgw_client_calls.specs.ExtendedSteps.{LineExchange}
use Rattle.pgw_client_calls.proofs.connection.Connection.exchange.Given as goal

-- what is exchanged from here on is exchanged from the beginning
abbrev pub invariant-messages : goal.invariant-messages
invariant-messages g l = record {
  usable : l.self.desk.broken ≡ false;
  limit : l.self.limit ≡ l.fn.self.limit;
  config : l.self.desk.config ≡ l.fn.self.desk.config;
  foretold : g.L.Link.foretells → (is : Option (List ℕ)) (now : Tape)
      → Foretold (g.L.Link.left l.self.link) is (g.L.Link.tape l.self.link) now →
      Foretold (g.L.Link.left l.fn.self.link) is (g.L.Link.tape l.fn.self.link) now;
  later : g.L.Link.faults l.fn.self.link ≤ g.L.Link.faults l.self.link;
  exchanged : (final : Line) (last : Finish _ _) →
      LineExchange g.H.ExtendedQueryHandler.means l.fn.kind l.handler (client_of l.self.desk)
      (as_lists g.H.Responses.ResponseList.listed l.gathered)
      (line (g.L.Link.tape l.self.link) (g.L.Link.faults l.self.link) l.self.inbox l.self.read
      l.self.limit) final last →
      LineExchange g.H.ExtendedQueryHandler.means l.fn.kind l.fn.handler (client_of l.fn.self.desk) none_gathered
      (line (g.L.Link.tape l.fn.self.link) (g.L.Link.faults l.fn.self.link) l.fn.self.inbox l.fn.self.read
      l.fn.self.limit) final last;
}

abbrev pub decreases-messages : goal.decreases-messages
decreases-messages g l = (l.self.limit - l.self.read) + length l.self.inbox
