use Rattle.std.proofs.Common.{◌≡◌, ◌≤◌, ◌+◌, ◌-◌, length, false, ℕ, List, Option}
use Rattle.pgw_link.specs.Tape.{Tape}
use Rattle.pgw_client_calls.specs.Talk.{CallEnd}
use Rattle.pgw_client_calls.specs.Desk.{client_of}
use Rattle.pgw_client_calls.specs.Line.{Line, Foretold}
use Rattle.pgw_client_calls.specs.Connection.{line_in}
use Rattle.pgw_client_calls.specs.Calls.{TalksToCallEnd}
use Rattle.pgw_client_calls.proofs.connection.Connection.talk.Given as goal

-- what is said from here on is said from the beginning
abbrev pub invariant-messages : goal.invariant-messages
invariant-messages g l =
    let was = l.fn.self in
    let is = l.self in
    record {
      usable : is.desk.broken ≡ false;
      limit : is.limit ≡ was.limit;
      config : is.desk.config ≡ was.desk.config;
      foretold : g.L.Link.foretells → (left : Option (List ℕ)) (now : Tape) →
          Foretold (g.L.Link.left is.link) left (g.L.Link.tape is.link) now →
          Foretold (g.L.Link.left was.link) left (g.L.Link.tape was.link) now;
      later : g.L.Link.faults was.link ≤ g.L.Link.faults is.link;
      talked : (final : Line) (last : CallEnd _) →
          TalksToCallEnd g.R.Hearer.hears g.R.Hearer.goes_on l.hearer (client_of is.desk)
          (line_in g.L.Link.tape g.L.Link.faults is) final last →
          TalksToCallEnd g.R.Hearer.hears g.R.Hearer.goes_on l.fn.hearer (client_of was.desk)
          (line_in g.L.Link.tape g.L.Link.faults was) final last;
    }

abbrev pub decreases-messages : goal.decreases-messages
decreases-messages g l = (l.self.limit - l.self.read) + length l.self.inbox
