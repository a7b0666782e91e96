use Rattle.std.proofs.Common.{◌≡◌, ◌⊎◌, ◌≤◌, ◌+◌, ◌-◌, length, true, false, Bool}
use Rattle.pgw_backend.specs.declared.client_error.PgWireClientError.{PgWireClientError as ClientError}
use Rattle.pgw_handlers.specs.Client.{Client}
use Rattle.pgw_handlers.specs.Handling.{IsCaused}
use Rattle.pgw_client_calls.specs.Talk.{passes, is_remote}
use Rattle.pgw_client_calls.specs.Desk.{client_of}
use Rattle.pgw_client_calls.specs.Line.{Line, Foretold, line}
use Rattle.pgw_client_calls.specs.Reading.{PassedOver}
use Rattle.pgw_client_calls.proofs.connection.Connection.pass_over.Given as goal

-- what is passed over from here on is passed over from the beginning
abbrev pub invariant-messages : goal.invariant-messages
invariant-messages g l = record {
  usable : l.self.desk.broken ≡ false;
  limit : l.self.limit ≡ l.fn.self.limit;
  config : l.self.desk.config ≡ l.fn.self.desk.config;
  own : IsCaused l.error 0 0 false;
  same : (l.error ≡ l.fn.error) ⊎ (passes l.error ≡ true);
  remote : (l.error ≡ l.fn.error) ⊎ (is_remote l.error ≡ true);
  foretold : g.L.Link.foretells → Foretold (g.L.Link.left l.fn.self.link) (g.L.Link.left l.self.link)
      (g.L.Link.tape l.fn.self.link) (g.L.Link.tape l.self.link);
  later : g.L.Link.faults l.fn.self.link ≤ g.L.Link.faults l.self.link;
  passed : (final : Line) (x : ClientError) (last : Client) (broken : Bool) →
      PassedOver l.error (client_of l.self.desk)
      (line (g.L.Link.tape l.self.link) (g.L.Link.faults l.self.link) l.self.inbox l.self.read l.self.limit)
      final x last broken →
      PassedOver l.fn.error (client_of l.fn.self.desk)
      (line (g.L.Link.tape l.fn.self.link) (g.L.Link.faults l.fn.self.link) l.fn.self.inbox l.fn.self.read
      l.fn.self.limit) final x last broken;
}

abbrev pub decreases-messages : goal.decreases-messages
decreases-messages g l = (l.self.limit - l.self.read) + length l.self.inbox
