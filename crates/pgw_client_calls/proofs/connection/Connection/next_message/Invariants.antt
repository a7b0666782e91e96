use Rattle.std.proofs.Common.{◌≡◌, ◌≤◌, ◌+◌, ◌-◌, length, Result}
use Rattle.pgw_backend.specs.declared.backend.PgWireBackendMessage.{PgWireBackendMessage as Backend}
use Rattle.pgw_backend.specs.declared.client_error.PgWireClientError.{PgWireClientError as ClientError}
use Rattle.pgw_client_calls.specs.Desk.{client_of}
use Rattle.pgw_client_calls.specs.Line.{Line, Foretold, line}
use Rattle.pgw_client_calls.specs.Reading.{MessageCame}
use Rattle.pgw_client_calls.proofs.connection.Connection.next_message.Given as goal

-- what comes from here on comes from the beginning
abbrev pub invariant-reads : goal.invariant-reads
invariant-reads g l = record {
  desk : l.self.desk ≡ l.fn.self.desk;
  limit : l.self.limit ≡ l.fn.self.limit;
  kept : length l.self.inbox + l.fn.self.read ≡ length l.fn.self.inbox + l.self.read;
  foretold : g.L.Link.foretells → Foretold (g.L.Link.left l.fn.self.link) (g.L.Link.left l.self.link)
      (g.L.Link.tape l.fn.self.link) (g.L.Link.tape l.self.link);
  later : g.L.Link.faults l.fn.self.link ≤ g.L.Link.faults l.self.link;
  came : (final : Line) (r : Result Backend ClientError) →
      MessageCame (client_of l.self.desk)
      (line (g.L.Link.tape l.self.link) (g.L.Link.faults l.self.link) l.self.inbox l.self.read l.self.limit)
      final r →
      MessageCame (client_of l.fn.self.desk)
      (line (g.L.Link.tape l.fn.self.link) (g.L.Link.faults l.fn.self.link) l.fn.self.inbox l.fn.self.read
      l.fn.self.limit) final r;
}

abbrev pub decreases-reads : goal.decreases-reads
decreases-reads g l = l.self.limit - l.self.read
