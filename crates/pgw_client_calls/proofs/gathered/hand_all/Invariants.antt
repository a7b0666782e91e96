use Rattle.std.proofs.Common.{◌≡◌, Result}
use Rattle.pgw_backend.specs.declared.client_error.PgWireClientError.{PgWireClientError as ClientError}
use Rattle.pgw_handlers.specs.Handling.{HandlerView, standing}
use Rattle.pgw_client_calls.specs.Desk.{sight_of}
use Rattle.pgw_client_calls.specs.Extended.{calls_for, CallsInOrder}
use Rattle.pgw_client_calls.proofs.gathered.hand_all.Given as goal

-- what the messages left open from here on, all of them open from the beginning
abbrev pub invariant-loop-message : goal.invariant-loop-message
invariant-loop-message g l = record {
  opens : (after : HandlerView _) (r : Result (Unit {0}) ClientError) →
      CallsInOrder g.H.ExtendedQueryHandler.means (calls_for l.message-iterator.rest.items)
      (standing l.handler (sight_of l.desk)) after r →
      CallsInOrder g.H.ExtendedQueryHandler.means (calls_for l.fn.messages.items)
      (standing l.fn.handler (sight_of l.fn.desk)) after r;
  config : l.desk.config ≡ l.fn.desk.config;
}
