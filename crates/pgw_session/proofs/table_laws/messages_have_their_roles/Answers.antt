use Rattle.pgw_session.proofs.FlowLaws.{closing_as_ends, completing_as_completes, failing_as_errors, taken_as_described}
use Rattle.pgw_session.proofs.table_laws.messages_have_their_roles.Goals as goal

pub returns : goal.returns
returns c =
    record {
      closing = closing_as_ends;
      completing = completing_as_completes;
      failing = failing_as_errors;
      taken =
          taken_as_described;
    }
