use Rattle.pgw_prog_sessions.proofs.CompletionLaws.{rows_counted, stream_completes, stream_reported}
use Rattle.pgw_prog_sessions.proofs.laws.the_stream_completes_a_session.Goals as goal

pub returns : goal.returns
returns c =
    record {
      completes = λ nonce bytes count start small is. stream_completes nonce count start bytes small is;
      rows = stream_reported;
      counted = rows_counted;
    }
