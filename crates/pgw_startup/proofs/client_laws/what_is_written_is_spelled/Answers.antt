use Rattle.pgw_startup.proofs.FirstWritten.{startup_spelled, password_written, initial_written, response_written}
use Rattle.pgw_startup.proofs.client_laws.what_is_written_is_spelled.Goals as goal

pub returns : goal.returns
returns c =
    record {
      startup = startup_spelled;
      password = password_written;
      initial_response = initial_written;
      response
          = response_written;
    }
