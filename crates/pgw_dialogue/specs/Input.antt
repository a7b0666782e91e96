-- What goes into a session, as code has it.
use Rattle.pgw_session.specs.Input.{Input}
use Rattle.pgw_dialogue.specs.declared.input.Input.{Input as Given}

abbrev pub input_of : Given → Input
input_of given =
    record {
      config = (given.config).now;
      requests = (given.requests).now;
      nonce =
          (given.nonce).now;
    }
