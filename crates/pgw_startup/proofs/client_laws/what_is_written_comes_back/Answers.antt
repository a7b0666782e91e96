use Rattle.pgw_startup.proofs.ClientLaws.{password, initial_response, response}
use Rattle.pgw_startup.proofs.FirstLaws.{startup_again}
use Rattle.pgw_startup.proofs.FirstWritten.{startup_spelled, password_written, initial_written, response_written}
use Rattle.pgw_startup.proofs.client_laws.what_is_written_comes_back.Goals as goal

pub returns : goal.returns
returns c = record {
  startup = λ ctx m g rest sound is. startup_again ctx m g rest (startup_spelled m g sound is);
  password = λ m g rest sound is. password.only m g rest (password_written m g sound is);
  initial_response = λ m g rest sound is. initial_response.only m g rest (initial_written m g sound is);
  response = λ m g rest is. response.only m g rest (response_written m g is);
}
