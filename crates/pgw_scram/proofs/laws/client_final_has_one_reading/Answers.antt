use Rattle.std.proofs.Common.{subst}
use Rattle.pgw_scram.specs.Messages.{IsClientFinal, IsScramReading}
use Rattle.pgw_scram.proofs.MessageLaws.{client_final_reads, client_final_only}
use Rattle.pgw_scram.proofs.laws.client_final_has_one_reading.Goals as goal

pub returns : goal.returns
returns c message reading = (
  λ is. subst (IsScramReading IsClientFinal message) is (client_final_reads message),
  client_final_only message
      reading,
)
