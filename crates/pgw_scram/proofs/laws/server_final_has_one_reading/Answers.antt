use Rattle.std.proofs.Common.{subst}
use Rattle.pgw_scram.specs.Messages.{IsServerFinal, IsScramReading}
use Rattle.pgw_scram.proofs.MessageLaws.{server_final_reads, server_final_only}
use Rattle.pgw_scram.proofs.laws.server_final_has_one_reading.Goals as goal

pub returns : goal.returns
returns c message reading = (
  λ is. subst (IsScramReading IsServerFinal message) is (server_final_reads message),
  server_final_only message
      reading,
)
