use Rattle.std.proofs.Common.{subst}
use Rattle.pgw_scram.specs.Messages.{IsClientFirst, IsScramReading}
use Rattle.pgw_scram.proofs.MessageLaws.{client_first_reads, client_first_only}
use Rattle.pgw_scram.proofs.laws.client_first_has_one_reading.Goals as goal

pub returns : goal.returns
returns c message reading = (
  λ is. subst (IsScramReading IsClientFirst message) is (client_first_reads message),
  client_first_only message
      reading,
)
