use Rattle.std.proofs.Common.{subst}
use Rattle.pgw_scram.specs.Messages.{IsServerFirstReading}
use Rattle.pgw_scram.proofs.MessageLaws.{server_first_reads, server_first_only}
use Rattle.pgw_scram.proofs.laws.server_first_has_one_reading.Goals as goal

pub returns : goal.returns
returns c message reading = (
  λ is. subst (IsServerFirstReading message) is (server_first_reads message),
  server_first_only message
      reading,
)
