use Rattle.pgw_client_push.proofs.CallLaws.{holds, still_waits, tells}
use Rattle.pgw_client_push.proofs.laws.clients_hold_sessions.Goals as goal

pub returns-clause-idle : goal.returns-clause-idle
returns-clause-idle c = λ input limit client given put. holds input limit client given put

pub returns-clause-waits : goal.returns-clause-waits
returns-clause-waits c = λ input limit client given put. still_waits input limit client given put

pub returns-clause-told : goal.returns-clause-told
returns-clause-told c = λ input limit client given put. tells input limit client given put
