use Rattle.pgw_startup.proofs.sasl.SASLInitialResponseMessage.refusal.Goals as goal

pub returns : goal.returns
returns c = cc
