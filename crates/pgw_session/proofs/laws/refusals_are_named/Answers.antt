use Rattle.pgw_session.proofs.FaultLaws.{byte_fault, due_fault, startup_error}
use Rattle.pgw_session.proofs.laws.refusals_are_named.Goals as goal

pub returns : goal.returns
returns c = record { bytes = byte_fault; due = due_fault; startup = startup_error }
