use Rattle.std.proofs.Common.{inr, refl}
use Rattle.pgw_pool.proofs.StartLaws.{wants_first}
use Rattle.pgw_prog_pool.specs.Outcome.{new_dialer}
use Rattle.pgw_prog_pool.proofs.start.start.Goals as goal

pub returns-in-Err-clause-refused : goal.returns-in-Err-clause-refused
returns-in-Err-clause-refused c = (new_dialer c.args.servers.now, inr (refl, wants_first _ _ _ _ _))

pub returns-in-Err-links_to-clause-refused : goal.returns-in-Err-links_to-clause-refused
returns-in-Err-links_to-clause-refused c = (new_dialer c.args.servers.now, inr (refl, wants_first _ _ _ _ _))
