use Rattle.pgw_login_tests.proofs.server.support.take_all.Given as goal

abbrev pub invariant-loop-piece : goal.invariant-loop-piece
invariant-loop-piece g l = g.H.StartupHandler.fits l.core.handler l.core.login
