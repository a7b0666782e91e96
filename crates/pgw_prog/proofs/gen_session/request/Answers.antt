use Rattle.pgw_prog.proofs.gen_session.request.Goals as goal

pub returns : goal.returns
returns c = c.simple.ensures
