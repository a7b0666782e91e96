use Rattle.pgw_login_server.proofs.connection.ServerCore.serve.Goals as goal

pub returns-clause-comes : goal.returns-clause-comes
returns-clause-comes g c = rw c.replace-buffer.ensures.value at c.take_all-answer.ensures.comes
