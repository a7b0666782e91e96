use Rattle.pgw_startup.proofs.authentication.AuthenticationMessage.refusal.Goals as goal

pub returns-in-MD5Password : goal.returns-in-MD5Password
returns-in-MD5Password c = rw (c.in-MD5Password.is, ← c.len.ensures.value) c.refused_if.ensures
