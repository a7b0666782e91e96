use Rattle.pgw_login.proofs.provider.DefaultServerParameterProvider.put_client.Goals as goal

pub returns : goal.returns
returns c = rw (c.in_ok-put_given-2.ensures, c.in_ok-put_given.ensures) at c.put_given-3.ensures
