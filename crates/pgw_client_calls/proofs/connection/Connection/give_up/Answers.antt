use Rattle.pgw_client_calls.proofs.CallLaws.{gave_up, gave_back, passing}
use Rattle.pgw_client_calls.proofs.connection.Connection.give_up.Goals as goal

pub returns-then-not-goes_on_if-clause-gives_up : goal.returns-then-not-goes_on_if-clause-gives_up
returns-then-not-goes_on_if-clause-gives_up g c =
    gave_up _ _ c.goes_on_if.result _ _ c.args.error c.goes_on_if.ensures c.if-not-goes_on_if.true

pub returns-then-closing-clause-gives_up : goal.returns-then-closing-clause-gives_up
returns-then-closing-clause-gives_up g c =
    gave_back _ _ c.goes_on_if.result _ _ _ c.args.error c.goes_on_if.ensures c.if-not-goes_on_if.false
    c.if-closing.true c.requires.usable

pub returns-clause-gives_up : goal.returns-clause-gives_up
returns-clause-gives_up g c =
    passing _ _ c.goes_on_if.result _ _ _ _ _ c.args.error c.pass_over.result c.goes_on_if.ensures
    c.if-not-goes_on_if.false c.if-closing.false c.pass_over.ensures.passed
