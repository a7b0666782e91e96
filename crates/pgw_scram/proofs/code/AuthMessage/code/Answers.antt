use Rattle.pgw_scram.proofs.code.AuthMessage.code.Goals as goal

pub returns : goal.returns
returns c =
    let key = c.args.key.now in
    c.finalize.ensures key _
    (c.update-5.ensures key _
    (c.update-4.ensures key _
    (c.update-3.ensures key _
    (c.update-2.ensures key _ (c.update.ensures key _ c.new-code.ensures)))))
