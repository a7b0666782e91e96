use Rattle.example_dialogue.proofs.AskLaws.{asked_of}
use Rattle.example_dialogue.proofs.ask.ask.Goals as goal

pub returns-clause-asked : goal.returns-clause-asked
returns-clause-asked g c =
    let link = g.L.Link in
    asked_of c.run_session.result (link.tape c.args.link.now) (link.tape c.run_session.new.link) c.args.text.now
    c.args.sql.now c.args.nonce.now
    c.in_ok-config.config c.parse.result c.in_ok-simple.field-0 c.in_ok-config.was c.parse.ensures.parsed
    c.in_ok-simple.ensures c.run_session.ensures.session.completed
