use Rattle.pgw_session.specs.Input.{input_with}
use Rattle.pgw_tokio.proofs.FutureLaws.{about_by}
use Rattle.pgw_tokio.proofs.holding.session.Goals as goal

pub returns-clause-begins : goal.returns-clause-begins
returns-clause-begins g c =
    let s = c.start-engine in
    about_by (input_with c.args.config.now c.args.requests.now c.args.nonce.now) c.args.limit c.args.stream
    s.result.0
    s.result.1 s.new.out.items c.new.result.state c.new.ensures s.ensures.begins
