use Rattle.std.proofs.Common.{[], refl}
use Rattle.pgw_session.specs.Input.{input_with}
use Rattle.pgw_client_push.proofs.CallLaws.{begins}
use Rattle.pgw_client_push.proofs.client.PushClient.start.Goals as goal

pub returns-in-Ok-clause-starts : goal.returns-in-Ok-clause-starts
returns-in-Ok-clause-starts c =
    let begun = c.in-Ok.ensures.begun in
    let b =
    begins (input_with c.args.config [] c.args.nonce.now) c.args.limit _ c.begin.new.out.items refl begun.0
    refl refl refl c.new.ensures refl refl in
    (b.0, b.1, (refl, begun.1))
