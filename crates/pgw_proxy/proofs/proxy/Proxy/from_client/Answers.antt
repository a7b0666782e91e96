use Rattle.std.proofs.Common.{refl, Err}
use Rattle.pgw_proxy.specs.declared.fault.ProxyFault.TheVariants as fault
use Rattle.pgw_proxy.specs.declared.proxy.Proxy.{Proxy}
use Rattle.pgw_proxy.proofs.StandsLaws.{client_forwards, client_stands, client_still}
use Rattle.pgw_proxy.proofs.proxy.Proxy.from_client.Goals as goal

pub returns-then-self-clause-stands : goal.returns-then-self-clause-stands
returns-then-self-clause-stands c events sent got recorded stands =
    client_still c.args.self.now c.args.piece.now c.args.to_server.now.items c.args.tape.now.items
    (Err fault.Stopped) events sent got recorded c.if-self.true stands

pub returns-clause-stands : goal.returns-clause-stands
returns-clause-stands c events sent got recorded stands =
    let new : Proxy =
    record {
      context = c.take_piece-answer.new.context;
      client = c.take_piece-answer.new.waiting;
      server =
          c.args.self.now.server;
      over = c.is_err-self.result;
    } in
    let on =
    client_forwards c.args.self.now new c.args.piece.now c.args.to_server.now.items
    c.take_piece-answer.new.out.items c.args.tape.now.items c.take_piece-answer.new.tape.items
    c.take_piece-answer.result c.is_err-self.ensures.value refl c.take_piece-answer.ensures in
    client_stands c.args.self.now new c.args.piece.now c.args.to_server.now.items
    c.take_piece-answer.new.out.items c.args.tape.now.items c.take_piece-answer.new.tape.items
    c.take_piece-answer.result events sent got recorded c.if-self.false on stands
