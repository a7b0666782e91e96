use Rattle.std.proofs.Common.{Err, sym, subst}
use Rattle.pgw_frontend.specs.Frontend.{encoding}
use Rattle.pgw_dialogue.specs.Wire.{PutOut}
use Rattle.pgw_dialogue.proofs.WireLaws.{appended}
use Rattle.pgw_client_calls.proofs.DeskLaws.{put_refused}
use Rattle.pgw_client_calls.proofs.desk.put.Goals as goal

pub returns-in-Ok : goal.returns-in-Ok
returns-in-Ok c =
    appended (encoding c.args.message.now) c.args.out.now.items c.encode.new.buf.items c.in-Ok.ensures.exact

pub returns-in-Err : goal.returns-in-Err
returns-in-Err c =
    subst (λ x. PutOut (encoding c.args.message.now) c.args.out.now.items c.encode.new.buf.items (Err x))
    (sym c.from.ensures)
    (put_refused (encoding c.args.message.now) c.args.out.now.items c.encode.new.buf.items c.in-Err.e
    c.in-Err.ensures.exact)
