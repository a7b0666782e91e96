use Rattle.pgw_backend.proofs.BackendLaws.{is_found, is_only}
use Rattle.pgw_backend.proofs.backend.PgWireBackendMessage.decode.Goals as goal

pub returns-clause-found : goal.returns-clause-found
returns-clause-found c =
    is_found c.args.ctx.now c.args.buf.now.items c.decode_exact.new.buf.items c.decode_exact.result
    c.decode_exact.ensures

pub returns-clause-only : goal.returns-clause-only
returns-clause-only c =
    is_only c.args.ctx.now c.args.buf.now.items c.decode_exact.new.buf.items c.decode_exact.result
    c.decode_exact.ensures
