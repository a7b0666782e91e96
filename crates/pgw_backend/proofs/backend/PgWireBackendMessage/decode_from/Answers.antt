use Rattle.pgw_backend.proofs.BackendLaws.{is_found, is_only}
use Rattle.pgw_backend.proofs.backend.PgWireBackendMessage.decode_from.Goals as goal

pub returns-clause-found : goal.returns-clause-found
returns-clause-found g c =
    is_found c.args.ctx.now (g.B.Buffer.held c.args.buf.now) (g.B.Buffer.held c.decode_exact.new.buf)
    c.decode_exact.result c.decode_exact.ensures

pub returns-clause-only : goal.returns-clause-only
returns-clause-only g c =
    is_only c.args.ctx.now (g.B.Buffer.held c.args.buf.now) (g.B.Buffer.held c.decode_exact.new.buf)
    c.decode_exact.result c.decode_exact.ensures
