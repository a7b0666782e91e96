use Rattle.pgw_frontend.proofs.FrontendWritten.{is_spelled, is_read_again}
use Rattle.pgw_frontend.proofs.frontend.PgWireFrontendMessage.encode.Goals as goal

pub returns-clause-spelled : goal.returns-clause-spelled
returns-clause-spelled c =
    is_spelled c.args.self.now c.args.buf.now.items c.encode_exact.new.buf.items c.encode_exact.result
    c.is_sound.ensures.sound c.encode_exact.ensures

pub returns-clause-read_again : goal.returns-clause-read_again
returns-clause-read_again c =
    is_read_again c.args.self.now c.args.buf.now.items c.encode_exact.new.buf.items c.encode_exact.result
    c.is_sound.ensures.sound c.encode_exact.ensures
