use Rattle.std.proofs.Common.{◌∙◌, sym}
use Rattle.pgw_client_calls.specs.Desk.{sight_of}
use Rattle.pgw_client_calls.proofs.CallLaws.{send_cut, spelled_so}
use Rattle.pgw_client_calls.proofs.connection.Connection.send.Goals as goal

pub returns-in-Ok-clause-failed : goal.returns-in-Ok-clause-failed
returns-in-Ok-clause-failed g c =
    let w = c.write_out.ensures in
    let sent = c.in-Ok.ensures.sent in
    send_cut _ (sight_of c.clear.new.self) (sight_of c.send.new.self) _ _ _ _ _ _ c.write_out.result
    c.clear.ensures.out sent (sym c.clear.ensures.broken
    ∙ sent.usable) (w.client ∙ c.in-Ok.ensures.client ∙ c.clear.ensures.client) w.failed w.io w.broken

pub returns-in-Ok-clause-spelled : goal.returns-in-Ok-clause-spelled
returns-in-Ok-clause-spelled g c = spelled_so _ c.write_out.result c.in-Ok.ensures.spelled c.write_out.ensures.io
