use Rattle.std.proofs.Common.{refl, sym, ◌∙◌}
use Rattle.pgw_client_calls.proofs.FrameLaws.{more_waits}
use Rattle.pgw_client_calls.proofs.ReadingLaws.{polled_empty}
use Rattle.pgw_client_calls.proofs.connection.Connection.poll_next.Goals as goal

pub returns-then-len-eq0-clause-polled : goal.returns-then-len-eq0-clause-polled
returns-then-len-eq0-clause-polled g c =
    λ usable. (
      polled_empty c.args.self.now.desk.protocol_version c.args.self.now.inbox (sym c.len.ensures
          ∙ c.if-len-eq0.true),
      refl,
      usable,
    )

pub returns-then-len-eq0-clause-awaits : goal.returns-then-len-eq0-clause-awaits
returns-then-len-eq0-clause-awaits g c =
    λ usable pending. more_waits c.args.self.now.desk.protocol_version c.args.self.now.inbox
    (polled_empty c.args.self.now.desk.protocol_version c.args.self.now.inbox (sym c.len.ensures
    ∙ c.if-len-eq0.true))

pub returns-in-Ok-None-clause-awaits : goal.returns-in-Ok-None-clause-awaits
returns-in-Ok-None-clause-awaits g c = λ usable pending.
    let d = rw c.in-Ok-None.field-0-is at c.in-Ok-None.ensures.decoded in
    more_waits c.args.self.now.desk.protocol_version c.args.self.now.inbox d.1
