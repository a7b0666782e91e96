use Rattle.std.proofs.Common.{ap}
use Rattle.pgw_login_server.specs.Stands.{stage_of}
use Rattle.pgw_login_server.proofs.ServerLaws.{comes_more, comes_bad, goes_on, comes_asked, comes_refused}
use Rattle.pgw_login_server.proofs.connection.ServerCore.advance.Goals as goal

pub returns-in-Ok-None-clause-advanced : goal.returns-in-Ok-None-clause-advanced
returns-in-Ok-None-clause-advanced g c =
    let d = rw (c.in-Ok-None.field-0-is, c.bound-bound.ensures) at c.in-Ok-None.ensures in
    comes_more (g.H.StartupHandler.means c.args.self.now.handler) (stage_of c.args.self.now)
    c.args.self.now.inbox.items c.next_message.new.inbox.items c.args.out.now.buffer.items c.phase.result d.0
    d.1 c.phase.ensures

pub returns-in-Ok-None-step-clause-advanced : goal.returns-in-Ok-None-step-clause-advanced
returns-in-Ok-None-step-clause-advanced g c =
    let found = rw (c.in-Ok-Some.field-0-is, c.bound-bound.ensures) at c.in-Ok-Some.ensures in
    let step = rw c.in-Ok-None-step.field-0-is at c.in-Ok-None-step.ensures.stepped in
    goes_on (g.H.StartupHandler.means c.args.self.now.handler) (stage_of c.args.self.now)
    (stage_of c.step.new.self) c.args.self.now.inbox.items c.next_message.new.inbox.items
    c.step.new.self.inbox.items c.args.out.now.buffer.items c.step.new.out.buffer.items
    c.in-Ok-Some.message (ap (λ b. b.items) c.step.ensures.kept.2) found step

pub returns-in-Ok-Some-step-clause-advanced : goal.returns-in-Ok-Some-step-clause-advanced
returns-in-Ok-Some-step-clause-advanced g c =
    let found = rw (c.in-Ok-Some.field-0-is, c.bound-bound.ensures) at c.in-Ok-Some.ensures in
    let step = rw c.in-Ok-Some-step.field-0-is at c.in-Ok-Some-step.ensures.stepped in
    comes_asked (g.H.StartupHandler.means c.args.self.now.handler) (stage_of c.args.self.now)
    (stage_of c.step.new.self) c.args.self.now.inbox.items c.next_message.new.inbox.items
    c.step.new.self.inbox.items c.args.out.now.buffer.items c.step.new.out.buffer.items
    c.in-Ok-Some.message c.in-Ok-Some-step.request found step

pub returns-in-Err-step-clause-advanced : goal.returns-in-Err-step-clause-advanced
returns-in-Err-step-clause-advanced g c =
    let found = rw (c.in-Ok-Some.field-0-is, c.bound-bound.ensures) at c.in-Ok-Some.ensures in
    comes_refused (g.H.StartupHandler.means c.args.self.now.handler) (stage_of c.args.self.now)
    (stage_of c.step.new.self) c.args.self.now.inbox.items c.next_message.new.inbox.items
    c.step.new.self.inbox.items c.args.out.now.buffer.items c.step.new.out.buffer.items
    c.in-Ok-Some.message c.in-Err-step.e found c.in-Err-step.ensures.stepped

pub returns-in-Err-clause-advanced : goal.returns-in-Err-clause-advanced
returns-in-Err-clause-advanced g c =
    comes_bad (g.H.StartupHandler.means c.args.self.now.handler) (stage_of c.args.self.now)
    c.args.self.now.inbox.items c.next_message.new.inbox.items c.args.out.now.buffer.items c.in-Err.e
    (rw c.bound-bound.ensures at c.in-Err.ensures.1)
