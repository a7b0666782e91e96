use Rattle.pgw_client_calls.specs.Desk.{client_of, sight_of}
use Rattle.pgw_client_calls.proofs.ExtendedLaws.{sync_well, sync_ill, sync_spared}
use Rattle.pgw_client_calls.proofs.connection.Connection.sync.Goals as goal

pub returns-then-not-due-clause-synced : goal.returns-then-not-due-clause-synced
returns-then-not-due-clause-synced g c =
    sync_spared g.H.ExtendedQueryHandler.means _ _ _ c.args.due _ c.if-not-due.true c.requires.usable

pub returns-in-Ok-clause-synced : goal.returns-in-Ok-clause-synced
returns-in-Ok-clause-synced g c =
    let s = c.sync-synced in
    sync_well g.H.ExtendedQueryHandler.means c.args.handler.now s.new.self (client_of c.args.self.now.desk) _
    (sight_of c.clear.new.self) (sight_of s.new.client) _ _ c.args.due s.result _
    c.if-not-due.false (c.clear.ensures.fresh c.requires.usable) s.ensures.means c.in-Ok.ensures.opens
    c.begin.ensures.client

pub returns-in-Err-clause-synced : goal.returns-in-Err-clause-synced
returns-in-Err-clause-synced g c =
    let s = c.sync-synced in
    sync_ill g.H.ExtendedQueryHandler.means c.args.handler.now s.new.self (client_of c.args.self.now.desk) _
    (sight_of c.clear.new.self) (sight_of s.new.client) _ _ c.args.due s.result c.in-Err.error _
    c.if-not-due.false (c.clear.ensures.fresh c.requires.usable) s.ensures.means s.ensures.leaves.cause.failed
    c.in-Err.ensures.opens c.begin.ensures.client
