use Rattle.std.proofs.Common.{refl}
use Rattle.pgw_handlers.specs.Extended as call
use Rattle.pgw_client_calls.proofs.ExtendedLaws.{opens_call, opens_nothing}
use Rattle.pgw_client_calls.proofs.gathered.hand.Goals as goal

pub returns-in-Parse-clause-opens : goal.returns-in-Parse-clause-opens
returns-in-Parse-clause-opens g c =
    rw c.in-Parse.is (opens_call g.H.ExtendedQueryHandler.means (call.parse c.in-Parse.m) _ _ c.parse.result
    c.parse.ensures.means)

pub returns-in-Bind-clause-opens : goal.returns-in-Bind-clause-opens
returns-in-Bind-clause-opens g c =
    rw c.in-Bind.is (opens_call g.H.ExtendedQueryHandler.means (call.bind c.in-Bind.m) _ _ c.bind.result
    c.bind.ensures.means)

pub returns-in-Execute-clause-opens : goal.returns-in-Execute-clause-opens
returns-in-Execute-clause-opens g c =
    rw c.in-Execute.is (opens_call g.H.ExtendedQueryHandler.means (call.execute c.in-Execute.m) _ _ c.execute.result
    c.execute.ensures.means)

pub returns-in-Describe-clause-opens : goal.returns-in-Describe-clause-opens
returns-in-Describe-clause-opens g c =
    rw c.in-Describe.is (opens_call g.H.ExtendedQueryHandler.means (call.describe c.in-Describe.m) _ _
    c.describe.result c.describe.ensures.means)

pub returns-in-Close-clause-opens : goal.returns-in-Close-clause-opens
returns-in-Close-clause-opens g c =
    rw c.in-Close.is (opens_call g.H.ExtendedQueryHandler.means (call.close c.in-Close.m) _ _ c.close.result
    c.close.ensures.means)

pub returns-in-Sync-clause-opens : goal.returns-in-Sync-clause-opens
returns-in-Sync-clause-opens g c =
    rw c.in-Sync.is (opens_call g.H.ExtendedQueryHandler.means call.sync _ _ c.sync.result c.sync.ensures.means)

pub returns-in-Flush-clause-opens : goal.returns-in-Flush-clause-opens
returns-in-Flush-clause-opens g c =
    rw c.in-Flush.is (opens_call g.H.ExtendedQueryHandler.means call.flush _ _ c.flush.result c.flush.ensures.means)

pub returns-in_default : goal.returns-in_default
returns-in_default g c = record {
  opens =
      opens_nothing g.H.ExtendedQueryHandler.means c.args.message _ c.in_default.not-Parse c.in_default.not-Bind
      c.in_default.not-Execute c.in_default.not-Describe c.in_default.not-Close c.in_default.not-Sync
      c.in_default.not-Flush;
  config = refl;
  cause = tt;
}
