use Rattle.std.proofs.Common.{◌∙◌}
use Rattle.pgw_client_calls.specs.ExtendedSteps.{wants}
use Rattle.pgw_client_calls.proofs.ExtendedLaws.{took_well, took_ill}
use Rattle.pgw_client_calls.proofs.gathered.take.Goals as goal

pub returns-in-Ok-heed-clause-took : goal.returns-in-Ok-heed-clause-took
returns-in-Ok-heed-clause-took g c =
    took_well g.H.ExtendedQueryHandler.means _ _ _ _ _ c.args.message _ _ (c.in-Ok-heed.ensures.heeded _)
    c.in-Ok.ensures.told (c.note.ensures.broken
    ∙ c.requires.usable)

pub returns-in-Err-heed-clause-took : goal.returns-in-Err-heed-clause-took
returns-in-Err-heed-clause-took g c =
    took_ill g.H.ExtendedQueryHandler.means _ _ _ _ _ c.args.message _ c.in-Err-heed.error
    (c.in-Err-heed.ensures.heeded _) c.in-Ok.ensures.told

pub returns-in-Err-clause-took : goal.returns-in-Err-clause-took
returns-in-Err-clause-took g c = wants
