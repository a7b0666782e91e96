use Rattle.std.proofs.Common.{false}
use Rattle.pgw_secrets.proofs.Rests.{colon_found, no_colon}
use Rattle.pgw_secrets.proofs.password_line.colon_in.Goals as goal

pub returns-then-text-at-eq58-clause-place : goal.returns-then-text-at-eq58-clause-place
returns-then-text-at-eq58-clause-place c =
    colon_found c.args.text.now c.in-Some.at c.in-Some.ensures.0 c.in-Some.ensures.1 c.in-Some.ensures.2
    c.if-text-at-eq58.true

pub returns-in-None-clause-place : goal.returns-in-None-clause-place
returns-in-None-clause-place c = no_colon c.args.text.now false 0 c.in-None.ensures.0
