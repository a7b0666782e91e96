use Rattle.pgw_config.proofs.ParseLaws.{parsed, only, given}
use Rattle.pgw_config.proofs.config.Config.parse.Goals as goal

pub returns-clause-parsed : goal.returns-clause-parsed
returns-clause-parsed c =
    parsed c.args.text.now c.in_ok-cut.cut c.apply.result c.in_ok-cut.ensures.cut c.apply.ensures

pub returns-clause-only : goal.returns-clause-only
returns-clause-only c =
    only c.args.text.now c.in_ok-cut.cut c.apply.result c.in_ok-cut.ensures.only c.apply.ensures

pub returns-clause-gives : goal.returns-clause-gives
returns-clause-gives c =
    given c.args.text.now c.in_ok-cut.cut c.apply.result c.in_ok-cut.ensures.only c.apply.ensures
