use Rattle.std.proofs.Common.{inl, rules}
use Rattle.hothummei_c.proofs.turns.at_end.Goals as goal

pub returns : goal.returns
returns c =
    inl (
      c.in-Some.held,
      c.at_end-e.result,
      c.in-Some.is,
      c.if-not-awaits.ensures.0 (search rules),
      c.at_end-e.ensures.end,
      c.at_end-e.ensures.is,
      c.fail.ensures,
    )
