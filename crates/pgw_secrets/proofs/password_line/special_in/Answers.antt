use Rattle.std.proofs.Common.{sym, ◌∙◌, subst}
use Rattle.std.proofs.lemmas.List.{take_all}
use Rattle.pgw_secrets.specs.Found.{Lacks}
use Rattle.pgw_secrets.proofs.Rests.{both_passed}
use Rattle.pgw_secrets.proofs.password_line.special_in.Goals as goal

pub loop-i-preserved : goal.loop-i-preserved
loop-i-preserved c =
    both_passed c.args.text.now c.loop-i.i c.loop-i-test.true (sym c.is_special.ensures
    ∙ c.if-is_special.false) c.loop-i.invariant

pub returns : goal.returns
returns c = (
  subst (Lacks 58) (take_all c.loop-i.i c.args.text.now c.loop-i-test.false) c.loop-i.invariant.0,
  subst
      (Lacks 92) (take_all c.loop-i.i c.args.text.now c.loop-i-test.false) c.loop-i.invariant.1,
)
