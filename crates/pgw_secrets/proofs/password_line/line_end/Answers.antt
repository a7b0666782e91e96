use Rattle.std.proofs.Common.{subst}
use Rattle.std.proofs.lemmas.Bool.{ne_eqb}
use Rattle.std.proofs.lemmas.List.{take_all}
use Rattle.pgw_secrets.specs.Found.{Lacks}
use Rattle.pgw_secrets.proofs.Rests.{passed_more}
use Rattle.pgw_secrets.proofs.password_line.line_end.Goals as goal

pub loop-i-preserved : goal.loop-i-preserved
loop-i-preserved c =
    passed_more 10 c.args.text.now c.loop-i.i c.loop-i-test.true (ne_eqb _ 10 c.if-byte-eq10.false)
    c.loop-i.invariant

pub returns : goal.returns
returns c = subst (Lacks 10) (take_all c.loop-i.i c.args.text.now c.loop-i-test.false) c.loop-i.invariant
