use Rattle.std.proofs.Common.{Some, None, sym}
use Rattle.pgw_scram.proofs.CutLaws.{cuts}
use Rattle.pgw_scram.proofs.attributes.cut.Goals as goal

pub returns-in-Some : goal.returns-in-Some
returns-in-Some c = sym (cuts c.args.text.now (Some (c.in-Some.value, c.in-Some.rest)) c.in-Some.ensures.cases)

pub returns-in-None : goal.returns-in-None
returns-in-None c = sym (cuts c.args.text.now None c.in-None.ensures.cases)
