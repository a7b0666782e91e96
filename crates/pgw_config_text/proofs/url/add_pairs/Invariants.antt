use Rattle.std.proofs.Common.{length}
use Rattle.pgw_config_text.specs.UrlReader.{AddsPairs}
use Rattle.pgw_config_text.specs.declared.part.Cut.{Cut}
use Rattle.pgw_config_text.proofs.url.add_pairs.Given as goal

abbrev pub invariant-loop-rest : goal.invariant-loop-rest
invariant-loop-rest l = (whole : Cut) → AddsPairs l.cut l.rest whole → AddsPairs l.fn.cut l.fn.text whole

abbrev pub decreases-loop-rest : goal.decreases-loop-rest
decreases-loop-rest l = length l.rest
