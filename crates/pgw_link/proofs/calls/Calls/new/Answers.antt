use Rattle.std.proofs.Common.{sym}
use Rattle.pgw_link.proofs.CallLaws.{is_reached-none}
use Rattle.pgw_link.proofs.calls.Calls.new.Goals as goal

pub invariant_of-result : goal.invariant_of-result
invariant_of-result c = record { account = sym (is_reached-none c.args.numbers) }
