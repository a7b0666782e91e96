use Rattle.std.proofs.Common.{subst}
use Rattle.pgw_login_pair.specs.Sides.{IsGoing}
use Rattle.pgw_login_pair.proofs.ClientLaws.{ended_refused, going_keeps}
use Rattle.pgw_login_pair.proofs.client_side.ClientSide.end.Goals as goal

pub end_of-requires : goal.end_of-requires
end_of-requires c = subst (λ x. IsGoing x c.args.self.phase) c.in-Ok.is c.requires

pub returns-in-Ok-clause-is : goal.returns-in-Ok-clause-is
returns-in-Ok-clause-is c =
    λ input taken at. c.end_of.ensures input taken c.args.self.out.items
    (going_keeps input c.args.self taken c.in-Ok.dialogue c.in-Ok.is at)

pub returns-in-Err-clause-is : goal.returns-in-Err-clause-is
returns-in-Err-clause-is c = λ input taken at. ended_refused input c.args.self taken c.in-Err.e c.in-Err.is at
