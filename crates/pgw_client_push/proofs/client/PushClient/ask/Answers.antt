use Rattle.std.proofs.Common.{inr, refl, subst, sym}
use Rattle.pgw_client_push.proofs.BehindLaws.{IsOfRequest}
use Rattle.pgw_client_push.proofs.CallLaws.{answered_by, asks_next, left_by}
use Rattle.pgw_client_push.proofs.StandingLaws.{IsOf}
use Rattle.pgw_client_push.proofs.client.PushClient.ask.Goals as goal

pub returns-clause-asks : goal.returns-clause-asks
returns-clause-asks c =
    let put = c.in-Ok.ensures.put in
    inr (
      asks_next c.args.self.now c.open.new.self c.go_on.new.self c.args.request put.0 c.args.out.now.items
          c.put_request.new.out.items c.go_on.new.out.items c.go_on.result c.requires put.1 put.2 c.open.ensures
          c.go_on.ensures.served,
      left_by c.open.new.self c.go_on.new.self c.put_request.new.out.items c.go_on.new.out.items c.go_on.result
          c.go_on.ensures.served,
    )

pub returns-clause-answer : goal.returns-clause-answer
returns-clause-answer c =
    let o = c.open.ensures in
    let here : IsOf c.open.new.self.asked c.open.new.self.notes =
    subst (λ a. IsOf a c.open.new.self.notes) (sym o.asked) (subst IsOfRequest (sym o.notes) (tt, refl, refl)) in
    answered_by c.open.new.self c.go_on.new.self c.put_request.new.out.items c.go_on.new.out.items
    c.go_on.result here c.go_on.ensures.served
