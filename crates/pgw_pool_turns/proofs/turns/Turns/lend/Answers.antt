use Rattle.std.proofs.Common.{rules, ◌≡◌, ◌∙◌, sym, subst, inl, inr}
use Rattle.pgw_pool_turns.specs.Standings.{IsFree, IsTurn}
use Rattle.pgw_pool_turns.specs.Desks.{TurnStock, IsDeskCounted, LendsNothing, Lending}
use Rattle.pgw_pool_turns.proofs.DeskLaws.{not_so, is_served, has_no_ticket}
use Rattle.pgw_pool_turns.proofs.turns.Turns.lend.Goals as goal

pub returns-then-is_free-clause-lending : goal.returns-then-is_free-clause-lending
returns-then-is_free-clause-lending g c =
    let old = c.deref_mut.result.now in
    let new = c.lend_at_once.new.self in
    let same : c.deref.result.now ≡ old = c.deref.ensures ∙ sym c.deref_mut.ensures.value in
    let free : IsFree old.counts = search rules in
    let lends = c.lend_at_once.ensures.lends in
    let is = is_served g.S.Stock.lends g.S.Stock.is_spent old new c.lend_at_once.result (inl free) lends in (
      old,
      new,
      subst (λ (d : TurnStock g.row.S.Denot). IsDeskCounted g.S.Stock.ready g.S.Stock.room d) same
          c.is_free.ensures.counted,
      subst (Lending g.S.Stock.lends g.S.Stock.is_spent old new) (sym c.ok_or.ensures.value) is,
    )

pub returns-in-Err-clause-lending : goal.returns-in-Err-clause-lending
returns-in-Err-clause-lending g c =
    let old = c.deref_mut-2.result.now in
    let same : c.deref.result.now ≡ old = c.deref.ensures ∙ sym c.deref_mut-2.ensures.value in
    let was = not_so c.is_free.result c.if-is_free.false c.is_free.ensures.free in
    let busy : ¬ IsFree old.counts = subst (λ (d : TurnStock g.row.S.Denot). ¬ IsFree d.counts) same was in
    let is = has_no_ticket g.S.Stock.is_spent old c.in-Err.error busy c.in-Err.ensures.refused in (
      old,
      old,
      subst (λ (d : TurnStock g.row.S.Denot). IsDeskCounted g.S.Stock.ready g.S.Stock.room d) same
          c.is_free.ensures.counted,
      subst (LendsNothing g.S.Stock.is_spent old) (sym c.refusal_of.ensures) is,
    )

pub returns-then-not-in_time-clause-lending : goal.returns-then-not-in_time-clause-lending
returns-then-not-in_time-clause-lending g c =
    let old = c.deref_mut-then-not-in_time.result.now in
    let late : ¬ IsTurn c.in-Ok.ticket old.counts =
    subst (λ (d : TurnStock g.row.S.Denot). ¬ IsTurn c.in-Ok.ticket d.counts)
    (sym c.deref_mut-then-not-in_time.ensures.value) (c.wait-desk.ensures.late c.if-not-in_time.true) in (
      old,
      old,
      c.leave.ensures.counted,
      (c.in-Ok.ticket, late),
    )

pub returns-clause-lending : goal.returns-clause-lending
returns-clause-lending g c =
    let old = c.deref_mut-3.result.now in
    let new = c.lend_to-lent.new.self in
    let turn : IsTurn c.in-Ok.ticket old.counts = search rules in
    let lends = c.lend_to-lent.ensures.lends in
    let may = inr (c.in-Ok.ticket, turn) in
    let is = is_served g.S.Stock.lends g.S.Stock.is_spent old new c.lend_to-lent.result may lends in (
      old,
      new,
      c.lend_to-lent.ensures.counted,
      subst (Lending g.S.Stock.lends g.S.Stock.is_spent old new) (sym c.ok_or-2.ensures.value) is,
    )
