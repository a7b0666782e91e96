use Rattle.std.proofs.Common.{◌≡◌, ◌∙◌, List, ℕ, Ok, Err, inl, refl, sym, ap, subst}
use Rattle.pgw_dialogue.specs.declared.phase.DialoguePhase.TheVariants as step
use Rattle.pgw_dialogue.specs.Dialogue.{IsBehind, Takes}
use Rattle.hothummei_c.specs.declared.session.Session.{Session}
use Rattle.hothummei_c.specs.Held.{dialogue_of}
use Rattle.hothummei_c.specs.Session.{HandleFails, FinishesReport}
use Rattle.hothummei_c.proofs.SessionLaws.{fails_over, finishes_over, fails_out, finishes_out}
use Rattle.hothummei_c.proofs.turns.take.Goals as goal

pub returns-in-Ok-Waiting : goal.returns-in-Ok-Waiting
returns-in-Ok-Waiting c =
    let held = c.in-Some.held in
    let next = c.take-2.new.self in
    let is = c.in-Ok-Waiting.is ∙ ap Ok c.in-Ok-Waiting.field-0-is in
    let takes =
    subst (Takes (dialogue_of held) (dialogue_of next) c.args.piece.now c.args.session.now.out.items
    c.take-2.new.out.items) is c.take-2.ensures.takes in
    let behind = subst (IsBehind (dialogue_of next)) is c.take-2.ensures.after in
    inl (held, next, Ok step.Waiting, sym c.take.ensures.value ∙ c.in-Some.is, takes, behind, (refl, refl))

pub returns-in-Ok-Ready : goal.returns-in-Ok-Ready
returns-in-Ok-Ready c =
    let held = c.in-Some.held in
    let next = c.take-2.new.self in
    let is = c.in-Ok-Ready.is ∙ ap Ok c.in-Ok-Ready.field-0-is in
    let takes =
    subst (Takes (dialogue_of held) (dialogue_of next) c.args.piece.now c.args.session.now.out.items
    c.take-2.new.out.items) is c.take-2.ensures.takes in
    let behind = subst (IsBehind (dialogue_of next)) is c.take-2.ensures.after in
    inl (held, next, Ok step.Ready, sym c.take.ensures.value ∙ c.in-Some.is, takes, behind, (refl, refl))

pub returns-in-Ok-Done : goal.returns-in-Ok-Done
returns-in-Ok-Done c =
    let old = c.args.session.now in
    let held = c.in-Some.held in
    let next = c.take-2.new.self in
    let is = c.in-Ok-Done.is ∙ ap Ok c.in-Ok-Done.field-0-is in
    let takes =
    subst (Takes (dialogue_of held) (dialogue_of next) c.args.piece.now old.out.items c.take-2.new.out.items)
    is c.take-2.ensures.takes in
    let behind = subst (IsBehind (dialogue_of next)) is c.take-2.ensures.after in
    let mid : Session = record old { held = c.take.new.self; out = c.take-2.new.out } in
    let same : c.finish.new.session.out.items ≡ c.take-2.new.out.items =
    finishes_out mid c.finish.new.session next _ c.finish.ensures in
    let moved =
    subst (λ (out : List ℕ). Takes (dialogue_of held) (dialogue_of next) c.args.piece.now old.out.items out
    (Ok step.Done)) (sym same) takes in
    inl (
      held,
      next,
      Ok step.Done,
      sym c.take.ensures.value
          ∙ c.in-Some.is,
      moved,
      behind,
      finishes_over old mid c.finish.new.session next _
          (ap (λ h. record old { held = h; out = c.take-2.new.out }) c.take.ensures.after) c.finish.ensures,
    )

pub returns-in-Err : goal.returns-in-Err
returns-in-Err c =
    let old = c.args.session.now in
    let held = c.in-Some.held in
    let next = c.take-2.new.self in
    let e = c.in-Err.e in
    let takes =
    subst (Takes (dialogue_of held) (dialogue_of next) c.args.piece.now old.out.items c.take-2.new.out.items)
    c.in-Err.is c.take-2.ensures.takes in
    let behind = subst (IsBehind (dialogue_of next)) c.in-Err.is c.take-2.ensures.after in
    let mid : Session = record old { held = c.take.new.self; out = c.take-2.new.out } in
    let same : c.fail.new.self.out.items ≡ c.take-2.new.out.items =
    fails_out mid c.fail.new.self e _ c.fail.ensures in
    let moved =
    subst (λ (out : List ℕ). Takes (dialogue_of held) (dialogue_of next) c.args.piece.now old.out.items out
    (Err e)) (sym same) takes in
    inl (
      held,
      next,
      Err e,
      sym c.take.ensures.value
          ∙ c.in-Some.is,
      moved,
      behind,
      fails_over old mid c.fail.new.self e _
          (ap (λ h. record old { held = h; out = c.take-2.new.out }) c.take.ensures.after) c.fail.ensures,
    )
