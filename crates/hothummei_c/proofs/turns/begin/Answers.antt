use Rattle.std.proofs.Common.{◌≡◌, List, ℕ, Ok, Err, inl, inr, refl, sym, subst}
use Rattle.std.specs.Prelude.{IfSome}
use Rattle.pgw_config.specs.declared.config.Config.{Config}
use Rattle.pgw_dialogue.specs.Demands.{IsInvalidConfig}
use Rattle.pgw_dialogue.specs.Dialogue.{Starts}
use Rattle.pgw_session.specs.Demands.{refused_config}
use Rattle.pgw_session.specs.declared.types.Request.{Request}
use Rattle.pgw_session.specs.Input.{input_with}
use Rattle.hothummei_c.specs.declared.session.Session.{Session}
use Rattle.hothummei_c.specs.Held.{dialogue_of}
use Rattle.hothummei_c.proofs.SessionLaws.{fails_handed, fails_out}
use Rattle.hothummei_c.proofs.turns.begin.Goals as goal

pub returns-in-Ok : goal.returns-in-Ok
returns-in-Ok c =
    let old = c.args.session.now in
    let h = c.in-Ok.held in
    let refused =
    subst (λ (g : Config). IfSome (refused_config g) (λ key. ⊥)) c.replace-config.ensures.value
    c.in-Ok.ensures.refused in
    let by_config =
    subst (λ (g : Config). Starts (input_with g c.replace-requests.result old.nonce) c.args.limit
    old.out.items c.start.new.out.items (Ok (dialogue_of h))) c.replace-config.ensures.value
    c.in-Ok.ensures.starts in
    let starts =
    subst (λ (rs : List Request). Starts (input_with old.config rs old.nonce) c.args.limit old.out.items
    c.start.new.out.items (Ok (dialogue_of h))) c.replace-requests.ensures.value by_config in
    inl (refl, h, (refused, starts), refl)

pub returns-in-Err : goal.returns-in-Err
returns-in-Err c =
    let old = c.args.session.now in
    let e = c.in-Err.e in
    let mid : Session =
    record old {
      config = c.replace-config.new.dest;
      requests = c.replace-requests.new.dest;
      out =
          c.start.new.out;
    } in
    let refused =
    subst (λ (g : Config). IfSome (refused_config g) (λ key. IsInvalidConfig key e))
    c.replace-config.ensures.value c.in-Err.ensures.refused in
    let by_config =
    subst (λ (g : Config). Starts (input_with g c.replace-requests.result old.nonce) c.args.limit
    old.out.items c.start.new.out.items (Err e)) c.replace-config.ensures.value c.in-Err.ensures.starts in
    let starts =
    subst (λ (rs : List Request). Starts (input_with old.config rs old.nonce) c.args.limit old.out.items
    c.start.new.out.items (Err e)) c.replace-requests.ensures.value by_config in
    let same : c.fail.new.self.out.items ≡ c.start.new.out.items =
    fails_out mid c.fail.new.self e _ c.fail.ensures in
    let moved =
    subst (λ (out : List ℕ). Starts (input_with old.config old.requests old.nonce) c.args.limit old.out.items
    out (Err e)) (sym same) starts in
    inr (e, (refused, moved), fails_handed old mid c.fail.new.self e _ refl c.fail.ensures)
