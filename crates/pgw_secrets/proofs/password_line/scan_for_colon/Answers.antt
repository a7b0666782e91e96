use Rattle.std.proofs.Common.{◌≡◌, ◌∙◌, sym, subst, false, drop, ◌+◌}
use Rattle.pgw_secrets.specs.PasswordReader.{colon_from}
use Rattle.pgw_secrets.proofs.Fields.{colon_next}
use Rattle.pgw_secrets.proofs.password_line.scan_for_colon.Goals as goal

pub loop-i-preserved : goal.loop-i-preserved
loop-i-preserved c =
    let text = c.args.text.now in
    let i = c.loop-i.i in
    subst (λ s. colon_from s (i + 1) (drop (i + 1) text) ≡ colon_from false 0 text)
    (sym c.is_escape-escaped.ensures)
    (colon_next text i c.loop-i.escaped (colon_from false 0 text) c.loop-i-test.true (sym c.is_mark.ensures
    ∙ c.if-is_mark.false) c.loop-i.invariant)
