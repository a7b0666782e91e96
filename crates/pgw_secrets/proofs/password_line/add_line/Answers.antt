use Rattle.std.proofs.Common.{◌≡◌, ◌∙◌, ap, sym, subst, refl, inr, take, List, ℕ}
use Rattle.pgw_secrets.specs.PasswordFile.{without_return}
use Rattle.pgw_secrets.specs.PasswordReader.{AddsPasswordEntry, BeginsFile}
use Rattle.pgw_secrets.specs.PasswordShown.{password_parts}
use Rattle.pgw_secrets.proofs.Lines.{adds_one, on_ok}
use Rattle.pgw_secrets.proofs.Rests.{line_begins, parts_begin}
use Rattle.pgw_secrets.proofs.password_line.add_line.Goals as goal

pub returns-in_default : goal.returns-in_default
returns-in_default c =
    let is : c.line_up_to-line.result.now ≡ without_return (take c.args.end c.args.rest.now) =
    c.line_up_to-line.ensures ∙ ap (λ (l : List ℕ). without_return (take c.args.end l)) c.as_slice.ensures in
    subst (λ (l : List ℕ). AddsPasswordEntry l c.args.entries.now c.args.entries.now) is
    (inr (c.in_default.ensures, refl))

pub entry_of-requires : goal.entry_of-requires
entry_of-requires c =
    let is : c.line_up_to-line.result.now ≡ without_return (take c.args.end c.args.rest.now) =
    c.line_up_to-line.ensures ∙ ap (λ (l : List ℕ). without_return (take c.args.end l)) c.as_slice.ensures in
    parts_begin c.line_up_to-line.result.now c.args.rest.now (password_parts c.in-Some.parts) c.in-Some.ensures.1
    (subst (λ (l : List ℕ). BeginsFile l c.args.rest.now) (sym is) (line_begins c.args.end c.args.rest.now))

pub returns : goal.returns
returns c =
    let is : c.line_up_to-line.result.now ≡ without_return (take c.args.end c.args.rest.now) =
    c.line_up_to-line.ensures ∙ ap (λ (l : List ℕ). without_return (take c.args.end l)) c.as_slice.ensures in
    on_ok c.push.result c.push.ensures.ok
    (λ m. subst (λ (l : List ℕ). AddsPasswordEntry l c.args.entries.now c.push.new.self) is
    (adds_one c.line_up_to-line.result.now c.args.entries.now c.push.new.self (password_parts c.in-Some.parts)
    c.in_ok-entry.entry c.in-Some.ensures c.in_ok-entry.ensures m))
