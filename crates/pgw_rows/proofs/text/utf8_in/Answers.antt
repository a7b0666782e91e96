use Rattle.std.proofs.Common.{Some, None, Ok, ap, sym, refl, inl, inr, ◌≡◌, true, ◌∙◌, List, ℕ}
use Rattle.std.specs.Str.{is_utf8}
use Rattle.std.proofs.lemmas.Str.{IsUtf8-from_is_utf8, is_utf8-from_IsUtf8}
use Rattle.pgw_wire.specs.Steps.{chosen}
use Rattle.pgw_rows.specs.Values.{or_bad_text, value_text}
use Rattle.pgw_rows.proofs.text.utf8_in.Goals as goal

pub returns-in_default : goal.returns-in_default
returns-in_default c =
    let raw = c.args.raw.now in
    elim (chosen (is_utf8 raw) (Some raw) None (value_text raw) refl) [
      | inl k ↦ absurd (c.in_default.ensures.cases.0 (IsUtf8-from_is_utf8 raw k.0))
      | inr k ↦ ap or_bad_text (sym k.1)
    ]

pub returns-in-Ok-from_str : goal.returns-in-Ok-from_str
returns-in-Ok-from_str c =
    let h : is_utf8 c.args.raw.now ≡ true = is_utf8-from_IsUtf8 c.args.raw.now c.in-Ok.ensures.cases.1 in
    rw h (ap (λ (t : List ℕ). Ok t) (sym (c.in-Ok-from_str.ensures ∙ c.in-Ok.ensures.cases.0)))
