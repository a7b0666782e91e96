use Rattle.std.proofs.Common.{◌≡◌, ℕ, List, [], ◌∷◌, Option, sym, subst}
use Rattle.pgw_query.specs.declared.tag.Tag.{Tag}
use Rattle.pgw_types.specs.Numbers.{number_in}
use Rattle.pgw_query.specs.Tags.{counted_tag, inserted_tag, tag_by, tag_of}
use Rattle.pgw_query.proofs.WordLaws.{begins, goes, ends, none_of}
use Rattle.pgw_query.specs.declared.tag.Words.{Words}
use Rattle.pgw_query.proofs.tag.words_of.Goals as goal

-- the tag that words are
abbrev tag_at : Words → Tag
tag_at w = record { command = w.command.now; oid = w.oid; rows = w.rows }

pub returns-in_default : goal.returns-in_default
unfolding tag_of
returns-in_default c =
    let text = c.args.text.now in
    let none = rw (none_of c.next.result c.in_default.not-Some) at c.next.ensures.steps in
    let start = begins text _ c.utf8.text c.split_whitespace-words.ensures.rest in
    subst (λ (ws : List (List ℕ)). tag_by text ws ≡ tag_at c.plain.result) (sym (ends text _ [] start none.1))
    c.plain.ensures

pub returns-in_default-next : goal.returns-in_default-next
unfolding tag_of
returns-in_default-next c =
    let text = c.args.text.now in
    let a = c.in-Some.command.now in
    let none = rw (none_of c.next-2.result c.in_default-next.not-Some) at c.next-2.ensures.steps in
    let start = begins text _ c.utf8.text c.split_whitespace-words.ensures.rest in
    let first = goes text _ _ _ [] start c.in-Some.ensures.steps in
    subst (λ (ws : List (List ℕ)). tag_by text ws ≡ tag_at c.plain-in_default-next.result)
    (sym (ends text _ (a ∷ []) first none.1)) c.plain-in_default-next.ensures

pub returns-in_default-next-2 : goal.returns-in_default-next-2
unfolding tag_of
returns-in_default-next-2 c =
    let text = c.args.text.now in
    let a = c.in-Some.command.now in
    let b = c.in-Some-next.second.now in
    let none = rw (none_of c.next-3.result c.in_default-next-2.not-Some) at c.next-3.ensures.steps in
    let start = begins text _ c.utf8.text c.split_whitespace-words.ensures.rest in
    let first = goes text _ _ _ [] start c.in-Some.ensures.steps in
    let second = goes text _ _ _ (a ∷ []) first c.in-Some-next.ensures.steps in
    let rows =
    subst (λ (rows : Option ℕ). counted_tag text a rows ≡ tag_at c.counted.result) c.rows_in.ensures
    c.counted.ensures in
    subst (λ (ws : List (List ℕ)). tag_by text ws ≡ tag_at c.counted.result)
    (sym (ends text _ (a ∷ b ∷ []) second none.1)) rows

pub returns-in-Some-next-3 : goal.returns-in-Some-next-3
unfolding tag_of
returns-in-Some-next-3 c =
    let text = c.args.text.now in
    let a = c.in-Some.command.now in
    let b = c.in-Some-next.second.now in
    let d = c.in-Some-next-2.third.now in
    let start = begins text _ c.utf8.text c.split_whitespace-words.ensures.rest in
    let first = goes text _ _ _ [] start c.in-Some.ensures.steps in
    let second = goes text _ _ _ (a ∷ []) first c.in-Some-next.ensures.steps in
    let third = goes text _ _ _ (a ∷ b ∷ []) second c.in-Some-next-2.ensures.steps in
    let fourth = goes text _ _ _ (a ∷ b ∷ d ∷ []) third c.in-Some-next-3.ensures.steps in
    subst (λ (ws : List (List ℕ)). tag_by text ws ≡ tag_at c.plain-in-Some-next-3.result) (sym fourth.2)
    c.plain-in-Some-next-3.ensures

pub returns-in-None : goal.returns-in-None
unfolding tag_of
returns-in-None c =
    let text = c.args.text.now in
    let a = c.in-Some.command.now in
    let b = c.in-Some-next.second.now in
    let d = c.in-Some-next-2.third.now in
    let start = begins text _ c.utf8.text c.split_whitespace-words.ensures.rest in
    let first = goes text _ _ _ [] start c.in-Some.ensures.steps in
    let second = goes text _ _ _ (a ∷ []) first c.in-Some-next.ensures.steps in
    let third = goes text _ _ _ (a ∷ b ∷ []) second c.in-Some-next-2.ensures.steps in
    let oid =
    subst (λ (oid : Option ℕ). inserted_tag text a oid c.rows_in-in-None.result ≡ tag_at c.inserted.result)
    c.oid_in.ensures c.inserted.ensures in
    let rows =
    subst (λ (rows : Option ℕ). inserted_tag text a (number_in 32 b) rows ≡ tag_at c.inserted.result)
    c.rows_in-in-None.ensures oid in
    subst (λ (ws : List (List ℕ)). tag_by text ws ≡ tag_at c.inserted.result)
    (sym (ends text _ (a ∷ b ∷ d ∷ []) third c.in-None.ensures.steps.1)) rows
