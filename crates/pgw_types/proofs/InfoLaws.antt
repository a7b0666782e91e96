-- Fields say what they were made of.
use Rattle.std.proofs.Common.{◌≡◌, ℕ, ◌<◌, ◌^◌, Bool, true, false, cond, eqb, List, [], ◌∷◌, ◌++◌, reverse, Option, Some, None, option_map, unwrap_or, refl, ap, ◌∙◌}
use Rattle.std.specs.Prelude.{IfSome}
use Rattle.std.specs.List.{find, filter_map, cons_option}
use Rattle.std.specs.Option.{option_or}
use Rattle.std.specs.Fmt.{decimal}
use Rattle.std.proofs.lemmas.List.{reverse-append}
use Rattle.std.proofs.lemmas.List.Folds.{find-append}
use Rattle.pgw_types.specs.declared.error_info.ErrorInfo.{ErrorInfo}
use Rattle.pgw_types.specs.Infos.{parts_of, info_field, fields_of, last_field_text, source_line, info_from, with_field}
use Rattle.pgw_types.proofs.NumberLaws.{number_in-decimal}

abbrev Fields : Type 0
Fields = List (ℕ × List ℕ)

pub filter_map_push : {X Y : Type 0} (f : X → Option Y) (xs : List X) (x : X)
    → filter_map f (xs ++ x ∷ []) ≡ filter_map f xs ++ cons_option (f x) []
filter_map_push f [] x = refl
filter_map_push f (y ∷ ys) x =
    elim (f y) as (λ o. cons_option o (filter_map f (ys ++ x ∷ [])) ≡ cons_option o (filter_map f ys)
    ++ cons_option (f x) []) [
      | None ↦ filter_map_push f ys x
      | Some z ↦ ap (λ l. z ∷ l) (filter_map_push f ys x)
    ]

-- ---- one more field

last_of-push : (code : ℕ) (fields : Fields) (f : ℕ × List ℕ)
    → last_field_text code (fields ++ f ∷ []) ≡ cond (eqb f.0 code) (Some f.1) (last_field_text code fields)
unfolding last_field_text
last_of-push code fields f =
    rw (reverse-append fields (f ∷ []))
    (elim (eqb f.0 code) as
    (λ b. option_map (λ (g : ℕ × List ℕ). g.1) (cond b (Some f) (find (λ g. eqb g.0 code) (reverse fields))) ≡
    cond b (Some f.1) (option_map (λ (g : ℕ × List ℕ). g.1) (find (λ g. eqb g.0 code) (reverse fields)))) [
      | true ↦ refl
      | false ↦ refl
    ])

or_empty : (b : Bool) (text : List ℕ) (o : Option (List ℕ))
    → unwrap_or (cond b (Some text) o) [] ≡ cond b text (unwrap_or o [])
or_empty true text o = refl
or_empty false text o = refl

lined : (b : Bool) (text : List ℕ) (o : Option (List ℕ))
    → option_map source_line (cond b (Some text) o) ≡ cond b (Some (source_line text)) (option_map source_line o)
lined true text o = refl
lined false text o = refl

pub info_from_push : (fields : Fields) (code : ℕ) (text : List ℕ)
    → info_from (fields ++ (code, text) ∷ []) ≡ with_field (info_from fields) code text
unfolding info_from with_field
info_from_push fields code text = simp (last_of-push, or_empty, lined) refl

-- ---- there and back

last_of-cons : (code : ℕ) (f : ℕ × List ℕ) (fields : Fields)
    → last_field_text code (f ∷ fields) ≡ option_or (last_field_text code fields)
    (cond (eqb f.0 code) (Some f.1) None)
unfolding last_field_text
last_of-cons code f fields =
    let named : ℕ × List ℕ → Bool = λ g. eqb g.0 code in
    let split = ap (find named) (reverse-append (f ∷ []) fields) ∙ find-append named (reverse fields) (f ∷ []) in
    rw split
    (elim (find named (reverse fields)) as
    (λ o. option_map (λ (g : ℕ × List ℕ). g.1) (option_or o (cond (named f) (Some f) None)) ≡ option_or
    (option_map (λ (g : ℕ × List ℕ). g.1) o) (cond (named f) (Some f.1) None)) [
      | Some g ↦ refl
      | None ↦ elim (named f) as
          (λ b. option_map (λ (g : ℕ × List ℕ). g.1) (cond b (Some f) None) ≡ cond b (Some f.1) None)
          [ true ↦ refl | false ↦ refl ]
    ])

-- the text of a part, unless a later part of its code has one
abbrev choose : Option (List ℕ) → Option (List ℕ) → Option (List ℕ)
choose None later = later
choose (Some text) None = Some text
choose (Some text) (Some more) = Some more

abbrev last_part : ℕ → List (ℕ × Option (List ℕ)) → Option (List ℕ)
last_part code [] = None
last_part code (p ∷ parts) = choose (cond (eqb p.0 code) p.1 None) (last_part code parts)

chosen_part : (b : Bool) (text : List ℕ) (later : Option (List ℕ))
    → option_or later (cond b (Some text) None) ≡ choose (cond b (Some text) None) later
chosen_part true text None = refl
chosen_part true text (Some more) = refl
chosen_part false text None = refl
chosen_part false text (Some more) = refl

unset_part : (b : Bool) (later : Option (List ℕ)) → later ≡ choose (cond b None None) later
unset_part true later = refl
unset_part false later = refl

last_in_parts : (code : ℕ) (parts : List (ℕ × Option (List ℕ)))
    → last_field_text code (filter_map info_field parts) ≡ last_part code parts
last_in_parts code [] = unfold last_field_text in refl
last_in_parts code ((k, None) ∷ parts) = last_in_parts code parts ∙ unset_part (eqb k code) (last_part code parts)
last_in_parts code ((k, Some text) ∷ parts) =
    last_of-cons code (k, text) (filter_map info_field parts)
    ∙ ap (λ o. option_or o (cond (eqb k code) (Some text) None)) (last_in_parts code parts)
    ∙ chosen_part (eqb k code) text (last_part code parts)

choose-None : (o : Option (List ℕ)) → choose o None ≡ o
choose-None None = refl
choose-None (Some text) = refl

-- each part comes back
back : (e : ErrorInfo) (code : ℕ) (o : Option (List ℕ)) → last_part code (parts_of e) ≡ choose o None
    → last_field_text code (fields_of e) ≡ o
back e code o h = last_in_parts code (parts_of e) ∙ h ∙ choose-None o

lines_back : (line : Option ℕ) → IfSome line (λ n. n < 2 ^ 64)
    → option_map source_line (option_map decimal line) ≡ line
lines_back None h = refl
lines_back (Some n) h = ap (λ o. Some (unwrap_or o 0)) (number_in-decimal n 64 h h)

pub info_from_fields : (e : ErrorInfo) → IfSome e.line (λ n. n < 2 ^ 64) → info_from (fields_of e) ≡ e
unfolding info_from
info_from_fields e h =
    rw (
      back e 83 (Some e.severity) (unfold parts_of in refl),
      back e 86 e.severity_nonlocalized (unfold parts_of in refl),
      back e 67 (Some e.code) (unfold parts_of in refl),
      back e 77 (Some e.message) (unfold parts_of in refl),
      back e 68 e.detail (unfold parts_of in refl),
      back e 72 e.hint (unfold parts_of in refl),
      back e 80 e.position (unfold parts_of in refl),
      back e 112 e.internal_position (unfold parts_of in refl),
      back e 113 e.internal_query (unfold parts_of in refl),
      back e 87 e.where_context (unfold parts_of in refl),
      back e 70 e.file_name (unfold parts_of in refl),
      back e 82 e.routine (unfold parts_of in refl),
      back e 115 e.schema (unfold parts_of in refl),
      back e 116 e.table (unfold parts_of in refl),
      back e 99 e.column (unfold parts_of in refl),
      back e 100 e.datatype (unfold parts_of in refl),
      back e 110 e.constraint (unfold parts_of in refl),
      back e 76 (option_map decimal e.line) (unfold parts_of in refl),
      lines_back e.line h,
    ) refl
