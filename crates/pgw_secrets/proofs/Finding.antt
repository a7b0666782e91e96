-- A look-up has one answer.
use Rattle.std.proofs.Common.{◌≡◌, ℕ, Bool, true, not, cond, List, [], ◌∷◌, ◌++◌, Option, Some, None, refl, sym, ap, ◌∙◌}
use Rattle.std.specs.List.{list_all}
use Rattle.std.proofs.lemmas.Bool.{and_parts, not-true}
use Rattle.pgw_secrets.specs.declared.password_file.Entry.{Entry}
use Rattle.pgw_secrets.specs.Lookup.{IsFound}

-- the first that passes, found from the front
abbrev first : (Entry → Bool) → List Entry → Option (List ℕ)
first test [] = None
first test (e ∷ entries) = cond (test e) (Some e.password) (first test entries)

none_first : (test : Entry → Bool) (entries : List Entry) → list_all (λ e. not (test e)) entries ≡ true
    → first test entries ≡ None
none_first test [] h = refl
none_first test (e ∷ entries) h =
    let q = and_parts (not (test e)) (list_all (λ e. not (test e)) entries) h in
    rw (not-true (test e) q.0) (none_first test entries q.1)

behind_first : (test : Entry → Bool) (front : List Entry) (e : Entry) (back : List Entry)
    → list_all (λ e. not (test e)) front ≡ true → test e ≡ true → first test (front ++ e ∷ back) ≡ Some e.password
behind_first test [] e back h passes = rw passes refl
behind_first test (f ∷ front) e back h passes =
    let q = and_parts (not (test f)) (list_all (λ e. not (test e)) front) h in
    rw (not-true (test f) q.0) (behind_first test front e back q.1 passes)

found_is : (test : Entry → Bool) (entries : List Entry) (answer : Option (List ℕ)) → IsFound test entries answer
    → first test entries ≡ answer
found_is test entries None h = none_first test entries h
found_is test entries (Some password) h =
    ap (first test) h.cut ∙ behind_first test h.front h.entry h.back h.earlier h.passes
    ∙ ap (λ (l : List ℕ). Some l) (sym h.is)

pub found_once : (test : Entry → Bool) (entries : List Entry) (one other : Option (List ℕ))
    → IsFound test entries one → IsFound test entries other → one ≡ other
found_once test entries one other a b = sym (found_is test entries one a) ∙ found_is test entries other b
