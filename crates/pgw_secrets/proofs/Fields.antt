-- A field and a password are read in one way.
use Rattle.std.proofs.Common.{◌≡◌, ℕ, ◌+◌, ◌-◌, ◌<◌, ◌==◌, Bool, true, false, cond, List, [], ◌∷◌, ◌++◌, length, take, drop, get_or, drop-cons, add-one, codes, Option, Some, None, refl, sym, ap, subst, ◌∙◌, arith}
use Rattle.std.specs.List.{list_any}
use Rattle.std.specs.Str.{bytes_eq}
use Rattle.std.proofs.lemmas.Bool.{eqb-true}
use Rattle.std.proofs.lemmas.Slice.Eq.{bytes_eq-Decides}
use Rattle.std.proofs.lemmas.List.{take_all, length-drop}
use Rattle.std.proofs.Math.Seq.{take-append_seam, drop-append-add}
use Rattle.pgw_secrets.specs.declared.password_file.Field.{Field}
use Rattle.pgw_secrets.specs.declared.password_file.Field.TheVariants.{Any, Is}
use Rattle.pgw_secrets.specs.PasswordFile.{WritesPassField, nothing, itself, escaped, is_colon, ends_no_password, IsPasswordField, IsPassword, whole, stopped}
use Rattle.pgw_secrets.specs.PasswordReader.{is_mark, is_escape, colon_from, value_from, password_field, IsCutAtColon}

-- ---- values

pub value_is : (ends : ℕ → Bool) (text value : List ℕ) → WritesPassField ends text value
    → value_from false text ≡ value
unfolding value_from
value_is ends text value nothing = refl
value_is ends text value (itself {b = b} {text = more} {value = rest} plain inside w) =
    rw plain (ap (λ (l : List ℕ). b ∷ l) (value_is ends more rest w))
value_is ends text value (escaped {b = b} {text = more} {value = rest} w) =
    ap (λ (l : List ℕ). b ∷ l) (value_is ends more rest w)

stopped_is : (body value : List ℕ) → WritesPassField ends_no_password body value
    → value_from false (body ++ 92 ∷ []) ≡ value
unfolding value_from
stopped_is body value nothing = refl
stopped_is body value (itself {b = b} {text = more} {value = rest} plain inside w) =
    rw plain (ap (λ (l : List ℕ). b ∷ l) (stopped_is more rest w))
stopped_is body value (escaped {b = b} {text = more} {value = rest} w) =
    ap (λ (l : List ℕ). b ∷ l) (stopped_is more rest w)

pub password_same : (text value : List ℕ) → IsPassword text value → value_from false text ≡ value
password_same text value (whole w) = value_is ends_no_password text value w
password_same text value (stopped {body = body} w) = stopped_is body value w

password_more : (b : ℕ) (text value : List ℕ) → (b == 92) ≡ false → IsPassword text value
    → IsPassword (b ∷ text) (b ∷ value)
password_more b text value plain (whole w) = whole (itself plain refl w)
password_more b text value plain (stopped {body = body} w) = stopped {body = b ∷ body} (itself plain refl w)

password_escaped : (b : ℕ) (text value : List ℕ) → IsPassword text value → IsPassword (92 ∷ b ∷ text) (b ∷ value)
password_escaped b text value (whole w) = whole (escaped w)
password_escaped b text value (stopped {body = body} w) = stopped {body = 92 ∷ b ∷ body} (escaped w)

lone_by : (b : ℕ) (s : Bool) → (b == 92) ≡ s → IsPassword (b ∷ []) (value_from false (b ∷ []))
unfolding value_from
lone_by b true e =
    rw e (subst (λ n. IsPassword (n ∷ []) []) (sym (eqb-true b 92 e)) (stopped {body = []} nothing))
lone_by b false e = rw e (password_more b [] [] e (whole nothing))

two_by : (b c : ℕ) (text : List ℕ) (s : Bool) → (b == 92) ≡ s → IsPassword text (value_from false text)
    → IsPassword (c ∷ text) (value_from false (c ∷ text))
    → IsPassword (b ∷ c ∷ text) (value_from false (b ∷ c ∷ text))
unfolding value_from
two_by b c text true e two one =
    rw e (subst (λ n. IsPassword (n ∷ c ∷ text) (c ∷ value_from false text)) (sym (eqb-true b 92 e))
    (password_escaped c text (value_from false text) two))
two_by b c text false e two one =
    let all : value_from false (b ∷ c ∷ text) ≡ b ∷ value_from false (c ∷ text) =
    rw e refl in subst (IsPassword (b ∷ c ∷ text)) (sym all)
    (password_more b (c ∷ text) (value_from false (c ∷ text)) e one)

pub password_is : (text : List ℕ) → IsPassword text (value_from false text)
unfolding value_from
password_is [] = whole nothing
password_is (b ∷ []) = lone_by b (b == 92) refl
password_is (b ∷ c ∷ text) = two_by b c text (b == 92) refl (password_is text) (password_is (c ∷ text))

-- a text without a backslash is its value
plain_by : (b : ℕ) (text : List ℕ) (s t : Bool) → (b == 92) ≡ s → list_any (λ y. y == 92) text ≡ t
    → (t ≡ false → text ≡ value_from false text) → list_any (λ y. y == 92) (b ∷ text) ≡ false
    → b ∷ text ≡ value_from false (b ∷ text)
unfolding value_from
plain_by b text true t e f more none =
    absurd (let x : list_any (λ y. y == 92) (b ∷ text) ≡ true = rw e refl in let y : true ≡ false = sym x
    ∙ none in cc)
plain_by b text false true e f more none =
    absurd (let x : list_any (λ y. y == 92) (b ∷ text) ≡ true = rw (e, f) refl in let y : true ≡ false = sym x
    ∙ none in cc)
plain_by b text false false e f more none = rw e (ap (λ (l : List ℕ). b ∷ l) (more refl))

pub plain : (text : List ℕ) → list_any (λ y. y == 92) text ≡ false → text ≡ value_from false text
unfolding value_from
plain [] none = refl
plain (b ∷ text) none =
    plain_by b text (b == 92) (list_any (λ y. y == 92) text) refl refl (λ f. plain text f) none

-- ---- the colon behind a field

some_more : (a b : ℕ) → a ≡ b → Some a ≡ Some b
some_more a b e = ap (λ n. Some n) e

pub colon_behind : (front rest value : List ℕ) (n : ℕ) → WritesPassField is_colon front value
    → colon_from false n (front ++ 58 ∷ rest) ≡ Some (n + length front)
unfolding colon_from
colon_behind front rest value n nothing = some_more n (n + 0) (omega arith)
colon_behind front rest value n (itself {b = b} {text = more} {value = v} plain inside w) =
    rw (plain, inside) (colon_behind more rest v (n + 1) w
    ∙ some_more (n + 1 + length more) (n + length (b ∷ more)) (omega arith))
colon_behind front rest value n (escaped {b = b} {text = more} {value = v} w) =
    colon_behind more rest v (n + 1 + 1) w
    ∙ some_more (n + 1 + 1 + length more) (n + length (92 ∷ b ∷ more)) (omega arith)

-- what is found, behind some bytes that are passed
record Finds (before : List ℕ) (n : ℕ) (text : List ℕ) (m : ℕ) : Type 0 where
  front : List ℕ
  rest : List ℕ
  cut : text ≡ front ++ 58 ∷ rest
  at : m ≡ n + length front
  writes : WritesPassField is_colon (before ++ front) (value_from false (before ++ front))

finds_escaped : (b n : ℕ) (text : List ℕ) (m : ℕ) → Finds [] (n + 1) text m → Finds (92 ∷ []) n (b ∷ text) m
unfolding value_from
finds_escaped b n text m h =
    record {
      front = b ∷ h.front;
      rest = h.rest;
      cut = ap (λ (l : List ℕ). b ∷ l) h.cut;
      at = omega (arith, h.at);
      writes = escaped h.writes;
    }

finds_backslash : (b n : ℕ) (text : List ℕ) (m : ℕ) → (b == 92) ≡ true → Finds (92 ∷ []) (n + 1) text m
    → Finds [] n (b ∷ text) m
finds_backslash b n text m e h = record {
  front = b ∷ h.front;
  rest = h.rest;
  cut = ap (λ (l : List ℕ). b ∷ l) h.cut;
  at = omega (arith, h.at);
  writes =
      subst (λ c. WritesPassField is_colon (c ∷ h.front) (value_from false (c ∷ h.front))) (sym (eqb-true b 92 e))
      h.writes;
}

finds_plain : (b n : ℕ) (text : List ℕ) (m : ℕ) → (b == 92) ≡ false → (b == 58) ≡ false → Finds [] (n + 1) text m
    → Finds [] n (b ∷ text) m
unfolding value_from
finds_plain b n text m e f h =
    let all : value_from false (b ∷ h.front) ≡ b ∷ value_from false h.front = rw e refl in
    record {
      front = b ∷ h.front;
      rest = h.rest;
      cut = ap (λ (l : List ℕ). b ∷ l) h.cut;
      at = omega (arith, h.at);
      writes = subst (WritesPassField is_colon (b ∷ h.front)) (sym all) (itself e f h.writes);
    }

finds_here : (b n : ℕ) (text : List ℕ) (m : ℕ) → (b == 58) ≡ true → Some n ≡ Some m → Finds [] n (b ∷ text) m
unfolding value_from
finds_here b n text m f e =
    let same : n ≡ m = cc in
    record {
      front = [];
      rest = text;
      cut = ap (λ c. c ∷ text) (eqb-true b 58 f);
      at = omega (arith, same);
      writes
          = nothing;
    }

finds_by : (b n : ℕ) (text : List ℕ) (m : ℕ) (s c : Bool) → (b == 92) ≡ s → (b == 58) ≡ c
    → (colon_from s (n + 1) text ≡ Some m → Finds (cond s (92 ∷ []) []) (n + 1) text m)
    → cond c (Some n) (colon_from s (n + 1) text) ≡ Some m → Finds [] n (b ∷ text) m
finds_by b n text m s true e f more h = finds_here b n text m f h
finds_by b n text m true false e f more h = finds_backslash b n text m e (more h)
finds_by b n text m false false e f more h = finds_plain b n text m e f (more h)

finds : (s : Bool) (n : ℕ) (text : List ℕ) (m : ℕ) → colon_from s n text ≡ Some m
    → Finds (cond s (92 ∷ []) []) n text m
unfolding colon_from
finds true n [] m e = cc
finds false n [] m e = cc
finds true n (b ∷ text) m e = finds_escaped b n text m (finds false (n + 1) text m e)
finds false n (b ∷ text) m e =
    finds_by b n text m (b == 92) (b == 58) refl refl (λ h. finds (b == 92) (n + 1) text m h) e

pub colon_next : (text : List ℕ) (i : ℕ) (s : Bool) (found : Option ℕ) → i < length text
    → is_mark s (get_or text i 0) ≡ false → colon_from s i (drop i text) ≡ found
    → colon_from (is_escape s (get_or text i 0)) (i + 1) (drop (i + 1) text) ≡ found
unfolding colon_from
colon_next text i s found below none so_far =
    let cut : drop i text ≡ get_or text i 0 ∷ drop (i + 1) text = rw add-one (drop-cons text i 0 below) in
    let step : colon_from s i (get_or text i 0 ∷ drop (i + 1) text) ≡ colon_from (is_escape s (get_or text i 0))
    (i + 1) (drop (i + 1) text) = rw none refl in
    sym step ∙ ap (colon_from s i) (sym cut) ∙ so_far

pub colon_here : (text : List ℕ) (i : ℕ) (s : Bool) (found : Option ℕ) → i < length text
    → is_mark s (get_or text i 0) ≡ true → colon_from s i (drop i text) ≡ found → Some i ≡ found
unfolding colon_from
colon_here text i s found below mark so_far =
    let cut : drop i text ≡ get_or text i 0 ∷ drop (i + 1) text = rw add-one (drop-cons text i 0 below) in
    let step : colon_from s i (get_or text i 0 ∷ drop (i + 1) text) ≡ Some i = rw mark refl in
    sym step ∙ ap (colon_from s i) (sym cut) ∙ so_far

-- ---- a field is cut in one way

pub cut_found : (text : List ℕ) (at : ℕ) → colon_from false 0 text ≡ Some at
    → IsCutAtColon text (take at text) (take (length text - (at + 1)) (drop (at + 1) text))
cut_found text at e =
    let h = finds false 0 text at e in
    let is : at ≡ length h.front = omega (arith, h.at) in
    let front : take at text ≡ h.front =
    ap (λ n. take n text) is ∙ ap (take (length h.front)) h.cut ∙ take-append_seam h.front (58 ∷ h.rest) in
    let back : drop (at + 1) text ≡ h.rest =
    ap (λ n. drop (n + 1) text) is ∙ ap (drop (length h.front + 1)) h.cut
    ∙ drop-append-add h.front (58 ∷ h.rest) 1 in
    let all : take (length text - (at + 1)) (drop (at + 1) text) ≡ drop (at + 1) text =
    take_all (length text - (at + 1)) (drop (at + 1) text) (omega (arith, length-drop (at + 1) text)) in
    let found : IsCutAtColon text h.front h.rest = record { cut = h.cut; writes = h.writes } in
    subst (λ (l : List ℕ). IsCutAtColon text l (take (length text - (at + 1)) (drop (at + 1) text))) (sym front)
    (subst (IsCutAtColon text h.front) (sym (all
    ∙ back)) found)

none_found : (m : ℕ) → None ≡ Some m → ⊥
none_found m e = cc

pub not_found : (text : List ℕ) → colon_from false 0 text ≡ None → (written behind value : List ℕ)
    → text ≡ written ++ 58 ∷ behind → WritesPassField is_colon written value → ⊥
not_found text e written behind value is w =
    none_found (0 + length written) (sym e ∙ ap (colon_from false 0) is ∙ colon_behind written behind value 0 w)

pub field_once : (text f r v g s w : List ℕ) → text ≡ f ++ 58 ∷ r → WritesPassField is_colon f v
    → text ≡ g ++ 58 ∷ s → WritesPassField is_colon g w → (f ≡ g) × (r ≡ s)
field_once text f r v g s w a x b y =
    let one : Some (0 + length f) ≡ Some (0 + length g) =
    sym (colon_behind f r v 0 x) ∙ ap (colon_from false 0) (sym a ∙ b) ∙ colon_behind g s w 0 y in
    let places : 0 + length f ≡ 0 + length g = cc in
    let same : length f ≡ length g = omega (arith, places) in
    let fronts : f ≡ g =
    sym (take-append_seam f (58 ∷ r)) ∙ ap (take (length f)) (sym a ∙ b) ∙ ap (λ n. take n (g ++ 58 ∷ s)) same
    ∙ take-append_seam g (58 ∷ s) in
    let backs : r ≡ s =
    sym (drop-append-add f (58 ∷ r) 1) ∙ ap (drop (length f + 1)) (sym a ∙ b)
    ∙ ap (λ n. drop (n + 1) (g ++ 58 ∷ s)) same ∙ drop-append-add g (58 ∷ s) 1 in
    (fronts, backs)

-- ---- fields

pub field_writes : (text : List ℕ) (field : Field) → IsPasswordField text field
    → WritesPassField is_colon text (value_from false text)
unfolding value_from
field_writes text Any h =
    subst (λ (l : List ℕ). WritesPassField is_colon l (value_from false l)) (sym h) (itself refl refl nothing)
field_writes text (Is value) h =
    subst (WritesPassField is_colon text) (sym (value_is is_colon text value h.1)) h.1

same_by : (text : List ℕ) (field : Field) (s : Bool) → bytes_eq text (codes "*") ≡ s → IsPasswordField text field
    → cond s Any (Is (value_from false text)) ≡ field
same_by text Any true e h = refl
same_by text Any false e h =
    let is = (bytes_eq-Decides text (codes "*")).1 h in let both : true ≡ false = sym is ∙ e in absurd (cc)
same_by text (Is value) true e h = absurd (h.0 ((bytes_eq-Decides text (codes "*")).0 e))
same_by text (Is value) false e h = ap (λ (l : List ℕ). Is l) (value_is is_colon text value h.1)

pub field_same : (text : List ℕ) (field : Field) → IsPasswordField text field → password_field text ≡ field
field_same text field h = same_by text field (bytes_eq text (codes "*")) refl h

is_by : (text : List ℕ) (s : Bool) → bytes_eq text (codes "*") ≡ s
    → WritesPassField is_colon text (value_from false text)
    → IsPasswordField text (cond s Any (Is (value_from false text)))
is_by text true e w = (bytes_eq-Decides text (codes "*")).0 e
is_by text false e w =
    (λ is. let yes = (bytes_eq-Decides text (codes "*")).1 is in let both : true ≡ false = sym yes ∙ e in cc, w)

pub field_is : (text : List ℕ) → WritesPassField is_colon text (value_from false text)
    → IsPasswordField text (password_field text)
field_is text w = is_by text (bytes_eq text (codes "*")) refl w
