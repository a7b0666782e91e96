-- What a reader finds at the front of a text is what the grammar says of it.
use Rattle.std.proofs.Common.{◌≡◌, ℕ, ◌+◌, ◌<◌, ◌==◌, Bool, true, false, not, ◌||◌, ltb, List, [], ◌∷◌, ◌++◌, length, take, drop, Option, Some, None, refl, sym, ap, subst, ◌∙◌, arith, if◌then◌else◌}
use Rattle.std.specs.List.{list_all, position, position_or_len, flat_map, slice_index}
use Rattle.std.specs.Char.{is_whitespace, encode_utf8}
use Rattle.std.proofs.lemmas.Bool.{lt-ltb, and_parts}
use Rattle.std.proofs.lemmas.Bool.Decides.{nat_tests}
use Rattle.std.proofs.lemmas.List.{append_assoc, append-nil, length-append}
use Rattle.std.proofs.Math.Seq.{take-append_seam, drop-append_seam, drop-append-add}
use Rattle.pgw_config_text.specs.Reader.{from, behind_blank, key_at, behind_key, behind_text, conninfo_value, Nothing, Faulty, Pair, quoted_by, bare_by, with_value_at, with_key_at, from_key, conninfo_front}
use Rattle.pgw_config_text.specs.KeyValue.{IsBlank, ends_key, IsConninfoKey, ends_value, WritesKeyValue, nothing, itself, escaped, IsConninfoValue, quoted, bare, last, stopped, IsKeyValuePair}

-- ---- the first place where a test passes

first_here : (p : ℕ → Bool) (front : List ℕ) (c : ℕ) (rest : List ℕ) → list_all (λ c. not (p c)) front ≡ true
    → p c ≡ true → position_or_len p (front ++ c ∷ rest) ≡ length front
first_here p [] c rest none hit = rw hit refl
first_here p (x ∷ front) c rest none hit =
    let q = and_parts (not (p x)) (list_all (λ c. not (p c)) front) none in
    rw (q.0, first_here p front c rest q.1 hit) (omega arith)

first_nowhere : (p : ℕ → Bool) (text : List ℕ) → list_all (λ c. not (p c)) text ≡ true
    → position_or_len p text ≡ length text
first_nowhere p [] none = refl
first_nowhere p (x ∷ text) none =
    let q = and_parts (not (p x)) (list_all (λ c. not (p c)) text) none in
    rw (q.0, first_nowhere p text q.1) (omega arith)

position_here : (p : ℕ → Bool) (front : List ℕ) (c : ℕ) (rest : List ℕ) → list_all (λ c. not (p c)) front ≡ true
    → p c ≡ true → position p (front ++ c ∷ rest) ≡ Some (length front)
position_here p front c rest none hit =
    let less : length front < length (front ++ c ∷ rest) = omega (arith, length-append front (c ∷ rest)) in
    let within : ltb (length front) (length (front ++ c ∷ rest)) ≡ true = lt-ltb _ _ less in
    rw (first_here p front c rest none hit, within) refl

position_nowhere : (p : ℕ → Bool) (text : List ℕ) → list_all (λ c. not (p c)) text ≡ true → position p text ≡ None
position_nowhere p text none =
    let within : ltb (length text) (length text) ≡ false = grind (arith, nat_tests) in
    rw (first_nowhere p text none, within) refl

-- a text has no place where the test passes, or a first one
pub data Parts : (ℕ → Bool) → List ℕ → Type 0 where
  nowhere : {p : ℕ → Bool} {text : List ℕ} → list_all (λ c. not (p c)) text ≡ true → Parts p text
  here : {p : ℕ → Bool} {text : List ℕ} (front : List ℕ) (c : ℕ) (rest : List ℕ) → text ≡ front ++ c ∷ rest
      → list_all (λ c. not (p c)) front ≡ true → p c ≡ true → Parts p text

parts_by : (p : ℕ → Bool) (x : ℕ) (text : List ℕ) (b : Bool) → p x ≡ b → Parts p text → Parts p (x ∷ text)
parts_by p x text true e more = here [] x text refl refl e
parts_by p x text false e (nowhere none) = nowhere (rw (e, none) refl)
parts_by p x text false e (here front c rest is none hit) =
    here (x ∷ front) c rest (ap (λ (l : List ℕ). x ∷ l) is) (rw (e, none) refl) hit

pub parts : (p : ℕ → Bool) (text : List ℕ) → Parts p text
parts p [] = nowhere refl
parts p (x ∷ text) = parts_by p x text (p x) refl (parts p text)

-- a double negation
all_not_not : (text : List ℕ) → list_all (λ c. not (not (is_whitespace c))) text ≡ true
    → list_all is_whitespace text ≡ true
all_not_not [] h = refl
all_not_not (x ∷ text) h =
    let q = and_parts (not (not (is_whitespace x))) (list_all (λ c. not (not (is_whitespace c))) text) h in
    rw (not_not (is_whitespace x) q.0, all_not_not text q.1) refl
  where
    not_not : (b : Bool) → not (not b) ≡ true → b ≡ true
    not_not true e = refl
    not_not false e = e

not_not_all : (text : List ℕ) → list_all is_whitespace text ≡ true
    → list_all (λ c. not (not (is_whitespace c))) text ≡ true
not_not_all [] h = refl
not_not_all (x ∷ text) h =
    let q = and_parts (is_whitespace x) (list_all is_whitespace text) h in
    rw (q.0, not_not_all text q.1) refl

-- ---- white space and keys at the front

not_false : (b : Bool) → b ≡ false → not b ≡ true
not_false b e = rw e refl

-- what stands behind the white space, and that white space
blank_by : (text : List ℕ) → Parts (λ c. not (is_whitespace c)) text
    → (blank : List ℕ) × IsBlank blank × (text ≡ blank ++ behind_blank text)
unfolding behind_blank
blank_by text (nowhere none) = (
  text,
  all_not_not text none,
  rw (position_nowhere (λ c. not (is_whitespace c)) text none)
      (sym (append-nil text)),
)
blank_by text (here front c rest is none hit) =
    let at : position (λ c. not (is_whitespace c)) text ≡ Some (length front) =
    ap (position (λ c. not (is_whitespace c))) is
    ∙ position_here (λ c. not (is_whitespace c)) front c rest none hit in (
      front,
      all_not_not front none,
      rw (at, is)
          (ap (λ (l : List ℕ). front ++ l) (sym (drop-append_seam front (c ∷ rest)))),
    )

blank_cut : (text : List ℕ) → (blank : List ℕ) × IsBlank blank × (text ≡ blank ++ behind_blank text)
blank_cut text = blank_by text (parts (λ c. not (is_whitespace c)) text)

behind_blank_of : (blank : List ℕ) (c : ℕ) (rest : List ℕ) → IsBlank blank → is_whitespace c ≡ false
    → behind_blank (blank ++ c ∷ rest) ≡ c ∷ rest
unfolding behind_blank
behind_blank_of blank c rest all not_blank =
    rw (position_here (λ c. not (is_whitespace c)) blank c rest (not_not_all blank all)
    (not_false (is_whitespace c) not_blank)) (drop-append_seam blank (c ∷ rest))

behind_all_blank : (blank : List ℕ) → IsBlank blank → behind_blank blank ≡ []
unfolding behind_blank
behind_all_blank blank all = rw (position_nowhere (λ c. not (is_whitespace c)) blank (not_not_all blank all)) refl

-- a key and what stands behind it
key_by : (text : List ℕ) → Parts ends_key text
    → (list_all (λ c. not (ends_key c)) (key_at text) ≡ true) × (text ≡ key_at text ++ behind_key text)
unfolding key_at behind_key
key_by text (nowhere none) = (
  rw (position_nowhere ends_key text none) none,
  rw (position_nowhere ends_key text none)
      (sym (append-nil text)),
)
key_by text (here front c rest is none hit) =
    let at : position ends_key text ≡ Some (length front) =
    ap (position ends_key) is ∙ position_here ends_key front c rest none hit in
    let name : take (length front) text ≡ front =
    ap (take (length front)) is ∙ take-append_seam front (c ∷ rest) in
    let back : drop (length front) text ≡ c ∷ rest =
    ap (drop (length front)) is ∙ drop-append_seam front (c ∷ rest) in
    (rw (at, name) none, rw (at, name, back) is)

key_cut : (text : List ℕ)
    → (list_all (λ c. not (ends_key c)) (key_at text) ≡ true) × (text ≡ key_at text ++ behind_key text)
key_cut text = key_by text (parts ends_key text)

key_of : (name : List ℕ) (c : ℕ) (rest : List ℕ) → list_all (λ c. not (ends_key c)) name ≡ true
    → ends_key c ≡ true → (key_at (name ++ c ∷ rest) ≡ name) × (behind_key (name ++ c ∷ rest) ≡ c ∷ rest)
unfolding key_at behind_key
key_of name c rest none hit =
    let at = position_here ends_key name c rest none hit in
    (rw at (take-append_seam name (c ∷ rest)), rw at (drop-append_seam name (c ∷ rest)))

-- ---- values

longer : (a b : List ℕ) (r : List ℕ × Option ℕ) → behind_text a (behind_text b r) ≡ behind_text (a ++ b) r
longer a b r = ap (λ (l : List ℕ). (l, r.1)) (sym (append_assoc a b r.0))

-- what is read of a value: it goes on to the end, where a backslash may stand for nothing, or up to what ends it
pub data Reading : (ℕ → Bool) → ℕ → List ℕ → List ℕ × Option ℕ → Type 0 where
  goes_on : {ends : ℕ → Bool} {n : ℕ} {text value : List ℕ} → WritesKeyValue ends text value
      → Reading ends n text (value, None)
  cut_off : {ends : ℕ → Bool} {n : ℕ} {text value : List ℕ} (body : List ℕ) → text ≡ body ++ 92 ∷ []
      → WritesKeyValue ends body value → Reading ends n text (value, None)
  closed : {ends : ℕ → Bool} {n m : ℕ} {text value : List ℕ} (body : List ℕ) (c : ℕ) (rest : List ℕ)
      → text ≡ body ++ c ∷ rest → (c == 92) ≡ false → ends c ≡ true → WritesKeyValue ends body value
      → m ≡ n + length body → Reading ends n text (value, Some m)

one_more : (ends : ℕ → Bool) (n : ℕ) (c : ℕ) (text : List ℕ) (r : List ℕ × Option ℕ) → (c == 92) ≡ false
    → ends c ≡ false → Reading ends (n + 1) text r → Reading ends n (c ∷ text) (behind_text (encode_utf8 c) r)
one_more ends n c text r plain inside (goes_on w) = goes_on (itself plain inside w)
one_more ends n c text r plain inside (cut_off body is w) =
    cut_off (c ∷ body) (ap (λ (l : List ℕ). c ∷ l) is) (itself plain inside w)
one_more ends n c text r plain inside (closed body d rest is f hit w m) =
    closed (c ∷ body) d rest (ap (λ (l : List ℕ). c ∷ l) is) f hit (itself plain inside w) (omega (arith, m))

two_more : (ends : ℕ → Bool) (n : ℕ) (c : ℕ) (text : List ℕ) (r : List ℕ × Option ℕ)
    → Reading ends (n + 1 + 1) text r → Reading ends n (92 ∷ c ∷ text) (behind_text (encode_utf8 c) r)
two_more ends n c text r (goes_on w) = goes_on (escaped w)
two_more ends n c text r (cut_off body is w) =
    cut_off (92 ∷ c ∷ body) (ap (λ (l : List ℕ). 92 ∷ c ∷ l) is) (escaped w)
two_more ends n c text r (closed body d rest is f hit w m) =
    closed (92 ∷ c ∷ body) d rest (ap (λ (l : List ℕ). 92 ∷ c ∷ l) is) f hit (escaped w) (omega (arith, m))

eq_of : (c : ℕ) (n : ℕ) → (c == n) ≡ true → c ≡ n
eq_of c n e = grind (arith, nat_tests, e)

closed_here : (ends : ℕ → Bool) (n : ℕ) (c : ℕ) (rest : List ℕ) → (c == 92) ≡ false → ends c ≡ true
    → Reading ends n (c ∷ rest) ([], Some n)
closed_here ends n c rest e f =
    let at : n ≡ n + length {A = ℕ} [] = omega arith in
    closed [] c rest refl e f nothing at

reading_last : (ends : ℕ → Bool) (n : ℕ) (c : ℕ) (slash over : Bool) → (c == 92) ≡ slash → ends c ≡ over
    → Reading ends n (c ∷ []) (conninfo_value ends false n (c ∷ []))
unfolding conninfo_value
reading_last ends n c true over e f = rw e (cut_off [] (ap (λ (x : ℕ). x ∷ []) (eq_of c 92 e)) nothing)
reading_last ends n c false true e f = rw (e, f) (closed_here ends n c [] e f)
reading_last ends n c false false e f =
    rw (e, f) (one_more ends n c [] (conninfo_value ends false (n + 1) []) e f (goes_on nothing))

reading_by : (ends : ℕ → Bool) (n : ℕ) (c d : ℕ) (text : List ℕ) (slash over : Bool) → (c == 92) ≡ slash
    → ends c ≡ over
    → Reading ends (n + 1) (d ∷ text) (conninfo_value ends false (n + 1) (d ∷ text))
    → Reading ends (n + 1 + 1) text (conninfo_value ends false (n + 1 + 1) text)
    → Reading ends n (c ∷ d ∷ text) (conninfo_value ends false n (c ∷ d ∷ text))
unfolding conninfo_value
reading_by ends n c d text true over e f one two =
    rw e (subst (λ (x : ℕ). Reading ends n (x ∷ d ∷ text)
    (behind_text (encode_utf8 d) (conninfo_value ends false (n + 1 + 1) text))) (sym (eq_of c 92 e))
    (two_more ends n d text (conninfo_value ends false (n + 1 + 1) text) two))
reading_by ends n c d text false true e f one two = rw (e, f) (closed_here ends n c (d ∷ text) e f)
reading_by ends n c d text false false e f one two =
    rw (e, f) (one_more ends n c (d ∷ text) (conninfo_value ends false (n + 1) (d ∷ text)) e f one)

pub reading : (ends : ℕ → Bool) (n : ℕ) (text : List ℕ) → Reading ends n text (conninfo_value ends false n text)
unfolding conninfo_value
reading ends n [] = goes_on nothing
reading ends n (c ∷ []) = reading_last ends n c (c == 92) (ends c) refl refl
reading ends n (c ∷ d ∷ text) =
    reading_by ends n c d text (c == 92) (ends c) refl refl (reading ends (n + 1) (d ∷ text))
    (reading ends (n + 1 + 1) text)

-- characters that write a value are read as it
read_back : (ends : ℕ → Bool) (body value more : List ℕ) → WritesKeyValue ends body value → (n : ℕ)
    → conninfo_value ends false n (body ++ more) ≡ behind_text value
    (conninfo_value ends false (n + length body) more)
unfolding conninfo_value
read_back ends [] value more nothing n = rw (plus_none n) refl
  where
    plus_none : (n : ℕ) → n + length {A = ℕ} [] ≡ n
    plus_none n = omega arith
read_back ends (c ∷ cs) whole more (itself {value = value} e f w) n =
    let at : n + 1 + length cs ≡ n + length (c ∷ cs) = omega arith in
    let again = read_back ends cs value more w (n + 1) in
    rw (e, f, again, at) (longer (encode_utf8 c) value (conninfo_value ends false (n + length (c ∷ cs)) more))
read_back ends (b ∷ c ∷ cs) whole more (escaped {value = value} w) n =
    let at : n + 1 + 1 + length cs ≡ n + length (92 ∷ c ∷ cs) = omega arith in
    let again = read_back ends cs value more w (n + 1 + 1) in
    rw (again, at) (longer (encode_utf8 c) value (conninfo_value ends false (n + length (92 ∷ c ∷ cs)) more))

-- ---- a value at the front

first_is : (n : ℕ) (text : List ℕ) → (0 == n) ≡ false → (slice_index text 0 == n) ≡ true → text ≡ n ∷ drop 1 text
first_is n [] e h = cc
first_is n (x ∷ text) e h = ap (λ (y : ℕ). y ∷ text) (eq_of x n h)

quoted_sound : (k key text inner value rest : List ℕ) (r : List ℕ × Option ℕ) → text ≡ 39 ∷ inner
    → Reading (ends_value true) 0 inner r → quoted_by k inner r ≡ Pair key value rest
    → (key ≡ k) × IsConninfoValue text value rest
quoted_sound k key text inner value rest r is (goes_on w) e = cc
quoted_sound k key text inner value rest r is (cut_off body cut w) e = cc
quoted_sound k key text inner value rest r is (closed {m = m} {value = v} body c behind cut f hit w at) e =
    let quote : c ≡ 39 = eq_of c 39 hit in
    let one : key ≡ k = cc in
    let two : v ≡ value = cc in
    let three : drop (m + 1) inner ≡ rest = cc in
    let place : m + 1 ≡ length body + 1 = omega (arith, at) in
    let four : behind ≡ rest =
    sym (drop-append-add body (c ∷ behind) 1) ∙ ap (drop (length body + 1)) (sym cut)
    ∙ ap (λ (n : ℕ). drop n inner) (sym place) ∙ three in (
      one,
      quoted (is
          ∙ ap (λ (l : List ℕ). 39 ∷ l) (cut
          ∙ rw (quote, four) refl)) (subst (λ (v : List ℕ). WritesKeyValue (ends_value true) body v) two w),
    )

bare_sound_by : (k key text value rest : List ℕ) (r : List ℕ × Option ℕ) (b : Bool) → (length r.0 == 0) ≡ b
    → (slice_index text 0 == 39) ≡ false → Reading (ends_value false) 0 text r
    → (if b then Faulty else Pair k r.0 (from r.1 text)) ≡ Pair key value rest
    → (key ≡ k) × IsConninfoValue text value rest
bare_sound_by k key text value rest r true some first read e = cc
bare_sound_by k key text value rest r false some first (goes_on {value = v} w) e =
    let one : key ≡ k = cc in
    let two : v ≡ value = cc in
    let three : [] ≡ rest = cc in (
      one,
      subst (λ (l : List ℕ). IsConninfoValue text value l) three
          (subst (λ (v : List ℕ). IsConninfoValue text v []) two (last w (first, some))),
    )
bare_sound_by k key text value rest r false some first (cut_off {value = v} body cut w) e =
    let one : key ≡ k = cc in
    let two : v ≡ value = cc in
    let three : [] ≡ rest = cc in (
      one,
      subst (λ (l : List ℕ). IsConninfoValue text value l) three
          (subst (λ (v : List ℕ). IsConninfoValue text v []) two (stopped cut w (first, some))),
    )
bare_sound_by k key text value rest r false some first (closed {m = m} {value = v} body c behind cut f hit w at) e =
    let one : key ≡ k = cc in
    let two : v ≡ value = cc in
    let three : drop m text ≡ rest = cc in
    let place : m ≡ length body = omega (arith, at) in
    let four : c ∷ behind ≡ rest =
    sym (drop-append_seam body (c ∷ behind)) ∙ ap (drop (length body)) (sym cut)
    ∙ ap (λ (n : ℕ). drop n text) (sym place) ∙ three in (
      one,
      subst (λ (l : List ℕ). IsConninfoValue text value l) four
          (subst (λ (v : List ℕ). IsConninfoValue text v (c ∷ behind)) two (bare cut hit w (first, some))),
    )

value_sound_by : (k key text value rest : List ℕ) (b : Bool) → (slice_index text 0 == 39) ≡ b
    → (if b then quoted_by k (drop 1 text) (conninfo_value (ends_value true) false 0 (drop 1 text)) else bare_by k
    text (conninfo_value (ends_value false) false 0 text)) ≡ Pair key value rest
    → (key ≡ k) × IsConninfoValue text value rest
value_sound_by k key text value rest true first e =
    quoted_sound k key text (drop 1 text) value rest (conninfo_value (ends_value true) false 0 (drop 1 text))
    (first_is 39 text refl first) (reading (ends_value true) 0 (drop 1 text)) e
value_sound_by k key text value rest false first e =
    let r = conninfo_value (ends_value false) false 0 text in
    bare_sound_by k key text value rest r (length r.0 == 0) refl first (reading (ends_value false) 0 text) e

value_sound : (k key text value rest : List ℕ) → with_value_at k text ≡ Pair key value rest
    → (key ≡ k) × IsConninfoValue text value rest
value_sound k key text value rest e = value_sound_by k key text value rest (slice_index text 0 == 39) refl e

-- a value is not empty, and begins with no white space
is_one : (c : ℕ) (text : List ℕ) → is_whitespace c ≡ false
    → (d : ℕ) × (rest : List ℕ) × (c ∷ text ≡ d ∷ rest) × (is_whitespace d ≡ false)
is_one c text e = (c, text, refl, e)

writes_head : (body value more : List ℕ) → WritesKeyValue (ends_value false) body value
    → (length value == 0) ≡ false
    → (d : ℕ) × (rest : List ℕ) × (body ++ more ≡ d ∷ rest) × (is_whitespace d ≡ false)
writes_head [] value more nothing some = absurd (grind (arith, nat_tests, some))
writes_head (c ∷ cs) value more (itself e f w) some = is_one c (cs ++ more) f
writes_head (b ∷ c ∷ cs) value more (escaped w) some = is_one 92 (c ∷ cs ++ more) refl

value_head : (text value rest : List ℕ) → IsConninfoValue text value rest
    → (d : ℕ) × (more : List ℕ) × (text ≡ d ∷ more) × (is_whitespace d ≡ false)
value_head text value rest (quoted {body = body} is w) = (39, body ++ 39 ∷ rest, is, refl)
value_head text value rest (bare {c = c} {body = body} {rest = more} is hit w (first, some)) =
    let h = writes_head body value (c ∷ more) w some in (h.0, h.1, is ∙ h.2, h.3)
value_head text value rest (last w (first, some)) =
    let h = writes_head text value [] w some in (h.0, h.1, sym (append-nil text) ∙ h.2, h.3)
value_head text value rest (stopped {body = body} is w (first, some)) =
    let h = writes_head body value (92 ∷ []) w some in (h.0, h.1, is ∙ h.2, h.3)

quoted_complete : (k body value rest : List ℕ) → WritesKeyValue (ends_value true) body value
    → quoted_by k (body ++ 39 ∷ rest) (conninfo_value (ends_value true) false 0 (body ++ 39 ∷ rest)) ≡ Pair k
    value rest
unfolding conninfo_value
quoted_complete k body value rest w =
    let place : 0 + length body + 1 ≡ length body + 1 = omega arith in
    rw (
      read_back (ends_value true) body value (39 ∷ rest) w 0,
      place,
      drop-append-add body (39 ∷ rest) 1,
      append-nil value,
    ) refl

slash_is_not : (c : ℕ) → is_whitespace c ≡ true → (b : Bool) → (c == 92) ≡ b → (c == 92) ≡ false
slash_is_not c blank true e = absurd (no (subst (λ (x : ℕ). is_whitespace x ≡ true) (eq_of c 92 e) blank))
  where
    no : is_whitespace 92 ≡ true → ⊥
    no h = cc
slash_is_not c blank false e = e

bare_complete : (k text body value rest : List ℕ) (c : ℕ) → text ≡ body ++ c ∷ rest → is_whitespace c ≡ true
    → WritesKeyValue (ends_value false) body value → (length value == 0) ≡ false
    → bare_by k text (conninfo_value (ends_value false) false 0 text) ≡ Pair k value (c ∷ rest)
unfolding conninfo_value
bare_complete k text body value rest c is blank w some =
    let place : 0 + length body ≡ length body = omega arith in
    rw (
      is,
      read_back (ends_value false) body value (c ∷ rest) w 0,
      slash_is_not c blank (c == 92) refl,
      blank,
      place,
      append-nil value,
      some,
      drop-append_seam body (c ∷ rest),
    ) refl

last_complete : (k text value : List ℕ) → WritesKeyValue (ends_value false) text value
    → (length value == 0) ≡ false
    → bare_by k text (conninfo_value (ends_value false) false 0 text) ≡ Pair k value []
unfolding conninfo_value
last_complete k text value w some =
    let all : conninfo_value (ends_value false) false 0 text ≡ (value ++ [], None) =
    ap (conninfo_value (ends_value false) false 0) (sym (append-nil text))
    ∙ read_back (ends_value false) text value [] w 0 in
    rw (all, append-nil value, some) refl

stopped_complete : (k text body value : List ℕ) → text ≡ body ++ 92 ∷ []
    → WritesKeyValue (ends_value false) body value → (length value == 0) ≡ false
    → bare_by k text (conninfo_value (ends_value false) false 0 text) ≡ Pair k value []
unfolding conninfo_value
stopped_complete k text body value is w some =
    rw (is, read_back (ends_value false) body value (92 ∷ []) w 0, append-nil value, some) refl

value_complete : (k text value rest : List ℕ) → IsConninfoValue text value rest
    → with_value_at k text ≡ Pair k value rest
value_complete k text value rest (quoted {body = body} is w) = rw is (quoted_complete k body value rest w)
value_complete k text value rest (bare {c = c} {body = body} {rest = more} is hit w (first, some)) =
    rw first (bare_complete k text body value more c is hit w some)
value_complete k text value rest (last w (first, some)) = rw first (last_complete k text value w some)
value_complete k text value rest (stopped {body = body} is w (first, some)) =
    rw first (stopped_complete k text body value is w some)

-- ---- a pair at the front

-- what stands behind a key, where a pair does
pub record KeyCut (name text key value rest : List ℕ) : Type 0 where
  pub third : List ℕ
  pub written : List ℕ
  pub third_blank : IsBlank third
  pub cut : text ≡ 61 ∷ (third ++ written)
  pub some : 0 < length name
  pub says_key : key ≡ flat_map encode_utf8 name
  pub says_value : IsConninfoValue written value rest

key_sound_by : (name text key value rest : List ℕ) (a b : Bool) → (length name == 0) ≡ a
    → (slice_index text 0 == 61) ≡ b
    → (if a || not b then Faulty else with_value_at (flat_map encode_utf8 name) (behind_blank (drop 1 text))) ≡
    Pair key value rest
    → KeyCut name text key value rest
key_sound_by name text key value rest true b empty sign e = cc
key_sound_by name text key value rest false false empty sign e = cc
key_sound_by name text key value rest false true empty sign e =
    let v = value_sound (flat_map encode_utf8 name) key (behind_blank (drop 1 text)) value rest e in
    let w = blank_cut (drop 1 text) in
    record {
      third = w.0;
      written = behind_blank (drop 1 text);
      third_blank = w.1;
      cut = first_is 61 text refl sign ∙ ap (λ (l : List ℕ). 61 ∷ l) w.2;
      some = grind (arith, nat_tests, empty);
      says_key = v.0;
      says_value = v.1;
    }

pair_sound_by : (text behind key value rest : List ℕ) (b : Bool)
    → (first : List ℕ) × IsBlank first × (text ≡ first ++ behind) → (length behind == 0) ≡ b
    → (if b then Nothing else with_key_at (key_at behind) (behind_blank (behind_key behind))) ≡ Pair key value
    rest
    → IsKeyValuePair text key value rest
pair_sound_by text behind key value rest true front none e = cc
pair_sound_by text behind key value rest false front none e =
    let name = key_at behind in
    let k = key_cut behind in
    let s = blank_cut (behind_key behind) in
    let c =
    key_sound_by name (behind_blank (behind_key behind)) key value rest (length name == 0)
    (slice_index (behind_blank (behind_key behind)) 0 == 61) refl refl e in
    record {
      first = front.0;
      name = name;
      second = s.0;
      third = c.third;
      written = c.written;
      cut = front.2
          ∙ ap (λ (l : List ℕ). front.0 ++ l) (k.1
          ∙ ap (λ (l : List ℕ). name ++ l) (s.2 ∙ ap (λ (l : List ℕ). s.0 ++ l) c.cut));
      first_blank = front.1;
      second_blank = s.1;
      third_blank = c.third_blank;
      is_key = (c.some, k.0);
      says_key = c.says_key;
      says_value = c.says_value;
    }

pub pair_sound : (text key value rest : List ℕ) → conninfo_front text ≡ Pair key value rest
    → IsKeyValuePair text key value rest
unfolding conninfo_front
pair_sound text key value rest e =
    pair_sound_by text (behind_blank text) key value rest (length (behind_blank text) == 0) (blank_cut text) refl
    e

-- where nothing is found, nothing but white space is there
no_nothing_bare : (k text : List ℕ) (r : List ℕ × Option ℕ) (b : Bool)
    → (if b then Faulty else Pair k r.0 (from r.1 text)) ≡ Nothing → ⊥
no_nothing_bare k text r true e = cc
no_nothing_bare k text r false e = cc

no_nothing_quoted : (k text : List ℕ) (r : List ℕ × Option ℕ) → quoted_by k text r ≡ Nothing → ⊥
no_nothing_quoted k text (v, None) e = cc
no_nothing_quoted k text (v, Some n) e = cc

no_nothing_value : (k text : List ℕ) (b : Bool)
    → (if b then quoted_by k (drop 1 text) (conninfo_value (ends_value true) false 0 (drop 1 text)) else bare_by k
    text (conninfo_value (ends_value false) false 0 text)) ≡ Nothing → ⊥
no_nothing_value k text true e =
    no_nothing_quoted k (drop 1 text) (conninfo_value (ends_value true) false 0 (drop 1 text)) e
no_nothing_value k text false e =
    let r = conninfo_value (ends_value false) false 0 text in no_nothing_bare k text r (length r.0 == 0) e

no_nothing_key : (name text : List ℕ) (b : Bool)
    → (if b then Faulty else with_value_at (flat_map encode_utf8 name) (behind_blank (drop 1 text))) ≡ Nothing → ⊥
no_nothing_key name text true e = cc
no_nothing_key name text false e =
    let t = behind_blank (drop 1 text) in no_nothing_value (flat_map encode_utf8 name) t (slice_index t 0 == 39) e

pub is_empty : (text : List ℕ) → (length text == 0) ≡ true → text ≡ []
is_empty [] e = refl
is_empty (x ∷ text) e = absurd (grind (arith, nat_tests, e))

blank_sound_by : (text behind : List ℕ) (b : Bool) → (first : List ℕ) × IsBlank first × (text ≡ first ++ behind)
    → (length behind == 0) ≡ b
    → (if b then Nothing else with_key_at (key_at behind) (behind_blank (behind_key behind))) ≡ Nothing
    → IsBlank text
blank_sound_by text behind true front none e =
    subst IsBlank (sym (front.2 ∙ ap (λ (l : List ℕ). front.0 ++ l) (is_empty behind none)
    ∙ append-nil front.0)) front.1
blank_sound_by text behind false front none e =
    let t = behind_blank (behind_key behind) in
    absurd (no_nothing_key (key_at behind) t (length (key_at behind) == 0 || not (slice_index t 0 == 61)) e)

pub blank_sound : (text : List ℕ) → conninfo_front text ≡ Nothing → IsBlank text
unfolding conninfo_front
blank_sound text e =
    blank_sound_by text (behind_blank text) (length (behind_blank text) == 0) (blank_cut text) refl e

-- and the other way round
pub blank_complete : (text : List ℕ) → IsBlank text → conninfo_front text ≡ Nothing
unfolding conninfo_front
blank_complete text all = rw (behind_all_blank text all) refl

key_ends : (second rest : List ℕ) → IsBlank second
    → (c : ℕ) × (more : List ℕ) × (second ++ 61 ∷ rest ≡ c ∷ more) × (ends_key c ≡ true)
key_ends [] rest blank = (61, rest, refl, refl)
key_ends (c ∷ second) rest blank =
    let q =
    and_parts (is_whitespace c) (list_all is_whitespace second) blank in
    (c, second ++ 61 ∷ rest, refl, rw q.0 refl)

no_blank : (c : ℕ) (a b : Bool) → is_whitespace c ≡ a → (c == 61) ≡ b → not (a || b) ≡ true
    → is_whitespace c ≡ false
no_blank c true b e f h = cc
no_blank c false b e f h = e

key_head : (name rest : List ℕ) → IsConninfoKey name
    → (c : ℕ) × (more : List ℕ) × (name ++ rest ≡ c ∷ more) × (is_whitespace c ≡ false)
key_head [] rest (some, none) = absurd (omega (arith, some))
key_head (c ∷ name) rest (some, none) =
    let q = and_parts (not (ends_key c)) (list_all (λ c. not (ends_key c)) name) none in
    (c, name ++ rest, refl, no_blank c (is_whitespace c) (c == 61) refl refl q.0)

-- white space in front of what begins with none
behind_blank_at : (blank text : List ℕ) → IsBlank blank
    → (c : ℕ) × (more : List ℕ) × (text ≡ c ∷ more) × (is_whitespace c ≡ false)
    → behind_blank (blank ++ text) ≡ text
behind_blank_at blank text all head =
    ap (λ (l : List ℕ). behind_blank (blank ++ l)) head.2 ∙ behind_blank_of blank head.0 head.1 all head.3
    ∙ sym head.2

key_at_of : (name second rest : List ℕ) → IsConninfoKey name → IsBlank second
    → (key_at (name ++ (second ++ 61 ∷ rest)) ≡ name)
    × (behind_key (name ++ (second ++ 61 ∷ rest)) ≡ second ++ 61 ∷ rest)
key_at_of name second rest is_key blank =
    let h = key_ends second rest blank in
    let k = key_of name h.0 h.1 is_key.1 h.3 in
    let same : name ++ (second ++ 61 ∷ rest) ≡ name ++ h.0 ∷ h.1 = ap (λ (l : List ℕ). name ++ l) h.2 in
    (ap key_at same ∙ k.0, ap behind_key same ∙ k.1 ∙ sym h.2)

key_complete : (name third written key value rest : List ℕ) → IsConninfoKey name → IsBlank third
    → IsConninfoValue written value rest → key ≡ flat_map encode_utf8 name
    → with_key_at name (61 ∷ (third ++ written)) ≡ Pair key value rest
key_complete name third written key value rest is_key blank v says =
    let some : (length name == 0) ≡ false = grind (arith, nat_tests, is_key.0) in
    rw (some, behind_blank_at third written blank (value_head written value rest v), says)
    (value_complete (flat_map encode_utf8 name) written value rest v)

from_key_at : (text : List ℕ) → (c : ℕ) × (more : List ℕ) × (text ≡ c ∷ more) × (is_whitespace c ≡ false)
    → from_key text ≡ with_key_at (key_at text) (behind_blank (behind_key text))
from_key_at text head =
    let some : (length text == 0) ≡ false = grind (arith, nat_tests, ap length head.2) in
    rw some refl

pub pair_complete : (text key value rest : List ℕ) → IsKeyValuePair text key value rest
    → conninfo_front text ≡ Pair key value rest
unfolding conninfo_front
pair_complete text key value rest p =
    let behind = 61 ∷ (p.third ++ p.written) in
    let all = p.name ++ (p.second ++ behind) in
    let head = key_head p.name (p.second ++ behind) p.is_key in
    let skipped : behind_blank text ≡ all =
    ap behind_blank p.cut ∙ behind_blank_at p.first all p.first_blank head in
    let k = key_at_of p.name p.second (p.third ++ p.written) p.is_key p.second_blank in
    let sign : behind_blank (behind_key all) ≡ behind =
    ap behind_blank k.1
    ∙ behind_blank_at p.second behind p.second_blank (61, p.third ++ p.written, refl, refl) in
    ap from_key skipped ∙ from_key_at all head
    ∙ ap (λ (l : List ℕ). with_key_at l (behind_blank (behind_key all))) k.0 ∙ ap (with_key_at p.name) sign
    ∙ key_complete p.name p.third p.written key value rest p.is_key p.third_blank p.says_value p.says_key
