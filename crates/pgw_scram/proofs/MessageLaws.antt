-- A message is read just where it has its form, and its parts are found in one way.
use Rattle.std.proofs.Common.{◌≡◌, ℕ, ◌<◌, ◌==◌, ◌||◌, Bool, true, false, List, [], ◌∷◌, ◌++◌, codes, Option, Some, None, Result, Ok, Err, refl, sym, ap, subst, ◌∙◌, cond, arith}
use Rattle.std.specs.Option.{option_and_then, is_some}
use Rattle.std.specs.Str.{IsUtf8, is_utf8, bytes_eq}
use Rattle.std.proofs.lemmas.List.{append_assoc}
use Rattle.std.proofs.lemmas.Slice.Eq.{bytes_eq-Decides}
use Rattle.std.proofs.lemmas.Str.{IsUtf8-from_is_utf8, is_utf8-from_IsUtf8}
use Rattle.std.proofs.lemmas.Bool.{false_from_ne_true, or_right}
use Rattle.std.proofs.lemmas.Bool.Decides.{nat_tests}
use Rattle.pgw_types.specs.declared.error.ScramMessageFault.{ScramMessageFault}
use Rattle.pgw_types.specs.declared.error.ScramMessageFault.TheVariants as fault
use Rattle.pgw_types.specs.Numbers.{number_in}
use Rattle.pgw_scram.specs.Attributes.{IsValue, more_attributes, attribute}
use Rattle.pgw_scram.specs.Messages.{SkipsMext, without, with, IsFlag, not_supported, not_offered, named, IsAuthzid, without_id, with_id, IsHeader, IsClientFirst, HasServerFirst, IsServerFirst, IsClientFinal, IsServerFinal, verifier, server_error, IsScramReading, IsServerFirstReading}
use Rattle.pgw_scram.specs.Readers.{cut, cut_last, behind_name, attribute_at, two_at, or_all, behind_mext, or_grammar, if_utf8, is_flag, is_authzid, bare_parts, header_parts, client_first_parts, read_client_first, server_first_parts, first_by_count, first_with_count, read_server_first, without_proof_parts, client_final_parts, read_client_final, error_in, verifier_or, server_final_parts, read_server_final}
use Rattle.pgw_scram.specs.declared.messages.ServerFirst.{ServerFirst}
use Rattle.pgw_scram.specs.declared.messages.ClientFirst.{ClientFirst}
use Rattle.pgw_scram.specs.declared.messages.ClientFinal.{ClientFinal}
use Rattle.pgw_scram.specs.declared.messages.ServerFinal.{ServerFinal}
use Rattle.pgw_scram.specs.declared.messages.ServerFinal.TheVariants.{Signature, Failed}
use Rattle.pgw_scram.proofs.AttributeLaws.{cut_of, cut_is, cut_last_of, IsLastCut, cut_last_is, behind_name_of, behind_name_is, attribute_of, attribute_is}

-- ---- steps

pub bind_is : {A B : Type 0} (o : Option A) (f : A → Option B) (y : B) → option_and_then f o ≡ Some y
    → (x : A) × (o ≡ Some x) × (f x ≡ Some y)
bind_is None f y e = cc
bind_is (Some x) f y e = (x, refl, e)

-- ---- a reserved-mext

skips_by : (text : List ℕ) (found : Option (List ℕ × Option (List ℕ))) → attribute_at (codes "m=") text ≡ found
    → SkipsMext text (or_all text found)
skips_by text None e = without
skips_by text (Some (value, None)) e = without
skips_by text (Some (value, Some rest)) e =
    let a = attribute_is (codes "m=") text (value, Some rest) e in with value a.0 a.1

pub skips_is : (text : List ℕ) → SkipsMext text (behind_mext text)
skips_is text = skips_by text (attribute_at (codes "m=") text) refl

pub skips_of : (text rest : List ℕ) → SkipsMext text rest → attribute_at (codes "m=") rest ≡ None
    → behind_mext text ≡ rest
skips_of text rest without none = rw none refl
skips_of text rest (with value is h) none =
    ap behind_mext is
    ∙ ap (or_all (attribute (codes "m=") value (Some rest))) (attribute_of (codes "m=") value (Some rest) h)

no_mext_at_nonce : (value : List ℕ) (more : Option (List ℕ))
    → attribute_at (codes "m=") (attribute (codes "r=") value more) ≡ None
unfolding behind_name
no_mext_at_nonce value more = refl

no_mext_at_user : (value : List ℕ) (more : Option (List ℕ))
    → attribute_at (codes "m=") (attribute (codes "n=") value more) ≡ None
unfolding behind_name
no_mext_at_user value more = refl

-- ---- two attributes

abbrev Found : Type 0
Found = List ℕ × Option (List ℕ)

abbrev pub Two : Type 0
Two = List ℕ × List ℕ × Option (List ℕ)

abbrev pub IsTwo : List ℕ → List ℕ → List ℕ → Two → Type 0
IsTwo first second text two =
    (text ≡ attribute first two.0 (Some (attribute second two.1 two.2))) × IsValue two.0 × IsValue two.1

joined : (first second v w text rest : List ℕ) (after more : Option (List ℕ)) → text ≡ attribute first v after
    → after ≡ Some rest → rest ≡ attribute second w more
    → text ≡ attribute first v (Some (attribute second w more))
joined first second v w text rest after more is some next = is ∙ rw (some, next) refl

pub two_is : (first second text : List ℕ) (two : Two) → two_at first second text ≡ Some two
    → IsTwo first second text two
unfolding two_at
two_is first second text two e =
    let last : Found → Found → Option Two = λ a b. Some (a.0, b.0, b.1) in
    let next : Found → List ℕ → Option Two = λ a rest. option_and_then (last a) (attribute_at second rest) in
    let a = bind_is (attribute_at first text) (λ a. option_and_then (next a) a.1) two e in
    let b = bind_is a.0.1 (next a.0) two a.2 in
    let c = bind_is (attribute_at second b.0) (last a.0) two b.2 in
    let one = attribute_is first text a.0 a.1 in
    let other = attribute_is second b.0 c.0 c.1 in
    let same : (a.0.0, c.0.0, c.0.1) ≡ two = cc in
    let here : IsTwo first second text (a.0.0, c.0.0, c.0.1) =
    (joined first second a.0.0 c.0.0 text b.0 a.0.1 c.0.1 one.0 b.1 other.0, one.1, other.1) in
    subst (IsTwo first second text) {x = (a.0.0, c.0.0, c.0.1)} same here

pub two_of : (first second v w : List ℕ) (more : Option (List ℕ)) → IsValue v → IsValue w
    → two_at first second (attribute first v (Some (attribute second w more))) ≡ Some (v, w, more)
unfolding two_at
two_of first second v w more h k =
    rw (attribute_of first v (Some (attribute second w more)) h, attribute_of second w more k) refl

pub not_utf8 : (message : List ℕ) → (IsUtf8 message → ⊥) → is_utf8 message ≡ false
not_utf8 message h = false_from_ne_true (is_utf8 message) (λ yes. h (IsUtf8-from_is_utf8 message yes))

-- ---- server-first

abbrev Three : Type 0
Three = List ℕ × List ℕ × List ℕ

three_joined : (nonce salt count text rest : List ℕ) (after more : Option (List ℕ))
    → text ≡ attribute (codes "r=") nonce (Some (attribute (codes "s=") salt after)) → after ≡ Some rest
    → rest ≡ attribute (codes "i=") count more
    → text ≡ attribute (codes "r=") nonce
    (Some (attribute (codes "s=") salt (Some (attribute (codes "i=") count more))))
three_joined nonce salt count text rest after more is some next = is ∙ rw (some, next) refl

pub server_first_is : (message : List ℕ) (three : Three) → server_first_parts message ≡ Some three
    → HasServerFirst message three.0 three.1 three.2
unfolding server_first_parts
server_first_is message three e =
    let last : Two → Found → Option Three = λ two count. Some (two.0, two.1, count.0) in
    let next : Two → List ℕ → Option Three =
    λ two rest. option_and_then (last two) (attribute_at (codes "i=") rest) in
    let a =
    bind_is (two_at (codes "r=") (codes "s=") (behind_mext message)) (λ two. option_and_then (next two) two.2)
    three e in
    let b = bind_is a.0.2 (next a.0) three a.2 in
    let c = bind_is (attribute_at (codes "i=") b.0) (last a.0) three b.2 in
    let two = two_is (codes "r=") (codes "s=") (behind_mext message) a.0 a.1 in
    let count = attribute_is (codes "i=") b.0 c.0 c.1 in
    let same : (a.0.0, a.0.1, c.0.0) ≡ three = cc in
    let Has : Three → Type 0 = λ t. HasServerFirst message t.0 t.1 t.2 in
    subst Has {x = (a.0.0, a.0.1, c.0.0)} same (record {
      body = behind_mext message;
      more = c.0.1;
      skips = skips_is message;
      written = three_joined a.0.0 a.0.1 c.0.0 (behind_mext message) b.0 a.0.2 c.0.1 two.0 b.1 count.0;
      nonce_value = two.1;
      salt_value = two.2;
      count_value = count.1;
    })

pub server_first_of : (message nonce salt count : List ℕ) → HasServerFirst message nonce salt count
    → server_first_parts message ≡ Some (nonce, salt, count)
unfolding server_first_parts
server_first_of message nonce salt count h =
    let none : attribute_at (codes "m=") h.body ≡ None =
    ap (attribute_at (codes "m=")) h.written
    ∙ no_mext_at_nonce nonce
    (Some (attribute (codes "s=") salt (Some (attribute (codes "i=") count h.more)))) in
    let skipped : behind_mext message ≡ attribute (codes "r=") nonce
    (Some (attribute (codes "s=") salt (Some (attribute (codes "i=") count h.more)))) =
    skips_of message h.body h.skips none
    ∙ h.written in
    rw (
      skipped,
      two_of (codes "r=") (codes "s=") nonce salt (Some (attribute (codes "i=") count h.more))
          h.nonce_value h.salt_value,
      attribute_of (codes "i=") count h.more h.count_value,
    ) refl

-- ---- a reading of server-first

counted_is : (message nonce salt count : List ℕ) (n : Option ℕ) → IsUtf8 message
    → HasServerFirst message nonce salt count → number_in 32 count ≡ n
    → IsServerFirstReading message (first_by_count nonce salt n)
counted_is message nonce salt count None utf8 has e =
    record { utf8 = utf8; nonce = nonce; salt = salt; count = count; written = has; no_count = λ n is some. cc }
counted_is message nonce salt count (Some n) utf8 has e = by (n == 0) refl
  where
    by : (zero : Bool) → (n == 0) ≡ zero
        → IsServerFirstReading message
        (cond zero (Err fault.Count) (Ok (record { nonce = nonce; salt = salt; count = n })))
    by true is =
        record {
          utf8 = utf8;
          nonce = nonce;
          salt = salt;
          count = count;
          written = has;
          no_count = λ m found some.
              let same : n ≡ m = cc in grind (arith, nat_tests);
        }
    by false is =
        record { utf8 = utf8; count = count; written = has; counts = e; positive = grind (arith, nat_tests) }

with_count_is : (message : List ℕ) (three : Option Three) → IsUtf8 message → server_first_parts message ≡ three
    → IsServerFirstReading message (first_with_count three)
with_count_is message None utf8 e =
    (utf8, λ nonce salt count has. let found = server_first_of message nonce salt count has in cc)
with_count_is message (Some (nonce, salt, count)) utf8 e =
    counted_is message nonce salt count (number_in 32 count) utf8 (server_first_is message (nonce, salt, count) e)
    refl

server_first_by : (message : List ℕ) (text : Bool) → is_utf8 message ≡ text
    → IsServerFirstReading message (cond text (first_with_count (server_first_parts message)) (Err fault.NotUtf8))
server_first_by message true e =
    with_count_is message (server_first_parts message) (IsUtf8-from_is_utf8 message e) refl
server_first_by message false e = λ utf8. let yes = is_utf8-from_IsUtf8 message utf8 in cc

pub server_first_reads : (message : List ℕ) → IsServerFirstReading message (read_server_first message)
server_first_reads message = server_first_by message (is_utf8 message) refl

pub server_first_form : (message : List ℕ) (parts : ServerFirst) → read_server_first message ≡ Ok parts
    → IsServerFirst message parts
server_first_form message parts e = subst (IsServerFirstReading message) e (server_first_reads message)

-- there is one reading

no_count_by : (nonce salt count : List ℕ) (n : Option ℕ) → number_in 32 count ≡ n
    → ((m : ℕ) → number_in 32 count ≡ Some m → 0 < m → ⊥) → first_by_count nonce salt n ≡ Err fault.Count
no_count_by nonce salt count None e none = refl
no_count_by nonce salt count (Some n) e none = by (n == 0) refl
  where
    by : (zero : Bool) → (n == 0) ≡ zero
        → cond {A = Result ServerFirst ScramMessageFault} zero (Err fault.Count)
        (Ok (record { nonce = nonce; salt = salt; count = n })) ≡ Err fault.Count
    by true is = refl
    by false is = absurd (none n e (grind (arith, nat_tests)))

no_form_by : (message : List ℕ) (three : Option Three) → server_first_parts message ≡ three
    → ((nonce salt count : List ℕ) → HasServerFirst message nonce salt count → ⊥)
    → first_with_count three ≡ Err fault.Grammar
no_form_by message None e none = refl
no_form_by message (Some (nonce, salt, count)) e none =
    absurd (none nonce salt count (server_first_is message (nonce, salt, count) e))

pub server_first_only : (message : List ℕ) (reading : Result ServerFirst ScramMessageFault)
    → IsServerFirstReading message reading → read_server_first message ≡ reading
server_first_only message (Ok parts) h =
    let some : (parts.count == 0) ≡ false = grind (arith, nat_tests, h.positive) in
    rw (
      is_utf8-from_IsUtf8 message h.utf8,
      server_first_of message parts.nonce parts.salt h.count h.written,
      h.counts,
      some,
    ) refl
server_first_only message (Err fault.NotUtf8) h = rw (not_utf8 message h) refl
server_first_only message (Err fault.Count) h =
    rw (is_utf8-from_IsUtf8 message h.utf8, server_first_of message h.nonce h.salt h.count h.written)
    (no_count_by h.nonce h.salt h.count (number_in 32 h.count) refl h.no_count)
server_first_only message (Err fault.Grammar) h =
    rw (is_utf8-from_IsUtf8 message h.0) (no_form_by message (server_first_parts message) refl h.1)
server_first_only message (Err other) h = absurd h

-- ---- a reading of the other messages

or_grammar_is : {A : Type 0} (Is : List ℕ → A → Type 0) (message : List ℕ) (found whole : Option A)
    → whole ≡ found → IsUtf8 message → ((parts : A) → whole ≡ Some parts → Is message parts)
    → ((parts : A) → Is message parts → whole ≡ Some parts)
    → IsScramReading Is message (or_grammar found)
or_grammar_is Is message None whole e utf8 sound complete =
    (utf8, λ parts is. let found = complete parts is in cc)
or_grammar_is Is message (Some parts) whole e utf8 sound complete = sound parts e

reads_by : {A : Type 0} (Is : List ℕ → A → Type 0) (message : List ℕ) (found : Option A) (text : Bool)
    → is_utf8 message ≡ text → (IsUtf8 message → (parts : A) → found ≡ Some parts → Is message parts)
    → ((parts : A) → Is message parts → found ≡ Some parts)
    → IsScramReading Is message (cond text (or_grammar found) (Err fault.NotUtf8))
reads_by Is message found true e sound complete =
    let utf8 =
    IsUtf8-from_is_utf8 message e in or_grammar_is Is message found found refl utf8 (sound utf8) complete
reads_by Is message found false e sound complete = λ utf8. let yes = is_utf8-from_IsUtf8 message utf8 in cc

reads : {A : Type 0} (Is : List ℕ → A → Type 0) (message : List ℕ) (found : Option A)
    → (IsUtf8 message → (parts : A) → found ≡ Some parts → Is message parts)
    → ((parts : A) → Is message parts → found ≡ Some parts)
    → IsScramReading Is message (if_utf8 message (or_grammar found))
reads Is message found sound complete = reads_by Is message found (is_utf8 message) refl sound complete

no_parts_by : {A : Type 0} (found whole : Option A) → whole ≡ found → ((parts : A) → whole ≡ Some parts → ⊥)
    → or_grammar found ≡ Err fault.Grammar
no_parts_by None whole e none = refl
no_parts_by (Some parts) whole e none = absurd (none parts e)

reads_only : {A : Type 0} (Is : List ℕ → A → Type 0) (message : List ℕ) (found : Option A)
    (reading : Result A ScramMessageFault)
    → ((parts : A) → Is message parts → IsUtf8 message)
    → (IsUtf8 message → (parts : A) → found ≡ Some parts → Is message parts)
    → ((parts : A) → Is message parts → found ≡ Some parts) → IsScramReading Is message reading
    → if_utf8 message (or_grammar found) ≡ reading
reads_only Is message found (Ok parts) utf8 sound complete h =
    rw (is_utf8-from_IsUtf8 message (utf8 parts h), complete parts h) refl
reads_only Is message found (Err fault.NotUtf8) utf8 sound complete h = rw (not_utf8 message h) refl
reads_only Is message found (Err fault.Grammar) utf8 sound complete h =
    rw (is_utf8-from_IsUtf8 message h.0) (no_parts_by found found refl (λ parts e. h.1 parts (sound h.0 parts e)))
reads_only Is message found (Err other) utf8 sound complete h = absurd h

-- ---- client-first

same_bytes : (text : List ℕ) → bytes_eq text text ≡ true
same_bytes text = (bytes_eq-Decides text text).1 refl

flag_by : (text : List ℕ) (n y : Bool) (found : Option (List ℕ)) → bytes_eq text (codes "n") ≡ n
    → bytes_eq text (codes "y") ≡ y → behind_name (codes "p=") text ≡ found → IsValue text
    → (n || (y || is_some found)) ≡ true → IsFlag text
flag_by text true y found is_n is_y is_p value e =
    subst IsFlag (sym ((bytes_eq-Decides text (codes "n")).0 is_n)) not_supported
flag_by text false true found is_n is_y is_p value e =
    subst IsFlag (sym ((bytes_eq-Decides text (codes "y")).0 is_y)) not_offered
flag_by text false false (Some name) is_n is_y is_p value e =
    let is = behind_name_is (codes "p=") text name is_p in named name is (subst IsValue is value)
flag_by text false false None is_n is_y is_p value e = cc

flag_is : (text : List ℕ) → IsValue text → is_flag text ≡ true → IsFlag text
flag_is text value e =
    flag_by text (bytes_eq text (codes "n")) (bytes_eq text (codes "y")) (behind_name (codes "p=") text) refl refl
    refl value e

flag_of : (text : List ℕ) → IsFlag text → IsValue text × (is_flag text ≡ true)
flag_of text not_supported = (refl, refl)
flag_of text not_offered = (refl, refl)
flag_of text (named name is value) =
    let found : is_some (behind_name (codes "p=") text) ≡ true =
    ap (λ (l : List ℕ). is_some (behind_name (codes "p=") l)) is
    ∙ ap is_some (behind_name_of (codes "p=") name) in (
      subst IsValue (sym is) value,
      or_right (bytes_eq text (codes "n")) _
          (or_right (bytes_eq text (codes "y")) _ found),
    )

authzid_by : (text : List ℕ) (empty : Bool) (found : Option (List ℕ)) → bytes_eq text [] ≡ empty
    → behind_name (codes "a=") text ≡ found → IsValue text → (empty || is_some found) ≡ true → IsAuthzid text
authzid_by text true found is_empty is_a value e =
    subst IsAuthzid (sym ((bytes_eq-Decides text []).0 is_empty)) without_id
authzid_by text false (Some name) is_empty is_a value e =
    let is = behind_name_is (codes "a=") text name is_a in with_id name is (subst IsValue is value)
authzid_by text false None is_empty is_a value e = cc

authzid_is : (text : List ℕ) → IsValue text → is_authzid text ≡ true → IsAuthzid text
authzid_is text value e = authzid_by text (bytes_eq text []) (behind_name (codes "a=") text) refl refl value e

authzid_of : (text : List ℕ) → IsAuthzid text → IsValue text × (is_authzid text ≡ true)
authzid_of text without_id = (refl, refl)
authzid_of text (with_id name is value) =
    let found : is_some (behind_name (codes "a=") text) ≡ true =
    ap (λ (l : List ℕ). is_some (behind_name (codes "a=") l)) is
    ∙ ap is_some (behind_name_of (codes "a=") name) in
    (subst IsValue (sym is) value, or_right (bytes_eq text []) _ found)

abbrev Pair : Type 0
Pair = List ℕ × List ℕ

some_if : (b : Bool) (x y : Pair) → cond b (Some x) None ≡ Some y → (b ≡ true) × (x ≡ y)
some_if true x y e = (refl, cc)
some_if false x y e = cc

both_if : (a b : Bool) (x y : Pair) → cond a (cond b (Some x) None) None ≡ Some y
    → (a ≡ true) × (b ≡ true) × (x ≡ y)
both_if true b x y e = let q = some_if b x y e in (refl, q.0, q.1)
both_if false b x y e = cc

header_text : (flag authzid bare : List ℕ)
    → flag ++ 44 ∷ (authzid ++ 44 ∷ []) ++ bare ≡ flag ++ 44 ∷ (authzid ++ 44 ∷ bare)
header_text flag authzid bare =
    append_assoc flag (44 ∷ (authzid ++ 44 ∷ [])) bare
    ∙ ap (λ (l : List ℕ). flag ++ 44 ∷ l) (append_assoc authzid (44 ∷ []) bare)

header_joined : (flag authzid bare message rest : List ℕ) (one other : Option (List ℕ))
    → message ≡ flag ++ more_attributes one → one ≡ Some rest → rest ≡ authzid ++ more_attributes other
    → other ≡ Some bare → message ≡ flag ++ 44 ∷ (authzid ++ 44 ∷ []) ++ bare
header_joined flag authzid bare message rest one other is some next last =
    is ∙ rw (some, next, last) (sym (header_text flag authzid bare))

header_is : (message : List ℕ) (two : Pair) → header_parts message ≡ Some two
    → (message ≡ two.0 ++ two.1) × IsHeader two.0
unfolding header_parts
header_is message two e =
    let flag = (cut message).0 in
    let last : List ℕ → List ℕ → Option Pair =
    λ rest bare. cond (is_flag flag)
    (cond (is_authzid (cut rest).0) (Some (flag ++ 44 ∷ ((cut rest).0 ++ 44 ∷ []), bare)) None) None in
    let a = bind_is (cut message).1 (λ rest. option_and_then (last rest) (cut rest).1) two e in
    let b = bind_is (cut a.0).1 (last a.0) two a.2 in
    let authzid = (cut a.0).0 in
    let both = both_if (is_flag flag) (is_authzid authzid) (flag ++ 44 ∷ (authzid ++ 44 ∷ []), b.0) two b.2 in
    let one = cut_is message in
    let other = cut_is a.0 in
    let Is : Pair → Type 0 = λ t. (message ≡ t.0 ++ t.1) × IsHeader t.0 in
    let header : IsHeader (flag ++ 44 ∷ (authzid ++ 44 ∷ [])) = record {
      flag = flag;
      authzid = authzid;
      written = refl;
      is_flag = flag_is flag one.1 both.0;
      is_authzid = authzid_is authzid other.1 both.1;
    } in
    subst Is {x = (flag ++ 44 ∷ (authzid ++ 44 ∷ []), b.0)} both.2
    (header_joined flag authzid b.0 message a.0 (cut message).1 (cut a.0).1 one.0 a.1 other.0 b.1, header)

header_of : (header bare : List ℕ) → IsHeader header → header_parts (header ++ bare) ≡ Some (header, bare)
unfolding header_parts
header_of header bare h =
    let flag = flag_of h.flag h.is_flag in
    let authzid = authzid_of h.authzid h.is_authzid in
    let whole : header ++ bare ≡ h.flag ++ 44 ∷ (h.authzid ++ 44 ∷ bare) =
    ap (λ (l : List ℕ). l ++ bare) h.written ∙ header_text h.flag h.authzid bare in
    let one : cut (header ++ bare) ≡ (h.flag, Some (h.authzid ++ 44 ∷ bare)) =
    ap cut whole ∙ cut_of h.flag (Some (h.authzid ++ 44 ∷ bare)) flag.0 in
    rw (one, cut_of h.authzid (Some bare) authzid.0, flag.1, authzid.1)
    (ap (λ (l : List ℕ). Some (l, bare)) (sym h.written))

client_first_is : (message : List ℕ) (parts : ClientFirst) → IsUtf8 message
    → client_first_parts message ≡ Some parts → IsClientFirst message parts
unfolding client_first_parts
client_first_is message parts utf8 e =
    let last : Pair → Two → Option ClientFirst =
    λ two names. Some (record { header = two.0; bare = two.1; user = names.0; nonce = names.1 }) in
    let a = bind_is (header_parts message) (λ two. option_and_then (last two) (bare_parts two.1)) parts e in
    let b = bind_is (bare_parts a.0.1) (last a.0) parts a.2 in
    let header = header_is message a.0 a.1 in
    let names = two_is (codes "n=") (codes "r=") (behind_mext a.0.1) b.0 b.1 in
    let first : ClientFirst = record { header = a.0.0; bare = a.0.1; user = b.0.0; nonce = b.0.1 } in
    let same : first ≡ parts = cc in
    subst (IsClientFirst message) {x = first} same (record {
      utf8 = utf8;
      written = header.0;
      header = header.1;
      bare = record {
        body = behind_mext a.0.1;
        more = b.0.2;
        skips = skips_is a.0.1;
        written = names.0;
        user_value = names.1;
        nonce_value = names.2;
      };
    })

client_first_of : (message : List ℕ) (parts : ClientFirst) → IsClientFirst message parts
    → client_first_parts message ≡ Some parts
unfolding client_first_parts
client_first_of message parts h =
    let bare = h.bare in
    let none : attribute_at (codes "m=") bare.body ≡ None =
    ap (attribute_at (codes "m=")) bare.written
    ∙ no_mext_at_user parts.user (Some (attribute (codes "r=") parts.nonce bare.more)) in
    let skipped : behind_mext parts.bare ≡ attribute (codes "n=") parts.user
    (Some (attribute (codes "r=") parts.nonce bare.more)) =
    skips_of parts.bare bare.body bare.skips none
    ∙ bare.written in
    let two : header_parts message ≡ Some (parts.header, parts.bare) =
    ap header_parts h.written ∙ header_of parts.header parts.bare h.header in
    rw (
      two,
      skipped,
      two_of (codes "n=") (codes "r=") parts.user parts.nonce bare.more bare.user_value
          bare.nonce_value,
    ) refl

pub client_first_reads : (message : List ℕ) → IsScramReading IsClientFirst message (read_client_first message)
client_first_reads message =
    reads IsClientFirst message (client_first_parts message) (λ utf8 parts. client_first_is message parts utf8)
    (client_first_of message)

pub client_first_form : (message : List ℕ) (parts : ClientFirst) → read_client_first message ≡ Ok parts
    → IsClientFirst message parts
client_first_form message parts e = subst (IsScramReading IsClientFirst message) e (client_first_reads message)

pub client_first_only : (message : List ℕ) (reading : Result ClientFirst ScramMessageFault)
    → IsScramReading IsClientFirst message reading → read_client_first message ≡ reading
client_first_only message reading =
    reads_only IsClientFirst message (client_first_parts message) reading (λ parts is. is.utf8)
    (λ utf8 parts. client_first_is message parts utf8) (client_first_of message)

-- ---- client-final

final_joined : (front value message back : List ℕ) → message ≡ front ++ 44 ∷ back → back ≡ codes "p=" ++ value
    → message ≡ front ++ 44 ∷ (codes "p=" ++ value)
final_joined front value message back is next = is ∙ rw next refl

client_final_is : (message : List ℕ) (parts : ClientFinal) → IsUtf8 message
    → client_final_parts message ≡ Some parts → IsClientFinal message parts
unfolding client_final_parts
client_final_is message parts utf8 e =
    let last : Pair → List ℕ → Two → Option ClientFinal =
    λ two proof names. Some
    (record { binding = names.0; nonce = names.1; without_proof = two.0; proof = proof }) in
    let next : Pair → List ℕ → Option ClientFinal =
    λ two proof. option_and_then (last two proof) (without_proof_parts two.0) in
    let a =
    bind_is (cut_last message) (λ two. option_and_then (next two) (behind_name (codes "p=") two.1)) parts e in
    let b = bind_is (behind_name (codes "p=") a.0.1) (next a.0) parts a.2 in
    let c = bind_is (without_proof_parts a.0.0) (last a.0 b.0) parts b.2 in
    let ends = subst (IsLastCut message) a.1 (cut_last_is message) in
    let proof = behind_name_is (codes "p=") a.0.1 b.0 b.1 in
    let names = two_is (codes "c=") (codes "r=") a.0.0 c.0 c.1 in
    let final : ClientFinal = record { binding = c.0.0; nonce = c.0.1; without_proof = a.0.0; proof = b.0 } in
    let same : final ≡ parts = cc in
    subst (IsClientFinal message) {x = final} same (record {
      utf8 = utf8;
      written = final_joined a.0.0 b.0 message a.0.1 ends.0 proof;
      without_proof = record { more = c.0.2; written = names.0; binding_value = names.1; nonce_value = names.2 };
      proof_value = subst IsValue proof ends.1;
    })

client_final_of : (message : List ℕ) (parts : ClientFinal) → IsClientFinal message parts
    → client_final_parts message ≡ Some parts
unfolding client_final_parts
client_final_of message parts h =
    let before = h.without_proof in
    let two : cut_last message ≡ Some (parts.without_proof, codes "p=" ++ parts.proof) =
    ap cut_last h.written ∙ cut_last_of parts.without_proof (codes "p=" ++ parts.proof) h.proof_value in
    let names : without_proof_parts parts.without_proof ≡ Some (parts.binding, parts.nonce, before.more) =
    ap without_proof_parts before.written
    ∙ two_of (codes "c=") (codes "r=") parts.binding parts.nonce before.more before.binding_value
    before.nonce_value in
    rw (two, behind_name_of (codes "p=") parts.proof, names) refl

pub client_final_reads : (message : List ℕ) → IsScramReading IsClientFinal message (read_client_final message)
client_final_reads message =
    reads IsClientFinal message (client_final_parts message) (λ utf8 parts. client_final_is message parts utf8)
    (client_final_of message)

pub client_final_form : (message : List ℕ) (parts : ClientFinal) → read_client_final message ≡ Ok parts
    → IsClientFinal message parts
client_final_form message parts e = subst (IsScramReading IsClientFinal message) e (client_final_reads message)

pub client_final_only : (message : List ℕ) (reading : Result ClientFinal ScramMessageFault)
    → IsScramReading IsClientFinal message reading → read_client_final message ≡ reading
client_final_only message reading =
    reads_only IsClientFinal message (client_final_parts message) reading (λ parts is. is.utf8)
    (λ utf8 parts. client_final_is message parts utf8) (client_final_of message)

-- ---- server-final

pub server_final_of : (value : List ℕ) (more : Option (List ℕ)) → IsValue value
    → IsUtf8 (attribute (codes "v=") value more)
    → read_server_final (attribute (codes "v=") value more) ≡ Ok (Signature value)
unfolding server_final_parts
server_final_of value more h utf8 =
    rw (is_utf8-from_IsUtf8 (attribute (codes "v=") value more) utf8, attribute_of (codes "v=") value more h) refl

final_by : (message : List ℕ) (parts : ServerFinal) (v e : Option Found) → attribute_at (codes "v=") message ≡ v
    → attribute_at (codes "e=") message ≡ e → IsUtf8 message → verifier_or v (error_in e) ≡ Some parts
    → IsServerFinal message parts
final_by message parts (Some (value, more)) e is_v is_e utf8 found =
    let a = attribute_is (codes "v=") message (value, more) is_v in
    let same : Signature value ≡ parts = cc in
    subst (IsServerFinal message) same (verifier more utf8 a.0 a.1)
final_by message parts None (Some (value, more)) is_v is_e utf8 found =
    let a = attribute_is (codes "e=") message (value, more) is_e in
    let same : Failed value ≡ parts = cc in
    subst (IsServerFinal message) same (server_error more utf8 a.0 a.1)
final_by message parts None None is_v is_e utf8 found = cc

server_final_is : (message : List ℕ) (parts : ServerFinal) → IsUtf8 message
    → server_final_parts message ≡ Some parts → IsServerFinal message parts
unfolding server_final_parts
server_final_is message parts utf8 e =
    final_by message parts (attribute_at (codes "v=") message) (attribute_at (codes "e=") message) refl refl utf8
    e

no_verifier : (value : List ℕ) (more : Option (List ℕ))
    → attribute_at (codes "v=") (attribute (codes "e=") value more) ≡ None
unfolding behind_name
no_verifier value more = refl

server_final_parts_of : (message : List ℕ) (parts : ServerFinal) → IsServerFinal message parts
    → server_final_parts message ≡ Some parts
unfolding server_final_parts
server_final_parts_of message (Signature value) (verifier more utf8 is h) =
    ap server_final_parts is ∙ rw (attribute_of (codes "v=") value more h) refl
server_final_parts_of message (Failed value) (server_error more utf8 is h) =
    ap server_final_parts is ∙ rw (no_verifier value more, attribute_of (codes "e=") value more h) refl

final_utf8 : (message : List ℕ) (parts : ServerFinal) → IsServerFinal message parts → IsUtf8 message
final_utf8 message parts (verifier more utf8 is h) = utf8
final_utf8 message parts (server_error more utf8 is h) = utf8

pub server_final_reads : (message : List ℕ) → IsScramReading IsServerFinal message (read_server_final message)
server_final_reads message =
    reads IsServerFinal message (server_final_parts message) (λ utf8 parts. server_final_is message parts utf8)
    (server_final_parts_of message)

pub server_final_form : (message : List ℕ) (parts : ServerFinal) → read_server_final message ≡ Ok parts
    → IsServerFinal message parts
server_final_form message parts e = subst (IsScramReading IsServerFinal message) e (server_final_reads message)

pub server_final_only : (message : List ℕ) (reading : Result ServerFinal ScramMessageFault)
    → IsScramReading IsServerFinal message reading → read_server_final message ≡ reading
server_final_only message reading =
    reads_only IsServerFinal message (server_final_parts message) reading (final_utf8 message)
    (λ utf8 parts. server_final_is message parts utf8) (server_final_parts_of message)
