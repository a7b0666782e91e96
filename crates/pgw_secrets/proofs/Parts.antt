-- Each part of a secret's text is found in one way, and so is the whole.
use Rattle.std.proofs.Common.{◌≡◌, ◌⊎◌, inl, inr, ℕ, List, ◌∷◌, ◌++◌, length, Option, Some, None, Result, Ok, Err, Bor, codes, option_map, refl, sym, ap, subst, ◌∙◌}
use Rattle.std.specs.Option.{MatchOption, IfSome, IfNone, option_copied}
use Rattle.std.specs.Str.Pattern.{FindsTextPrefix, StripsPrefix}
use Rattle.base64.specs.Engines.{standard}
use Rattle.base64.specs.GeneralPurpose.{IsBytes, decode_of}
use Rattle.base64.proofs.EngineFacts.{decode_of-encode_of}
use Rattle.base64.specs.declared.decode.DecodeError.{DecodeError}
use Rattle.pgw_types.specs.Numbers.{number_in}
use Rattle.pgw_scram.specs.Base64.{base64}
use Rattle.pgw_secrets.specs.declared.secret.StoredSecret.{StoredSecret}
use Rattle.pgw_secrets.specs.declared.secret.SecretFault.{SecretFault}
use Rattle.pgw_secrets.specs.declared.secret.SecretFault.TheVariants as fault
use Rattle.pgw_secrets.specs.Text.{IsCounted, IsSalted, IsKeyed, IsLastKey, HasSecretName, Counted, ReadsSalt, Keyed, IsSecretText, HasName, HasCount, HasSalt, HasStoredKey, HasServerKey, IsSecretReading, ReadsSecret}
use Rattle.pgw_secrets.specs.Found.{Lacks, NameIn, CountOf, CountIn, BytesIn, KeyIn, SaltIn, StoredKeyIn}
use Rattle.pgw_secrets.proofs.Marks.{same_cut, not_cut}
use Rattle.pgw_secrets.proofs.Encodings.{base64_no_dollar, base64_no_colon, base64_same, number_no_colon}

-- ---- small things

some_same : {A : Type 0} (a b : A) → Some a ≡ Some b → a ≡ b
some_same a b e = cc

ok_no_error : {A E : Type 0} (a : A) (e : E) → Ok a ≡ Err e → ⊥
ok_no_error a e is = cc

none_some : {A : Type 0} (a : A) → None ≡ Some a → ⊥
none_some a e = cc

-- ---- what decodes

pub not_decoded : (text bytes : List ℕ) (e : DecodeError) → decode_of standard text ≡ Err e → text ≡ base64 bytes
    → IsBytes bytes → ⊥
unfolding base64
not_decoded text bytes e failed is bs =
    ok_no_error bytes e (sym (ap (decode_of standard) is ∙ decode_of-encode_of standard bytes refl bs) ∙ failed)

-- ---- one part

counted_once : (text : List ℕ) (m n : ℕ) (x y : List ℕ) → IsCounted text m x → IsCounted text n y
    → (m ≡ n) × (x ≡ y)
counted_once text m n x y a b =
    let cut =
    same_cut 58 a.written b.written x y (number_no_colon a.written m a.counts)
    (number_no_colon b.written n b.counts) (sym a.cut
    ∙ b.cut) in
    (some_same m n (sym a.counts ∙ ap (number_in 32) cut.0 ∙ b.counts), cut.1)

salted_once : (text s t x y : List ℕ) → IsSalted text s x → IsSalted text t y → (s ≡ t) × (x ≡ y)
salted_once text s t x y a b =
    let cut = same_cut 36 (base64 s) (base64 t) x y (base64_no_dollar s) (base64_no_dollar t) (sym a.0 ∙ b.0) in
    (base64_same s t a.1 b.1 cut.0, cut.1)

keyed_once : (text s t x y : List ℕ) → IsKeyed text s x → IsKeyed text t y → (s ≡ t) × (x ≡ y)
keyed_once text s t x y a b =
    let cut = same_cut 58 (base64 s) (base64 t) x y (base64_no_colon s) (base64_no_colon t) (sym a.0 ∙ b.0) in
    (base64_same s t a.1.1 b.1.1 cut.0, cut.1)

last_once : (text s t : List ℕ) → IsLastKey text s → IsLastKey text t → s ≡ t
last_once text s t a b = base64_same s t a.1.1 b.1.1 (sym a.0 ∙ b.0)

-- ---- a part that is not there

pub no_colon_no_count : (text : List ℕ) → Lacks 58 text → (count : ℕ) (behind : List ℕ)
    → IsCounted text count behind → ⊥
no_colon_no_count text none count behind is = not_cut 58 text is.written behind none is.cut

pub no_count : (text before behind : List ℕ) → (text ≡ before ++ 58 ∷ behind) × Lacks 58 before
    → CountOf before None → (count : ℕ) (more : List ℕ) → IsCounted text count more → ⊥
no_count text before behind at none count more is =
    let cut =
    same_cut 58 is.written before more behind (number_no_colon is.written count is.counts) at.1 (sym is.cut
    ∙ at.0) in
    none count (ap (number_in 32) (sym cut.0) ∙ is.counts) is.positive

pub no_dollar_no_salt : (text : List ℕ) → Lacks 36 text → (salt behind : List ℕ) → IsSalted text salt behind → ⊥
no_dollar_no_salt text none salt behind is = not_cut 36 text (base64 salt) behind none is.0

no_salt_by : (text before behind : List ℕ) (found : Option (List ℕ)) → found ≡ None
    → (text ≡ before ++ 36 ∷ behind) × Lacks 36 before → BytesIn before found → (salt more : List ℕ)
    → IsSalted text salt more → ⊥
no_salt_by text before behind None e at none salt more is =
    let cut = same_cut 36 (base64 salt) before more behind (base64_no_dollar salt) at.1 (sym is.0 ∙ at.0) in
    none salt (sym cut.0) is.1
no_salt_by text before behind (Some bytes) e at none salt more is = cc

pub no_salt : {V : Type 0} (items : V → List ℕ) (text before behind : List ℕ) (found : Option V) → found ≡ None
    → (text ≡ before ++ 36 ∷ behind) × Lacks 36 before → BytesIn before (option_map items found)
    → (salt more : List ℕ) → IsSalted text salt more → ⊥
no_salt items text before behind found e at none =
    no_salt_by text before behind (option_map items found) (ap (option_map items) e) at none

pub no_colon_no_key : (text : List ℕ) → Lacks 58 text → (key behind : List ℕ) → IsKeyed text key behind → ⊥
no_colon_no_key text none key behind is = not_cut 58 text (base64 key) behind none is.0

pub no_key : (text before behind : List ℕ) (found : Option (List ℕ)) → found ≡ None
    → (text ≡ before ++ 58 ∷ behind) × Lacks 58 before → KeyIn before found → (key more : List ℕ)
    → IsKeyed text key more → ⊥
no_key text before behind None e at none key more is =
    let cut = same_cut 58 (base64 key) before more behind (base64_no_colon key) at.1 (sym is.0 ∙ at.0) in
    none key (sym cut.0) is.1
no_key text before behind (Some bytes) e at none key more is = cc

-- ---- the name

lacks_name : (text : List ℕ) → ((rest : List ℕ) → text ≡ codes "SCRAM-SHA-256$" ++ rest → ⊥) → HasName text → ⊥
lacks_name text none (behind, is) = none behind is

pub named : (text : List ℕ) (r : Option (Bor (List ℕ)))
    → MatchOption r (FindsTextPrefix (codes "SCRAM-SHA-256$") text None)
    (λ x. StripsPrefix (FindsTextPrefix (codes "SCRAM-SHA-256$")) text x.now)
    → NameIn text (option_copied r)
named text None h = lacks_name text h
named text (Some x) (n, (is_length, whole, boundary), rest, lengths) = rw rest whole

named_once : (text x y : List ℕ) → HasSecretName text x → HasSecretName text y → x ≡ y
named_once text x y a b = let both = sym a ∙ b in cc

-- ---- up to a part

Counted_once : (text : List ℕ) (m n : ℕ) (x y : List ℕ) → Counted text m x → Counted text n y → (m ≡ n) × (x ≡ y)
Counted_once text m n x y a b =
    let same = named_once text a.from b.from a.before b.before in
    counted_once b.from m n x y (subst (λ (l : List ℕ). IsCounted l m x) same a.part) b.part

Salted_once : (text : List ℕ) (m n : ℕ) (s t x y : List ℕ) → ReadsSalt text m s x → ReadsSalt text n t y
    → (m ≡ n) × (s ≡ t) × (x ≡ y)
Salted_once text m n s t x y a b =
    let same = Counted_once text m n a.from b.from a.before b.before in
    let here = salted_once b.from s t x y (subst (λ (l : List ℕ). IsSalted l s x) same.1 a.part) b.part in
    (same.0, here.0, here.1)

Keyed_once : (text : List ℕ) (m n : ℕ) (s t k l x y : List ℕ) → Keyed text m s k x → Keyed text n t l y
    → (m ≡ n) × (s ≡ t) × (k ≡ l) × (x ≡ y)
Keyed_once text m n s t k l x y a b =
    let same = Salted_once text m n s t a.from b.from a.before b.before in
    let here = keyed_once b.from k l x y (subst (λ (f : List ℕ). IsKeyed f k x) same.2 a.part) b.part in
    (same.0, same.1, here.0, here.1)

secret_once : (text : List ℕ) (s t : StoredSecret) → IsSecretText text s → IsSecretText text t → s ≡ t
secret_once text s t a b =
    let same =
    Keyed_once text s.count t.count s.salt t.salt s.stored_key t.stored_key a.from b.from a.before b.before in
    let here =
    last_once b.from s.server_key t.server_key
    (subst (λ (f : List ℕ). IsLastKey f s.server_key) same.3 a.part) b.part in
    λ i. record { count = same.0 i; salt = same.1 i; stored_key = same.2 i; server_key = here i }

-- ---- what stands before a part

name_of_count : (text : List ℕ) → HasCount text → HasName text
name_of_count text (count, behind, is) = (is.from, is.before)

count_of_salt : (text : List ℕ) → HasSalt text → HasCount text
count_of_salt text (count, salt, behind, is) = (count, is.from, is.before)

salt_of_stored : (text : List ℕ) → HasStoredKey text → HasSalt text
salt_of_stored text (count, salt, key, behind, is) = (count, salt, is.from, is.before)

stored_of_server : (text : List ℕ) → HasServerKey text → HasStoredKey text
stored_of_server text (s, is) = (s.count, s.salt, s.stored_key, is.from, is.before)

-- ---- one reading

pub same_reading : (text : List ℕ) (r q : Result StoredSecret SecretFault) → IsSecretReading text r
    → IsSecretReading text q → r ≡ q
same_reading text (Err fault.Prefix) (Err fault.Prefix) a b = refl
same_reading text (Err fault.Prefix) (Err fault.Count) a b = absurd (a b.0)
same_reading text (Err fault.Prefix) (Err fault.Salt) a b = absurd (a (name_of_count text b.0))
same_reading text (Err fault.Prefix) (Err fault.StoredKey) a b =
    absurd (a (name_of_count text (count_of_salt text b.0)))
same_reading text (Err fault.Prefix) (Err fault.ServerKey) a b =
    absurd (a (name_of_count text (count_of_salt text (salt_of_stored text b.0))))
same_reading text (Err fault.Prefix) (Ok t) a b =
    absurd (a (name_of_count text (count_of_salt text (salt_of_stored text (stored_of_server text (t, b))))))
same_reading text (Err fault.Prefix) (Err fault.OutOfMemory) a b = absurd b
same_reading text (Err fault.Count) (Err fault.Prefix) a b = absurd (b a.0)
same_reading text (Err fault.Count) (Err fault.Count) a b = refl
same_reading text (Err fault.Count) (Err fault.Salt) a b = absurd (a.1 b.0)
same_reading text (Err fault.Count) (Err fault.StoredKey) a b = absurd (a.1 (count_of_salt text b.0))
same_reading text (Err fault.Count) (Err fault.ServerKey) a b =
    absurd (a.1 (count_of_salt text (salt_of_stored text b.0)))
same_reading text (Err fault.Count) (Ok t) a b =
    absurd (a.1 (count_of_salt text (salt_of_stored text (stored_of_server text (t, b)))))
same_reading text (Err fault.Count) (Err fault.OutOfMemory) a b = absurd b
same_reading text (Err fault.Salt) (Err fault.Prefix) a b = absurd (b (name_of_count text a.0))
same_reading text (Err fault.Salt) (Err fault.Count) a b = absurd (b.1 a.0)
same_reading text (Err fault.Salt) (Err fault.Salt) a b = refl
same_reading text (Err fault.Salt) (Err fault.StoredKey) a b = absurd (a.1 b.0)
same_reading text (Err fault.Salt) (Err fault.ServerKey) a b = absurd (a.1 (salt_of_stored text b.0))
same_reading text (Err fault.Salt) (Ok t) a b = absurd (a.1 (salt_of_stored text (stored_of_server text (t, b))))
same_reading text (Err fault.Salt) (Err fault.OutOfMemory) a b = absurd b
same_reading text (Err fault.StoredKey) (Err fault.Prefix) a b =
    absurd (b (name_of_count text (count_of_salt text a.0)))
same_reading text (Err fault.StoredKey) (Err fault.Count) a b = absurd (b.1 (count_of_salt text a.0))
same_reading text (Err fault.StoredKey) (Err fault.Salt) a b = absurd (b.1 a.0)
same_reading text (Err fault.StoredKey) (Err fault.StoredKey) a b = refl
same_reading text (Err fault.StoredKey) (Err fault.ServerKey) a b = absurd (a.1 b.0)
same_reading text (Err fault.StoredKey) (Ok t) a b = absurd (a.1 (stored_of_server text (t, b)))
same_reading text (Err fault.StoredKey) (Err fault.OutOfMemory) a b = absurd b
same_reading text (Err fault.ServerKey) (Err fault.Prefix) a b =
    absurd (b (name_of_count text (count_of_salt text (salt_of_stored text a.0))))
same_reading text (Err fault.ServerKey) (Err fault.Count) a b =
    absurd (b.1 (count_of_salt text (salt_of_stored text a.0)))
same_reading text (Err fault.ServerKey) (Err fault.Salt) a b = absurd (b.1 (salt_of_stored text a.0))
same_reading text (Err fault.ServerKey) (Err fault.StoredKey) a b = absurd (b.1 a.0)
same_reading text (Err fault.ServerKey) (Err fault.ServerKey) a b = refl
same_reading text (Err fault.ServerKey) (Ok t) a b = absurd (a.1 (t, b))
same_reading text (Err fault.ServerKey) (Err fault.OutOfMemory) a b = absurd b
same_reading text (Ok s) (Err fault.Prefix) a b =
    absurd (b (name_of_count text (count_of_salt text (salt_of_stored text (stored_of_server text (s, a))))))
same_reading text (Ok s) (Err fault.Count) a b =
    absurd (b.1 (count_of_salt text (salt_of_stored text (stored_of_server text (s, a)))))
same_reading text (Ok s) (Err fault.Salt) a b = absurd (b.1 (salt_of_stored text (stored_of_server text (s, a))))
same_reading text (Ok s) (Err fault.StoredKey) a b = absurd (b.1 (stored_of_server text (s, a)))
same_reading text (Ok s) (Err fault.ServerKey) a b = absurd (b.1 (s, a))
same_reading text (Ok s) (Ok t) a b = ap (λ x. Ok x) (secret_once text s t a b)
same_reading text (Ok s) (Err fault.OutOfMemory) a b = absurd b
same_reading text (Err fault.OutOfMemory) other a b = absurd a

pub only_reading : (text : List ℕ) (r q : Result StoredSecret SecretFault) → ReadsSecret text r
    → IsSecretReading text q → (r ≡ Err fault.OutOfMemory) ⊎ (r ≡ q)
only_reading text r q (inl e) is = inl e
only_reading text r q (inr h) is = inr (same_reading text r q h is)

-- ---- where a reader stops

pub stops_at_name : (text : List ℕ) (found : Option (List ℕ)) → NameIn text found → found ≡ None
    → ReadsSecret text (Err fault.Prefix)
stops_at_name text None h e = inr h
stops_at_name text (Some x) h e = cc

pub stops_at_count : (text behind : List ℕ) (found : Option (ℕ × List ℕ)) → HasSecretName text behind
    → CountIn behind found → found ≡ None → ReadsSecret text (Err fault.Count)
stops_at_count text behind None n h e =
    inr (
      (behind, n),
      λ (m, more, is). h m more
          (subst (λ (l : List ℕ). IsCounted l m more) (named_once text is.from behind is.before n) is.part),
    )
stops_at_count text behind (Some x) n h e = cc

pub stops_at_salt : (text : List ℕ) (count : ℕ) (behind : List ℕ) (found : Option (List ℕ × List ℕ))
    → Counted text count behind → SaltIn behind found → found ≡ None → ReadsSecret text (Err fault.Salt)
stops_at_salt text count behind None n h e =
    inr (
      (count, behind, n),
      λ (m, salt, more, is). h salt more
          (subst (λ (l : List ℕ). IsSalted l salt more) (Counted_once text m count is.from behind is.before n).1
          is.part),
    )
stops_at_salt text count behind (Some x) n h e = cc

pub stops_at_stored : (text : List ℕ) (count : ℕ) (salt behind : List ℕ) (found : Option (List ℕ × List ℕ))
    → ReadsSalt text count salt behind → StoredKeyIn behind found → found ≡ None
    → ReadsSecret text (Err fault.StoredKey)
stops_at_stored text count salt behind None n h e =
    inr (
      (count, salt, behind, n),
      λ (m, s, key, more, is). h key more
          (subst (λ (l : List ℕ). IsKeyed l key more) (Salted_once text m count s salt is.from behind is.before n).2
          is.part),
    )
stops_at_stored text count salt behind (Some x) n h e = cc

pub stops_at_server : (text : List ℕ) (count : ℕ) (salt key behind : List ℕ) (found : Option (List ℕ))
    → Keyed text count salt key behind → KeyIn behind found → found ≡ None
    → ReadsSecret text (Err fault.ServerKey)
stops_at_server text count salt key behind None n h e =
    inr (
      (count, salt, key, behind, n),
      λ (s, is). h s.server_key
          (subst (λ (l : List ℕ). l ≡ base64 s.server_key)
          (Keyed_once text s.count count s.salt salt s.stored_key key is.from behind is.before n).3 is.part.0)
          is.part.1,
    )
stops_at_server text count salt key behind (Some x) n h e = cc

-- ---- keys

pub key_in : (text bytes : List ℕ) (found : Option (List ℕ)) (key : Option (List ℕ)) → found ≡ Some bytes
    → BytesIn text found → IfSome key (λ k. (length bytes ≡ 32) × (k ≡ bytes))
    → IfNone key (length bytes ≡ 32 → ⊥) → KeyIn text key
key_in text bytes None key e h some none = cc
key_in text bytes (Some found) None e h some none =
    λ k is is_key.
    let same : found ≡ bytes = some_same found bytes e in
    none (ap length (sym same ∙ base64_same found k h.1 is_key.1 (sym h.0 ∙ is)) ∙ is_key.0)
key_in text bytes (Some found) (Some key) e h some none =
    let same : found ≡ bytes = some_same found bytes e in
    let whole : key ≡ found = some.1 ∙ sym same in
    (h.0 ∙ ap base64 (sym whole), (ap length some.1 ∙ some.0, subst IsBytes (sym whole) h.1))
