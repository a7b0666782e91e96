-- Lists that end with a mark, and keys: what is read is what is spelled.
use Rattle.std.proofs.Common.{◌≡◌, ℕ, zero, suc, ◌+◌, ◌<◌, ◌≤◌, ◌^◌, inl, inr, true, false, cond, ltb, eqb, List, [], ◌∷◌, ◌++◌, length, Option, Some, None, Result, Ok, Err, refl, sym, ap, subst, ◌∙◌, append_assoc, arith}
use Rattle.std.specs.Int.{w8}
use Rattle.std.proofs.lemmas.Bool.{ltb-false, le-ltb, eqb-true, eqb-false, ne_eqb, eq-eqb, or_parts}
use Rattle.pgw_types.specs.declared.error.PgWireError.{PgWireError}
use Rattle.pgw_types.specs.declared.error.PgWireError.TheVariants.{InvalidSecretKey, InvalidMessageBody}
use Rattle.pgw_types.specs.declared.context.ProtocolVersion.{ProtocolVersion}
use Rattle.pgw_types.specs.declared.context.ProtocolVersion.TheVariants.{PROTOCOL3_0, PROTOCOL3_2, PROTOCOL3_9999}
use Rattle.pgw_wire.specs.declared.secret_key.SecretKey.{SecretKey}
use Rattle.pgw_wire.specs.declared.secret_key.SecretKey.TheVariants.{I32, Bytes}
use Rattle.pgw_wire.specs.Reading.{◌>>=◌, nat_at, text_at, name_at, name_of, rest_at, up_to_mark, marked, marked_list_at}
use Rattle.pgw_wire.specs.Codes.{code_at, SpellsCode}
use Rattle.pgw_wire.specs.Keys.{is_no_key, key_int, key_by, key_of, SpellsKey}
use Rattle.pgw_wire.specs.Formats.{tried_at, SpellsText, SpellsName, SpellsMarked, ReadsFormat, ReadsLast}
use Rattle.pgw_wire.proofs.Laws.{bind_ok, ok_is, chosen, shorter_after}
use Rattle.pgw_wire.proofs.FieldLaws.{text_reads, nat_reads}
use Rattle.pgw_wire.proofs.FrameLaws.{rest_reads, tried_last}

-- ---- lists up to a mark

module _ {A : Type 0} (kind : List ℕ → Result (Option A × List ℕ) PgWireError)
    (Spells : Option A → List ℕ → Type 0)
    (shrinks : (bytes : List ℕ) (o : Option A) (rest : List ℕ) → kind bytes ≡ Ok (o, rest) → length rest <
    length bytes) (reads : ReadsFormat kind Spells) where
  step_found : (n : ℕ) (o : Option A) (bytes mid : List ℕ) (xs : List A) (rest front : List ℕ)
      → bytes ≡ front ++ mid → Spells o front
      → ((xs : List A) (rest : List ℕ) → up_to_mark kind n mid ≡ Ok (xs, rest) → (f : List ℕ) × (mid ≡ f ++ rest)
      × SpellsMarked Spells xs f)
      → marked (up_to_mark kind n) o mid ≡ Ok (xs, rest)
      → (f : List ℕ) × (bytes ≡ f ++ rest) × SpellsMarked Spells xs f
  step_found n None bytes mid xs rest front is s others e =
      subst (λ (y : List A × List ℕ). (f : List ℕ) × (bytes ≡ f ++ y.1) × SpellsMarked Spells y.0 f)
      (ok_is ([], mid) (xs, rest) e) (front, is, s)
  step_found n (Some x) bytes mid xs rest front is s others e =
      let b = bind_ok (up_to_mark kind n mid) (λ others. Ok (x ∷ others.0, others.1)) (xs, rest) e in
      let t = others b.0.0 b.0.1 b.1 in
      let made : List A × List ℕ = (x ∷ b.0.0, b.0.1) in
      let whole : bytes ≡ (front ++ t.0) ++ b.0.1 =
      is ∙ ap (λ (r : List ℕ). front ++ r) t.1 ∙ sym (append_assoc front t.0 b.0.1) in
      subst (λ (y : List A × List ℕ). (f : List ℕ) × (bytes ≡ f ++ y.1) × SpellsMarked Spells y.0 f)
      (ok_is made (xs, rest) b.2)
      (front ++ t.0, whole, (front, t.0, refl, s, t.2))

  up_found : (n : ℕ) (bytes : List ℕ) (xs : List A) (rest : List ℕ) → length bytes < 2 ^ 31
      → up_to_mark kind n bytes ≡ Ok (xs, rest) → (f : List ℕ) × (bytes ≡ f ++ rest) × SpellsMarked Spells xs f
  unfolding up_to_mark
  up_found zero bytes xs rest short e = absurd cc
  up_found (suc n) bytes xs rest short e =
      let a = bind_ok (kind bytes) (λ o. marked (up_to_mark kind n) o.0 o.1) (xs, rest) e in
      let s = reads.found bytes a.0.0 a.0.1 short a.1 in
      step_found n a.0.0 bytes a.0.1 xs rest s.0 s.1 s.2
      (λ xs rest e. up_found n a.0.1 xs rest (shorter_after s.0 a.0.1 bytes (2 ^ 31) s.1 short) e) a.2

  up_again : (n : ℕ) (xs : List A) (front rest : List ℕ) → length (front ++ rest) < n
      → SpellsMarked Spells xs front → up_to_mark kind n (front ++ rest) ≡ Ok (xs, rest)
  unfolding up_to_mark
  up_again zero xs front rest less h = absurd (omega (arith, less))
  up_again (suc n) [] front rest less h = rw (reads.only None front rest h) refl
  up_again (suc n) (x ∷ xs) front rest less h =
      let regrouped : front ++ rest ≡ h.0 ++ (h.1 ++ rest) =
      ap (λ (f : List ℕ). f ++ rest) h.2 ∙ append_assoc h.0 h.1 rest in
      let one : kind (h.0 ++ (h.1 ++ rest)) ≡ Ok (Some x, h.1 ++ rest) =
      reads.only (Some x) h.0 (h.1 ++ rest) h.3 in
      let down = shrinks (h.0 ++ (h.1 ++ rest)) (Some x) (h.1 ++ rest) one in
      let two : up_to_mark kind n (h.1 ++ rest) ≡ Ok (xs, rest) =
      up_again n xs h.1 rest (omega (arith, down, less, ap length regrouped)) h.4 in
      ap (up_to_mark kind (suc n)) regrouped ∙ rw (one, two) refl

  pub marked_reads : ReadsFormat (marked_list_at kind) (SpellsMarked Spells)
  marked_reads = record {
    found = λ bytes xs rest short e. up_found (length bytes + 1) bytes xs rest short e;
    only = λ xs front rest h. up_again (length (front ++ rest) + 1) xs front rest (omega arith) h;
  }

-- ---- names

not_empty : (t : List ℕ) → 0 < length t → eqb (length t) 0 ≡ false
not_empty t some = ne_eqb (length t) 0 (λ is. omega (arith, is, some))

named : (t front : List ℕ) → SpellsText t front → SpellsName (name_of t) front
named [] front s = s
named (b ∷ t) front s =
    let some : 0 < length (b ∷ t) = omega arith in
    let no : eqb (length (b ∷ t)) 0 ≡ false = not_empty (b ∷ t) some in
    rw no (s, some)

name_only : (o : Option (List ℕ)) (front rest : List ℕ) → SpellsName o front
    → name_at (front ++ rest) ≡ Ok (o, rest)
unfolding name_at
name_only None front rest h = rw (text_reads.only [] front rest h) refl
name_only (Some t) front rest h = rw (text_reads.only t front rest h.0, not_empty t h.1) refl

pub name_reads : ReadsFormat name_at SpellsName
unfolding name_at
name_reads = record {
  found = λ bytes o rest short e.
      let a = bind_ok (text_at bytes) (λ t. Ok (name_of t.0, t.1)) (o, rest) e in
      let s = text_reads.found bytes a.0.0 a.0.1 short a.1 in
      let made : Option (List ℕ) × List ℕ = (name_of a.0.0, a.0.1) in
      subst (λ (y : Option (List ℕ) × List ℕ). (f : List ℕ) × (bytes ≡ f ++ y.1) × SpellsName y.0 f)
      (ok_is made (o, rest) a.2)
      (s.0, s.1, named a.0.0 s.0 s.2);
  only = name_only;
}

-- ---- texts with a code

code_found : (bytes : List ℕ) (o : Option (ℕ × List ℕ)) (rest : List ℕ) → length bytes < 2 ^ 31
    → code_at bytes ≡ Ok (o, rest) → (f : List ℕ) × (bytes ≡ f ++ rest) × SpellsCode o f
unfolding code_at
code_found bytes o rest short e =
    let a =
    bind_ok (nat_at w8 bytes)
    (λ code. cond (eqb code.0 0) (Ok (None, code.1))
    (text_at code.1 >>= λ t. Ok (Some (code.0, t.0), t.1))) (o, rest) e in
    let s = (nat_reads w8).found bytes a.0.0 a.0.1 short a.1 in
    elim (chosen (eqb a.0.0 0) _ _ _ a.2) [
      | inl h ↦
          let made : Option (ℕ × List ℕ) × List ℕ = (None, a.0.1) in
          subst (λ (y : Option (ℕ × List ℕ) × List ℕ). (f : List ℕ) × (bytes ≡ f ++ y.1) × SpellsCode y.0 f)
          (ok_is made (o, rest) h.1)
          (s.0, s.1, (s.2.0, s.2.1 ∙ eqb-true _ _ h.0))
      | inr h ↦
          let b = bind_ok (text_at a.0.1) (λ t. Ok (Some (a.0.0, t.0), t.1)) (o, rest) h.1 in
          let t = text_reads.found a.0.1 b.0.0 b.0.1 (shorter_after s.0 a.0.1 bytes (2 ^ 31) s.1 short) b.1 in
          let made : Option (ℕ × List ℕ) × List ℕ = (Some (a.0.0, b.0.0), b.0.1) in
          let whole : bytes ≡ (s.0 ++ t.0) ++ b.0.1 =
          s.1 ∙ ap (λ (r : List ℕ). s.0 ++ r) t.1 ∙ sym (append_assoc s.0 t.0 b.0.1) in
          subst (λ (y : Option (ℕ × List ℕ) × List ℕ). (f : List ℕ) × (bytes ≡ f ++ y.1) × SpellsCode y.0 f)
          (ok_is made (o, rest) b.2)
          (s.0 ++ t.0, whole, ((s.0, t.0, refl, s.2, t.2), some a.0.0 (eqb-false a.0.0 0 h.0)))
    ]
  where
    some : (n : ℕ) → (n ≡ 0 → ⊥) → 0 < n
    some zero other = absurd (other refl)
    some (suc n) other = omega arith

code_only : (o : Option (ℕ × List ℕ)) (front rest : List ℕ) → SpellsCode o front
    → code_at (front ++ rest) ≡ Ok (o, rest)
unfolding code_at
code_only None front rest h = rw ((nat_reads w8).only 0 front rest h) refl
code_only (Some p) front rest h =
    let parts = h.0 in
    let regrouped : front ++ rest ≡ parts.0 ++ (parts.1 ++ rest) =
    ap (λ (f : List ℕ). f ++ rest) parts.2 ∙ append_assoc parts.0 parts.1 rest in
    let no : eqb p.0 0 ≡ false = ne_eqb p.0 0 (λ is. omega (arith, is, h.1)) in
    ap code_at regrouped
    ∙ rw (
      (nat_reads w8).only p.0 parts.0 (parts.1 ++ rest) parts.3,
      no,
      text_reads.only p.1 parts.1 rest
          parts.4,
    ) refl

pub code_reads : ReadsFormat code_at SpellsCode
code_reads = record { found = code_found; only = code_only }

-- ---- keys

-- the same reading under another name of its relation
pub last_as : {A : Type 0} (p : List ℕ → Result (A × List ℕ) PgWireError) (P Q : A → List ℕ → Type 0)
    → ((x : A) (f : List ℕ) → P x f → Q x f) → ((x : A) (f : List ℕ) → Q x f → P x f) → ReadsLast p P
    → ReadsLast p Q
last_as p P Q to from h = record {
  found = λ bytes x rest short e. let s = h.found bytes x rest short e in (s.0, s.1, to x s.0 s.2);
  only = λ x front q. h.only x front (from x front q);
}

refusal_no : {A : Type 0} (e : PgWireError) (x : A) → ◌≡◌ {A = Result A PgWireError} (Err e) (Ok x) → ⊥
refusal_no e x is = cc

sized : (v : ProtocolVersion) (bytes : List ℕ) (key : SecretKey) → key_of v bytes ≡ Ok key
    → (4 ≤ length bytes) × (length bytes ≤ 256) × (key_by v bytes ≡ Ok key)
unfolding key_of
sized v bytes key e = elim (chosen (is_no_key bytes) _ _ _ e) [
  | inl h ↦ absurd (refusal_no InvalidSecretKey key h.1)
  | inr h ↦ let p =
      or_parts (ltb (length bytes) 4) (ltb 256 (length bytes)) h.0 in (ltb-false _ _ p.0, ltb-false _ _ p.1, h.1)
]

key_to : (v : ProtocolVersion) (key : SecretKey) (bytes : List ℕ) → key_of v bytes ≡ Ok key
    → SpellsKey v key bytes
key_to PROTOCOL3_0 key bytes e =
    let s = sized PROTOCOL3_0 bytes key e in
    elim (chosen (eqb (length bytes) 4) _ _ _ s.2) [
      | inl h ↦ subst (λ (k : SecretKey). SpellsKey PROTOCOL3_0 k bytes) (ok_is (I32 (key_int bytes)) key h.1)
          (eqb-true _ _ h.0, refl)
      | inr h ↦ absurd (refusal_no InvalidMessageBody key h.1)
    ]
key_to PROTOCOL3_2 key bytes e =
    let s =
    sized PROTOCOL3_2 bytes key e in subst (λ (k : SecretKey). SpellsKey PROTOCOL3_2 k bytes)
    (ok_is (Bytes bytes) key s.2) (refl, s.0, s.1)
key_to PROTOCOL3_9999 key bytes e =
    let s =
    sized PROTOCOL3_9999 bytes key e in subst (λ (k : SecretKey). SpellsKey PROTOCOL3_9999 k bytes)
    (ok_is (Bytes bytes) key s.2) (refl, s.0, s.1)

key_from : (v : ProtocolVersion) (key : SecretKey) (bytes : List ℕ) → SpellsKey v key bytes
    → key_of v bytes ≡ Ok key
unfolding key_of
key_from PROTOCOL3_0 (I32 n) bytes h =
    let small : ltb (length bytes) 4 ≡ false = le-ltb _ _ (omega (arith, h.0)) in
    let great : ltb 256 (length bytes) ≡ false = le-ltb _ _ (omega (arith, h.0)) in
    let four : eqb (length bytes) 4 ≡ true = eq-eqb _ _ h.0 in
    rw (small, great, four) (ap (λ z. Ok (I32 z)) h.1)
key_from PROTOCOL3_0 (Bytes key) bytes h = absurd h
key_from PROTOCOL3_2 (I32 n) bytes h = absurd h
key_from PROTOCOL3_2 (Bytes key) bytes h =
    let small : ltb (length bytes) 4 ≡ false = le-ltb _ _ (omega (arith, ap length h.0, h.1)) in
    let great : ltb 256 (length bytes) ≡ false = le-ltb _ _ (omega (arith, ap length h.0, h.2)) in
    rw (small, great) (ap (λ k. Ok (Bytes k)) h.0)
key_from PROTOCOL3_9999 (I32 n) bytes h = absurd h
key_from PROTOCOL3_9999 (Bytes key) bytes h =
    let small : ltb (length bytes) 4 ≡ false = le-ltb _ _ (omega (arith, ap length h.0, h.1)) in
    let great : ltb 256 (length bytes) ≡ false = le-ltb _ _ (omega (arith, ap length h.0, h.2)) in
    rw (small, great) (ap (λ k. Ok (Bytes k)) h.0)

pub key_reads : (v : ProtocolVersion) → ReadsLast (tried_at (key_of v) rest_at) (SpellsKey v)
key_reads v =
    last_as (tried_at (key_of v) rest_at) (λ key bytes. (x : List ℕ) × (key_of v x ≡ Ok key) × (bytes ≡ x))
    (SpellsKey v)
    (λ key bytes h. subst (SpellsKey v key) (sym h.2) (key_to v key h.0 h.1))
    (λ key bytes h. (bytes, key_from v key bytes h, refl))
    (tried_last (key_of v) rest_at (λ x bytes. bytes ≡ x) rest_reads)
