-- Values that may be NULL: what is read is what is spelled.
use Rattle.std.proofs.Common.{◌≡◌, ℕ, ℤ, pos, negsuc, ◌<◌, ◌≤◌, ◌^◌, List, [], ◌++◌, length, Option, Some, None, Ok, refl, sym, ap, subst, ◌∙◌, append_assoc, arith, length-append}
use Rattle.std.specs.Int.{w32}
use Rattle.std.proofs.lemmas.List.{append-nil}
use Rattle.pgw_wire.specs.Reading.{◌>>=◌, int_at, octets_at}
use Rattle.pgw_wire.specs.Formats.{SpellsInt, ReadsFormat}
use Rattle.pgw_wire.proofs.Laws.{bind_ok, ok_is, shorter_after}
use Rattle.pgw_wire.proofs.FieldLaws.{int_reads, octets_reads}
use Rattle.pgw_wire.specs.Values.{octets_or_null, nullable_at, SpellsNullable}

value_found : (z : ℤ) (head bytes : List ℕ) (o : Option (List ℕ)) (rest : List ℕ) → length bytes < 2 ^ 31
    → SpellsInt w32 z head → octets_or_null z bytes ≡ Ok (o, rest)
    → (f : List ℕ) × (bytes ≡ f ++ rest) × SpellsNullable o (head ++ f)
value_found (pos n) head bytes o rest short h e =
    let a = bind_ok (octets_at n bytes) (λ x. Ok (Some x.0, x.1)) (o, rest) e in
    let s = (octets_reads n).found bytes a.0.0 a.0.1 short a.1 in
    let made : Option (List ℕ) × List ℕ = (Some a.0.0, a.0.1) in
    subst (λ (y : Option (List ℕ) × List ℕ). (f : List ℕ) × (bytes ≡ f ++ y.1) × SpellsNullable y.0 (head ++ f))
    (ok_is made (o, rest) a.2)
    (s.0, s.1, (head, ap (λ (v : List ℕ). head ++ v) s.2.0, (h.0, h.1 ∙ ap (λ (n : ℕ). pos n) (sym s.2.1))))
value_found (negsuc n) head bytes o rest short h e =
    let made : Option (List ℕ) × List ℕ = (None, bytes) in
    subst (λ (y : Option (List ℕ) × List ℕ). (f : List ℕ) × (bytes ≡ f ++ y.1) × SpellsNullable y.0 (head ++ f))
    (ok_is made (o, rest) e)
    ([], refl, (n, subst (λ (b : List ℕ). SpellsInt w32 (negsuc n) b) (sym (append-nil head)) h))

nullable_found : (bytes : List ℕ) (o : Option (List ℕ)) (rest : List ℕ) → length bytes < 2 ^ 31
    → nullable_at bytes ≡ Ok (o, rest) → (front : List ℕ) × (bytes ≡ front ++ rest) × SpellsNullable o front
unfolding nullable_at
nullable_found bytes o rest short e =
    let a = bind_ok (int_at w32 bytes) (λ len. octets_or_null len.0 len.1) (o, rest) e in
    let s = (int_reads w32).found bytes a.0.0 a.0.1 short a.1 in
    let t = value_found a.0.0 s.0 a.0.1 o rest (shorter_after s.0 a.0.1 bytes (2 ^ 31) s.1 short) s.2 a.2 in
    let whole : bytes ≡ (s.0 ++ t.0) ++ rest =
    s.1 ∙ ap (λ (r : List ℕ). s.0 ++ r) t.1 ∙ sym (append_assoc s.0 t.0 rest) in
    (s.0 ++ t.0, whole, t.2)

nullable_again : (o : Option (List ℕ)) (front rest : List ℕ) → SpellsNullable o front
    → nullable_at (front ++ rest) ≡ Ok (o, rest)
unfolding nullable_at
nullable_again None front rest h = rw ((int_reads w32).only (negsuc h.0) front rest h.1) refl
nullable_again (Some value) front rest h =
    let regrouped : front ++ rest ≡ h.0 ++ (value ++ rest) =
    ap (λ (f : List ℕ). f ++ rest) h.1 ∙ append_assoc h.0 value rest in
    let one : int_at w32 (h.0 ++ (value ++ rest)) ≡ Ok (pos (length value), value ++ rest) =
    (int_reads w32).only (pos (length value)) h.0 (value ++ rest) h.2 in
    let two : octets_at (length value) (value ++ rest) ≡ Ok (value, rest) =
    (octets_reads (length value)).only value value rest (refl, refl) in
    ap (λ (bytes : List ℕ). int_at w32 bytes >>= λ len. octets_or_null len.0 len.1) regrouped ∙ rw (one, two) refl

pub nullable_reads : ReadsFormat nullable_at SpellsNullable
nullable_reads = record { found = nullable_found; only = nullable_again }

pub nullable_least : (o : Option (List ℕ)) (f : List ℕ) → SpellsNullable o f → 4 ≤ length f
nullable_least None f h = omega (arith, h.1.0)
nullable_least (Some value) f h = omega (arith, ap length h.1, length-append h.0 value, h.2.0)
