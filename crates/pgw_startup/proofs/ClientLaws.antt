-- The rows of a client's login are exact.
use Rattle.std.proofs.Common.{◌≡◌, inl, inr, ℕ, ℤ, pos, negsuc, ◌<◌, ◌^◌, true, List, [], ◌++◌, length, Option, Some, None, Ok, refl, sym, ap, subst, ◌∙◌, append_assoc, lit<}
use Rattle.std.specs.Ordering.{int_eq}
use Rattle.std.specs.Int.{w32}
use Rattle.std.proofs.lemmas.Bool.Decides.{Decides-int_eq}
use Rattle.std.proofs.lemmas.List.{append-nil}
use Rattle.pgw_types.specs.declared.context.DecodeContext.{DecodeContext}
use Rattle.pgw_wire.specs.Reading.{◌>>=◌, int_at, octets_at, rest_at, text_at}
use Rattle.pgw_wire.specs.Formats.{made_at, IsRow, ReadsFormat, SpellsText, SpellsInt}
use Rattle.pgw_wire.proofs.Laws.{bind_ok, ok_is, chosen, shorter_after, pair_reads}
use Rattle.pgw_wire.proofs.FieldLaws.{text_reads, int_reads, octets_reads}
use Rattle.pgw_wire.proofs.FrameLaws.{reads_last, rest_reads, made_last}
use Rattle.pgw_wire.proofs.MarkLaws.{last_as}
use Rattle.pgw_wire.proofs.MessageLaws.{is_row}
use Rattle.pgw_startup.specs.declared.password.PasswordMessageFamily.TheVariants as family
use Rattle.pgw_startup.specs.Password.{password_payload, SpellsPassword, octets_counted, octets_or_none, data_at, SpellsData, initial_response_of, SpellsInitialResponse, sasl_response_in, SpellsResponse, family_of, SpellsRaw}
use Rattle.pgw_startup.proofs.FirstLaws.{made_some}

pub password : IsRow 112 10000 password_payload SpellsPassword
unfolding password_payload
password =
    is_row 112 10000 (lit< tt) _ SpellsPassword
    (made_last (λ t. record { password = t }) (λ m. m.password) text_at SpellsText (λ x. refl) (λ y. refl)
    (reads_last text_at SpellsText text_reads))

-- ---- data with a length

minus_one : (z : ℤ) → int_eq z (negsuc 0) ≡ true → z ≡ negsuc 0
minus_one z h = (Decides-int_eq z (negsuc 0)).0 h

counted_found : (z : ℤ) (head bytes : List ℕ) (o : Option (List ℕ)) (rest : List ℕ) → length bytes < 2 ^ 31
    → SpellsInt w32 z head → octets_counted z bytes ≡ Ok (o, rest)
    → (f : List ℕ) × (bytes ≡ f ++ rest) × SpellsData o (head ++ f)
counted_found (pos n) head bytes o rest short h e =
    let a = bind_ok (octets_at n bytes) (λ x. Ok (Some x.0, x.1)) (o, rest) e in
    let s = (octets_reads n).found bytes a.0.0 a.0.1 short a.1 in
    let made : Option (List ℕ) × List ℕ = (Some a.0.0, a.0.1) in
    subst (λ (y : Option (List ℕ) × List ℕ). (f : List ℕ) × (bytes ≡ f ++ y.1) × SpellsData y.0 (head ++ f))
    (ok_is made (o, rest) a.2)
    (s.0, s.1, (head, ap (λ (v : List ℕ). head ++ v) s.2.0, (h.0, h.1 ∙ ap (λ (n : ℕ). pos n) (sym s.2.1))))
counted_found (negsuc n) head bytes o rest short h e = absurd cc

payload_found : (z : ℤ) (head bytes : List ℕ) (o : Option (List ℕ)) (rest : List ℕ) → length bytes < 2 ^ 31
    → SpellsInt w32 z head → octets_or_none z bytes ≡ Ok (o, rest)
    → (f : List ℕ) × (bytes ≡ f ++ rest) × SpellsData o (head ++ f)
payload_found z head bytes o rest short h e = elim (chosen (int_eq z (negsuc 0)) _ _ _ e) [
  | inl g ↦
      let made : Option (List ℕ) × List ℕ = (None, bytes) in
      subst (λ (y : Option (List ℕ) × List ℕ). (f : List ℕ) × (bytes ≡ f ++ y.1) × SpellsData y.0 (head ++ f))
      (ok_is made (o, rest) g.1) (
        [],
        refl,
        subst (λ (b : List ℕ). SpellsInt w32 (negsuc 0) b) (sym (append-nil head)) (
          h.0,
          h.1
              ∙ minus_one z g.0,
        ),
      )
  | inr g ↦ counted_found z head bytes o rest short h g.1
]

data_found : (bytes : List ℕ) (o : Option (List ℕ)) (rest : List ℕ) → length bytes < 2 ^ 31
    → data_at bytes ≡ Ok (o, rest) → (front : List ℕ) × (bytes ≡ front ++ rest) × SpellsData o front
unfolding data_at
data_found bytes o rest short e =
    let a = bind_ok (int_at w32 bytes) (λ len. octets_or_none len.0 len.1) (o, rest) e in
    let s = (int_reads w32).found bytes a.0.0 a.0.1 short a.1 in
    let t = payload_found a.0.0 s.0 a.0.1 o rest (shorter_after s.0 a.0.1 bytes (2 ^ 31) s.1 short) s.2 a.2 in
    let whole : bytes ≡ (s.0 ++ t.0) ++ rest =
    s.1 ∙ ap (λ (r : List ℕ). s.0 ++ r) t.1 ∙ sym (append_assoc s.0 t.0 rest) in
    (s.0 ++ t.0, whole, t.2)

data_again : (o : Option (List ℕ)) (front rest : List ℕ) → SpellsData o front
    → data_at (front ++ rest) ≡ Ok (o, rest)
unfolding data_at
data_again None front rest h = rw ((int_reads w32).only (negsuc 0) front rest h) refl
data_again (Some value) front rest h =
    let regrouped : front ++ rest ≡ h.0 ++ (value ++ rest) =
    ap (λ (f : List ℕ). f ++ rest) h.1 ∙ append_assoc h.0 value rest in
    let one : int_at w32 (h.0 ++ (value ++ rest)) ≡ Ok (pos (length value), value ++ rest) =
    (int_reads w32).only (pos (length value)) h.0 (value ++ rest) h.2 in
    let two : octets_at (length value) (value ++ rest) ≡ Ok (value, rest) =
    (octets_reads (length value)).only value value rest (refl, refl) in
    ap (λ (bytes : List ℕ). int_at w32 bytes >>= λ len. octets_or_none len.0 len.1) regrouped ∙ rw (one, two) refl

data_reads : ReadsFormat data_at SpellsData
data_reads = record { found = data_found; only = data_again }

-- ---- the others

pub initial_response : IsRow 112 10000 initial_response_of SpellsInitialResponse
unfolding initial_response_of
initial_response = is_row 112 10000 (lit< tt) _ SpellsInitialResponse
    (made_last (λ p. record { auth_method = p.0; payload = p.1 }) (λ m. (m.auth_method, m.payload)) _ _
    (λ x. refl) (λ y. refl)
    (reads_last _ _ (pair_reads text_at SpellsText data_at SpellsData text_reads data_reads)))

pub response : IsRow 112 10000 sasl_response_in SpellsResponse
unfolding sasl_response_in
response =
    is_row 112 10000 (lit< tt) _ SpellsResponse
    (made_last (λ b. record { payload = b }) (λ m. m.payload) rest_at (λ x bytes. bytes ≡ x) (λ x. refl)
    (λ y. refl) rest_reads)

pub raw : (ctx : DecodeContext) → IsRow 112 10000 (family_of ctx) SpellsRaw
unfolding family_of
raw ctx = is_row 112 10000 (lit< tt) _ SpellsRaw
    (last_as (made_at family.Raw rest_at) (λ m bytes. (x : List ℕ) × (bytes ≡ x) × (family.Raw x ≡ m)) SpellsRaw
    (λ m bytes h. sym h.2 ∙ ap (λ (b : List ℕ). family.Raw b) (sym h.1)) (λ m bytes h. (bytes, refl, sym h))
    (made_some family.Raw rest_at (λ x bytes. bytes ≡ x) rest_reads))
