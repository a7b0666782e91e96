-- The rows of the login are exact.
use Rattle.std.proofs.Common.{◌≡◌, ℕ, ◌<◌, ◌≤◌, ◌^◌, inl, inr, true, eqb, List, [], ◌∷◌, ◌++◌, length, Result, Ok, refl, sym, ap, subst, ◌∙◌, append_assoc, arith, lit<, length-append}
use Rattle.std.specs.Int.{w32}
use Rattle.std.proofs.lemmas.Bool.{eqb-true}
use Rattle.pgw_types.specs.declared.error.PgWireError.{PgWireError}
use Rattle.pgw_types.specs.declared.context.DecodeContext.{DecodeContext}
use Rattle.pgw_wire.specs.Reading.{◌>>=◌, text_at, nat_at, int_at, name_at, octets_at, rest_at, marked_list_at}
use Rattle.pgw_wire.specs.CodeLaws.{name_shrinks}
use Rattle.pgw_wire.specs.Keys.{key_of, SpellsKey}
use Rattle.pgw_wire.specs.Formats.{made_at, tried_at, counted_at, IsRow, ReadsLast, SpellsText, SpellsInt, SpellsOctets, SpellsName, SpellsMarked, SpellsCounted}
use Rattle.pgw_wire.proofs.Laws.{bind_ok, step_value, ok_is, chosen, shorter_after}
use Rattle.pgw_wire.proofs.FieldLaws.{text_reads, nat_reads, int_reads, octets_reads}
use Rattle.pgw_wire.proofs.FrameLaws.{reads_last, rest_reads, pair_last, made_last, counted_reads, count32}
use Rattle.pgw_wire.proofs.MarkLaws.{marked_reads, name_reads, key_reads}
use Rattle.pgw_wire.proofs.MessageLaws.{is_row}
use Rattle.pgw_startup.specs.declared.authentication.Authentication.{Authentication}
use Rattle.pgw_startup.specs.declared.authentication.Authentication.TheVariants as auth
use Rattle.pgw_startup.specs.Login.{by_code, authentication_of, authentication_code, SpellsAfter, SpellsAuthentication, parameter_status_of, SpellsParameterStatus, backend_key_data_of, SpellsBackendKeyData, negotiate_of, SpellsNegotiate}

-- ---- Authentication

-- what is found after a code
Found : ℕ → List ℕ → Authentication → List ℕ → Type 0
Found code bytes m rest = (f : List ℕ) × (bytes ≡ f ++ rest) × (authentication_code m ≡ code) × SpellsAfter m f

plain : (code literal : ℕ) (m : Authentication) (bytes : List ℕ) (n : Authentication) (rest : List ℕ)
    → eqb code literal ≡ true → authentication_code m ≡ literal → SpellsAfter m []
    → step_value {A = Authentication × List ℕ} (m, bytes) ≡ step_value (n, rest) → Found code bytes n rest
unfolding Found
plain code literal m bytes n rest is of after e =
    let made : Authentication × List ℕ = (m, bytes) in
    subst (λ (y : Authentication × List ℕ). (f : List ℕ) × (bytes ≡ f ++ y.1) × (authentication_code y.0 ≡ code) ×
    SpellsAfter y.0 f) (ok_is made (n, rest) e) (
      [],
      refl,
      of
          ∙ sym (eqb-true _ _ is),
      after,
    )

made : {A : Type 0} (code literal : ℕ) (make : A → Authentication) (p : List ℕ → Result (A × List ℕ) PgWireError)
    (P : A → List ℕ → Type 0)
    → ReadsLast p P → ((x : A) → authentication_code (make x) ≡ literal)
    → ((x : A) (f : List ℕ) → P x f → SpellsAfter (make x) f)
    → (bytes : List ℕ) (n : Authentication) (rest : List ℕ) → length bytes < 2 ^ 31 → eqb code literal ≡ true
    → made_at make p bytes ≡ Ok (n, rest) → Found code bytes n rest
unfolding Found
made code literal make p P h of after bytes n rest short is e =
    let a = bind_ok (p bytes) (λ x. Ok (make x.0, x.1)) (n, rest) e in
    let s = h.found bytes a.0.0 a.0.1 short a.1 in
    let out : Authentication × List ℕ = (make a.0.0, a.0.1) in
    subst (λ (y : Authentication × List ℕ). (f : List ℕ) × (bytes ≡ f ++ y.1) × (authentication_code y.0 ≡ code) ×
    SpellsAfter y.0 f) (ok_is out (n, rest) a.2)
    (s.0, s.1, of a.0.0 ∙ sym (eqb-true _ _ is), after a.0.0 s.0 s.2)

methods_reads : ReadsLast (marked_list_at name_at) (SpellsMarked SpellsName)
methods_reads =
    reads_last (marked_list_at name_at) (SpellsMarked SpellsName)
    (marked_reads name_at SpellsName name_shrinks name_reads)

by_code_found : (code : ℕ) (bytes : List ℕ) (m : Authentication) (rest : List ℕ) → length bytes < 2 ^ 31
    → by_code code bytes ≡ Ok (m, rest) → Found code bytes m rest
unfolding by_code
by_code_found code bytes m rest short e =
    elim (chosen (eqb code 0) _ _ _ e) [
      | inl h ↦ plain code 0 auth.Ok bytes m rest h.0 refl refl h.1
      | inr h ↦ elim (chosen (eqb code 2) _ _ _ h.1) [
        | inl h ↦ plain code 2 auth.KerberosV5 bytes m rest h.0 refl refl h.1
        | inr h ↦ elim (chosen (eqb code 3) _ _ _ h.1) [
          | inl h ↦ plain code 3 auth.CleartextPassword bytes m rest h.0 refl refl h.1
          | inr h ↦ elim (chosen (eqb code 5) _ _ _ h.1) [
            | inl h ↦ made code 5 auth.MD5Password (octets_at 4) (SpellsOctets 4)
                (reads_last (octets_at 4) (SpellsOctets 4) (octets_reads 4)) (λ x. refl) (λ x f p. p) bytes m rest
                short h.0 h.1
            | inr h ↦ elim (chosen (eqb code 10) _ _ _ h.1) [
              | inl h ↦ made code 10 auth.SASL (marked_list_at name_at) (SpellsMarked SpellsName) methods_reads
                  (λ x. refl) (λ x f p. p) bytes m rest short h.0 h.1
              | inr h ↦ elim (chosen (eqb code 11) _ _ _ h.1) [
                | inl h ↦ made code 11 auth.SASLContinue rest_at (λ x bytes. bytes ≡ x) rest_reads (λ x. refl)
                    (λ x f p. p) bytes m rest short h.0 h.1
                | inr h ↦ elim (chosen (eqb code 12) _ _ _ h.1) [
                  | inl h ↦ made code 12 auth.SASLFinal rest_at (λ x bytes. bytes ≡ x) rest_reads (λ x. refl)
                      (λ x f p. p) bytes m rest short h.0 h.1
                  | inr h ↦ absurd cc
                ]
              ]
            ]
          ]
        ]
      ]
    ]

by_code_again : (m : Authentication) (bytes : List ℕ) → SpellsAfter m bytes
    → by_code (authentication_code m) bytes ≡ Ok (m, [])
unfolding by_code
by_code_again auth.Ok bytes h = rw h refl
by_code_again auth.KerberosV5 bytes h = rw h refl
by_code_again auth.CleartextPassword bytes h = rw h refl
by_code_again (auth.MD5Password salt) bytes h =
    rw ((reads_last (octets_at 4) (SpellsOctets 4) (octets_reads 4)).only salt bytes h) refl
by_code_again (auth.SASL methods) bytes h = rw (methods_reads.only methods bytes h) refl
by_code_again (auth.SASLContinue rest) bytes h = rw (rest_reads.only rest bytes h) refl
by_code_again (auth.SASLFinal rest) bytes h = rw (rest_reads.only rest bytes h) refl

authentication_reads : ReadsLast (λ bytes. nat_at w32 bytes >>= λ code. by_code code.0 code.1)
    SpellsAuthentication
unfolding Found
authentication_reads = record {
  found = λ bytes m rest short e.
      let a = bind_ok (nat_at w32 bytes) (λ code. by_code code.0 code.1) (m, rest) e in
      let s = (nat_reads w32).found bytes a.0.0 a.0.1 short a.1 in
      let t = by_code_found a.0.0 a.0.1 m rest (shorter_after s.0 a.0.1 bytes (2 ^ 31) s.1 short) a.2 in
      let whole : bytes ≡ (s.0 ++ t.0) ++ rest =
      s.1 ∙ ap (λ (r : List ℕ). s.0 ++ r) t.1 ∙ sym (append_assoc s.0 t.0 rest) in
      (s.0 ++ t.0, whole, (s.0, t.0, refl, (s.2.0, s.2.1 ∙ sym t.2), t.3));
  only = λ m front h.
      ap (λ (bytes : List ℕ). nat_at w32 bytes >>= λ code. by_code code.0 code.1) h.2
      ∙ rw ((nat_reads w32).only (authentication_code m) h.0 h.1 h.3) (by_code_again m h.1 h.4);
}

pub authentication : (ctx : DecodeContext) → IsRow 82 30000 (authentication_of ctx) SpellsAuthentication
unfolding authentication_of
authentication ctx =
    is_row 82 30000 (lit< tt) (λ bytes. nat_at w32 bytes >>= λ code. by_code code.0 code.1) SpellsAuthentication
    authentication_reads

-- ---- the others

pub parameter_status : (ctx : DecodeContext) → IsRow 83 30000 (parameter_status_of ctx) SpellsParameterStatus
unfolding parameter_status_of
parameter_status ctx = is_row 83 30000 (lit< tt) _ SpellsParameterStatus
    (made_last (λ p. record { name = p.0; value = p.1 }) (λ m. (m.name, m.value)) _ _ (λ x. refl) (λ y. refl)
    (pair_last text_at SpellsText text_at SpellsText text_reads (reads_last text_at SpellsText text_reads)))

pub backend_key_data : (ctx : DecodeContext)
    → IsRow 75 30000 (backend_key_data_of ctx) (SpellsBackendKeyData ctx.protocol_version)
unfolding backend_key_data_of
backend_key_data ctx = is_row 75 30000 (lit< tt) _ (SpellsBackendKeyData ctx.protocol_version)
    (made_last (λ p. record { pid = p.0; secret_key = p.1 }) (λ m. (m.pid, m.secret_key)) _ _ (λ x. refl)
    (λ y. refl)
    (pair_last (int_at w32) (SpellsInt w32) (tried_at (key_of ctx.protocol_version) rest_at)
    (SpellsKey ctx.protocol_version) (int_reads w32) (key_reads ctx.protocol_version)))

text_least : (t bytes : List ℕ) → SpellsText t bytes → 1 ≤ length bytes
text_least t bytes h = omega (arith, ap length h.1, length-append h.0 (0 ∷ []))

pub negotiate : (ctx : DecodeContext) → IsRow 118 30000 (negotiate_of ctx) SpellsNegotiate
unfolding negotiate_of
negotiate ctx = is_row 118 30000 (lit< tt) _ SpellsNegotiate
    (made_last (λ p. record { newest_minor_protocol = p.0; unsupported_options = p.1 })
    (λ m. (m.newest_minor_protocol, m.unsupported_options)) _ _ (λ x. refl) (λ y. refl)
    (pair_last (int_at w32) (SpellsInt w32) (counted_at w32 1 text_at) (SpellsCounted w32 SpellsText)
    (int_reads w32)
    (reads_last (counted_at w32 1 text_at) (SpellsCounted w32 SpellsText)
    (counted_reads w32 count32 text_at SpellsText 1 (lit< tt) text_least text_reads))))
