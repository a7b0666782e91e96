-- A message with a length and no type byte: what is read is what is spelled, and what is written spells the message.
use Rattle.std.proofs.Common.{◌≡◌, inl, inr, ℕ, suc, ◌+◌, ◌-◌, ◌<◌, ◌^◌, ltb, List, ◌∷◌, ◌++◌, length, drop, Option, Some, None, Result, Ok, refl, sym, ap, ◌∙◌, arith}
use Rattle.std.specs.Int.{w32, to_be_bytes}
use Rattle.std.proofs.lemmas.Bool.{ltb-false, le-ltb, lt-ltb, ltb-true}
use Rattle.pgw_types.specs.declared.error.PgWireError.{PgWireError}
use Rattle.pgw_wire.specs.declared.framing.Framing.{Framing}
use Rattle.pgw_wire.specs.declared.framing.Framing.TheVariants.{Typed, Untyped}
use Rattle.pgw_wire.specs.Framing.{stated_length, length_frame, frame, wire_front, header, length_field, encoded}
use Rattle.pgw_wire.specs.Formats.{SpellsUntyped}
use Rattle.pgw_wire.proofs.Laws.{which}
use Rattle.pgw_wire.proofs.FieldLaws.{wide32}
use Rattle.pgw_wire.proofs.MessageLaws.{front_found, front_again}
use Rattle.pgw_wire.proofs.WrittenLaws.{nat_written, encoded_parts}

one_less : (a b : ℕ) → ltb (suc a) (1 + b) ≡ ltb a b
one_less a b = elim (which (ltb a b)) [
  | inl h ↦ lt-ltb _ _ (omega (arith, ltb-true _ _ h)) ∙ sym h
  | inr h ↦ le-ltb _ _ (omega (arith, ltb-false _ _ h)) ∙ sym h
]

-- a message without a type byte is as one behind any type byte
module _ {M : Type 0} (limit : ℕ) (read : List ℕ → Result M PgWireError) where
  behind : (bytes : List ℕ) → wire_front (Typed 0) limit read (0 ∷ bytes) ≡ wire_front Untyped limit read bytes
  unfolding wire_front frame length_frame
  behind bytes =
      let a : ltb (length (0 ∷ bytes)) 5 ≡ ltb (length bytes) 4 = one_less (length bytes) 4 in
      let d : ltb (length (0 ∷ bytes)) (1 + stated_length 0 bytes) ≡ ltb (length bytes) (stated_length 0 bytes) =
      one_less (length bytes) (stated_length 0 bytes) in
      let z : 0 + stated_length 0 bytes ≡ stated_length 0 bytes = omega arith in
      elim (which (ltb (length bytes) 4)) [
        | inl h ↦ rw (a, h) refl
        | inr h ↦ elim (which (ltb limit (stated_length 0 bytes))) [
          | inl k ↦ rw (a, h, k) refl
          | inr k ↦ elim (which (ltb (stated_length 0 bytes) 4)) [
            | inl m ↦ rw (a, h, k, m) refl
            | inr m ↦ elim (which (ltb (length bytes) (stated_length 0 bytes))) [
              | inl n ↦ rw (a, h, k, m, z, d, n) refl
              | inr n ↦ rw (a, h, k, m, z, d, n)
                  (rw (minus (stated_length 0 bytes), plus (stated_length 0 bytes)) refl)
            ]
          ]
        ]
      ]
    where
      minus : (n : ℕ) → 1 + n - 5 ≡ n - 4
      minus n = omega arith

      plus : (n : ℕ) → 1 + n ≡ suc n
      plus n = omega arith

  module _ (small : limit < 2 ^ 31) (P : M → List ℕ → Type 0) where
    pub untyped_found : ((body : List ℕ) (m : M) → length body < 2 ^ 31 → read body ≡ Ok m → P m body)
        → (bytes : List ℕ) (m : M) (rest : List ℕ) → wire_front Untyped limit read bytes ≡ Ok (Some (m, rest))
        → (g : List ℕ) × (bytes ≡ g ++ rest) × SpellsUntyped limit P m g
    untyped_found law bytes m rest e =
        let t = front_found 0 limit small read P (0 ∷ bytes) m rest refl law (behind bytes ∙ e) in
        let s = t.2 in
        let whole : 0 ∷ bytes ≡ (0 ∷ (s.0 ++ s.1)) ++ rest = t.1 ∙ ap (λ (g : List ℕ). g ++ rest) s.2 in
        (s.0 ++ s.1, ap (λ (l : List ℕ). drop 1 l) whole, (s.0, s.1, refl, s.3, s.4, s.5))

    pub untyped_again : ((body : List ℕ) (m : M) → P m body → read body ≡ Ok m) → (m : M) (g rest : List ℕ)
        → SpellsUntyped limit P m g → wire_front Untyped limit read (g ++ rest) ≡ Ok (Some (m, rest))
    untyped_again law m g rest h =
        sym (behind (g ++ rest))
        ∙ front_again 0 limit small read P law m (0 ∷ g) rest
        (h.0, h.1, ap (λ (l : List ℕ). 0 ∷ l) h.2, h.3, h.4, h.5)

-- ---- writing

pub untyped_written : {M : Type 0} (framing : Framing) (limit : ℕ) (P : M → List ℕ → Type 0) (m : M)
    (fault : Option PgWireError) (body g : List ℕ)
    → length_field framing ≡ 4 → ((n : ℕ) → header framing n ≡ to_be_bytes w32 (n + 4)) → limit < 2 ^ 31
    → encoded framing limit fault body ≡ Ok g → (fault ≡ None → P m body)
    → SpellsUntyped limit P m g
untyped_written framing limit P m fault body g four head small is law =
    let p = encoded_parts framing limit fault body g small is in (
      to_be_bytes w32 (length body + 4),
      body,
      p.2
          ∙ ap (λ (h : List ℕ). h ++ body) (head (length body)),
      nat_written w32 wide32 (length body + 4)
          (omega (arith, p.0, four, small)),
      omega (arith, p.0, four),
      law p.1,
    )
