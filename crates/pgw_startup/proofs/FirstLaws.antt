-- The messages without a type byte: what is read is what is spelled.
use Rattle.std.proofs.Common.{◌≡◌, inl, inr, ℕ, ◌<◌, ◌≤◌, ◌^◌, true, false, ltb, eqb, List, [], ◌∷◌, ◌++◌, length, Some, Result, Ok, refl, sym, ap, subst, ◌∙◌, arith, lit<, length-append}
use Rattle.std.specs.Int.{w16}
use Rattle.std.proofs.lemmas.Bool.{le-ltb, eqb-true, eq-eqb}
use Rattle.pgw_types.specs.declared.error.PgWireError.{PgWireError}
use Rattle.pgw_types.specs.declared.context.DecodeContext.{DecodeContext}
use Rattle.pgw_wire.specs.declared.framing.Framing.TheVariants.{Untyped}
use Rattle.pgw_wire.specs.Reading.{nat_at, marked_list_at}
use Rattle.pgw_wire.specs.Framing.{wire_front}
use Rattle.pgw_wire.specs.Formats.{pair_at, Pair, made_at, tried_at, SpellsNat, SpellsMarked, ReadsLast, SpellsUntyped}
use Rattle.pgw_wire.specs.Pairs.{pair_at as param_at, from_pairs}
use Rattle.pgw_wire.proofs.Laws.{bind_ok, ok_is, chosen, tried_some}
use Rattle.pgw_wire.proofs.UntypedLaws.{untyped_found, untyped_again}
use Rattle.pgw_wire.proofs.FieldLaws.{nat_reads}
use Rattle.pgw_wire.proofs.FrameLaws.{reads_last, pair_last, made_last, all_found, all_again}
use Rattle.pgw_startup.specs.declared.startup.Startup.{Startup}
use Rattle.pgw_startup.specs.Startup.{three, startup_from, startup_of, SpellsPair, SpellsPairs, SpellsStartup}
use Rattle.pgw_startup.proofs.PairsLaws.{pairs_reads}

-- ---- Startup

three_is : (n m : ℕ) → three n ≡ Ok m → (m ≡ 3) × (m ≡ n)
unfolding three
three_is n m e = elim (chosen (eqb n 3) _ _ _ e) [
  | inl h ↦ let same : n ≡ m = ok_is n m h.1 in (sym same ∙ eqb-true _ _ h.0, sym same)
  | inr h ↦ absurd cc
]

pub made_some : {A B : Type 0} (make : A → B) (p : List ℕ → Result (A × List ℕ) PgWireError)
    (P : A → List ℕ → Type 0)
    → ReadsLast p P → ReadsLast (made_at make p) (λ y bytes. (x : A) × P x bytes × (make x ≡ y))
made_some {A} {B} make p P hp = record {
  found = λ bytes y rest fits e.
      let a = bind_ok (p bytes) (λ x. Ok (make x.0, x.1)) (y, rest) e in
      let s = hp.found bytes a.0.0 a.0.1 fits a.1 in
      let made : B × List ℕ = (make a.0.0, a.0.1) in
      subst (λ (z : B × List ℕ). (wire_front : List ℕ) × (bytes ≡ wire_front ++ z.1) ×
      ((x : A) × P x wire_front × (make x ≡ z.0))) (ok_is made (y, rest) a.2)
      (s.0, s.1, (a.0.0, s.2, refl));
  only = λ y wire_front h. rw (hp.only h.0 wire_front h.1, h.2) refl;
}

Major : ℕ → List ℕ → Type 0
Major n bytes = (x : ℕ) × (three x ≡ Ok n) × SpellsNat w16 x bytes

Parts : Startup → List ℕ → Type 0
Parts m =
    Pair Major (Pair (SpellsNat w16) SpellsPairs)
    (m.protocol_number_major, (m.protocol_number_minor, m.parameters))

parts_reads : ReadsLast
    (made_at startup_from
    (pair_at (tried_at three (nat_at w16))
    (pair_at (nat_at w16) (made_at from_pairs (marked_list_at param_at))))) Parts
unfolding Parts Major
parts_reads =
    made_last startup_from (λ m. (m.protocol_number_major, (m.protocol_number_minor, m.parameters))) _ _
    (λ x. refl) (λ y. refl)
    (pair_last (tried_at three (nat_at w16)) (λ n bytes. (x : ℕ) × (three x ≡ Ok n) × SpellsNat w16 x bytes) _ _
    (tried_some three (nat_at w16) (SpellsNat w16) (nat_reads w16))
    (pair_last (nat_at w16) (SpellsNat w16) (made_at from_pairs (marked_list_at param_at)) SpellsPairs
    (nat_reads w16)
    (made_some from_pairs (marked_list_at param_at) (SpellsMarked SpellsPair) (reads_last _ _ pairs_reads))))

pairs_least : (pairs : List (List ℕ × List ℕ)) (bytes : List ℕ) → SpellsMarked SpellsPair pairs bytes
    → 1 ≤ length bytes
pairs_least [] bytes h = omega (arith, ap length h.1, length-append h.0 (0 ∷ []))
pairs_least (x ∷ xs) bytes h = omega (arith, ap length h.2, length-append h.0 h.1, pairs_least xs h.1 h.4)

startup_body : (ctx : DecodeContext) (body : List ℕ) (m : Startup) → length body < 2 ^ 31
    → startup_of ctx body ≡ Ok m → SpellsStartup m body
unfolding startup_of Parts Major
startup_body ctx body m short e = elim (chosen (ltb (length body) 5) _ _ _ e) [
  | inl h ↦ absurd cc
  | inr h ↦
      let p = all_found _ Parts parts_reads body m short h.1 in
      let t = three_is p.3.0 m.protocol_number_major p.3.1 in
      (t.0, (p.0, p.1, p.2, subst (λ (n : ℕ). SpellsNat w16 n p.0) (sym t.1) p.3.2, p.4))
]

startup_body_again : (ctx : DecodeContext) (body : List ℕ) (m : Startup) → SpellsStartup m body
    → startup_of ctx body ≡ Ok m
unfolding startup_of three Parts Major
startup_body_again ctx body m h =
    let parts = h.1 in
    let more = parts.4 in
    let least : 1 ≤ length more.1 = pairs_least more.4.0 more.1 more.4.1 in
    let long : ltb (length body) 5 ≡ false =
    le-ltb _ _ (omega (
      arith,
      ap length parts.2,
      length-append parts.0 parts.1,
      parts.3.0,
      ap length more.2,
      length-append more.0 more.1,
      more.3.0,
      least,
    )) in
    let is : eqb m.protocol_number_major 3 ≡ true = eq-eqb _ _ h.0 in
    let tried : three m.protocol_number_major ≡ Ok m.protocol_number_major = rw is refl in
    rw long (all_again _ Parts parts_reads body m
    (parts.0, parts.1, parts.2, (m.protocol_number_major, tried, parts.3), parts.4))

pub startup_found : (ctx : DecodeContext) (bytes : List ℕ) (m : Startup) (rest : List ℕ)
    → wire_front Untyped 10000 (startup_of ctx) bytes ≡ Ok (Some (m, rest))
    → (g : List ℕ) × (bytes ≡ g ++ rest) × SpellsUntyped 10000 SpellsStartup m g
startup_found ctx = untyped_found 10000 (startup_of ctx) (lit< tt) SpellsStartup (startup_body ctx)

pub startup_again : (ctx : DecodeContext) (m : Startup) (g rest : List ℕ) → SpellsUntyped 10000 SpellsStartup m g
    → wire_front Untyped 10000 (startup_of ctx) (g ++ rest) ≡ Ok (Some (m, rest))
startup_again ctx = untyped_again 10000 (startup_of ctx) (lit< tt) SpellsStartup (startup_body_again ctx)
