-- A text with a code, or a name, takes bytes.
use Rattle.std.proofs.Common.{◌≡◌, inl, inr, ℕ, ◌<◌, cond, eqb, ltb, List, length, take, drop, Option, Some, None, Ok, ap, arith}
use Rattle.std.proofs.lemmas.List.{length-drop}
use Rattle.std.proofs.lemmas.Bool.{ltb-false}
use Rattle.std.specs.Int.{w8, from_be_bytes}
use Rattle.pgw_wire.specs.Reading.{◌>>=◌, text_at, name_at, name_of, nat_at}
use Rattle.pgw_wire.specs.Codes.{code_at}
use Rattle.pgw_wire.specs.PairLaws.{text_shrinks}
use Rattle.pgw_wire.specs.Steps.{bind_ok, ok_is, chosen}

pub name_shrinks : (bytes : List ℕ) (o : Option (List ℕ)) (rest : List ℕ)
    → name_at bytes ≡ Ok (o, rest) → length rest < length bytes
unfolding name_at
name_shrinks bytes o rest e =
    let a = bind_ok (text_at bytes) (λ t. Ok (name_of t.0, t.1)) (o, rest) e in
    let left : a.0.1 ≡ rest =
    ap (λ (p : Option (List ℕ) × List ℕ). p.1) (ok_is (name_of a.0.0, a.0.1) (o, rest) a.2) in
    omega (arith, ap length left, text_shrinks bytes a.0.0 a.0.1 a.1)

byte_shrinks : (bytes : List ℕ) (n : ℕ) (rest : List ℕ) → nat_at w8 bytes ≡ Ok (n, rest)
    → length rest < length bytes
unfolding nat_at
byte_shrinks bytes n rest e = elim (chosen (ltb (length bytes) 1) _ _ _ e) [
  | inl h ↦ absurd cc
  | inr h ↦
      let left : drop 1 bytes ≡ rest =
      ap (λ (p : ℕ × List ℕ). p.1)
      (ok_is (from_be_bytes w8 (take 1 bytes), drop 1 bytes) (n, rest) h.1) in
      omega (arith, ap length left, length-drop 1 bytes, ltb-false _ _ h.0)
]

pub code_shrinks : (bytes : List ℕ) (o : Option (ℕ × List ℕ)) (rest : List ℕ)
    → code_at bytes ≡ Ok (o, rest) → length rest < length bytes
unfolding code_at
code_shrinks bytes o rest e =
    let a =
    bind_ok (nat_at w8 bytes)
    (λ code. cond (eqb code.0 0) (Ok (None, code.1))
    (text_at code.1 >>= λ t. Ok (Some (code.0, t.0), t.1))) (o, rest) e in
    let one = byte_shrinks bytes a.0.0 a.0.1 a.1 in
    elim (chosen (eqb a.0.0 0) _ _ _ a.2) [
      | inl h ↦ let left : a.0.1 ≡ rest =
          ap (λ (p : Option (ℕ × List ℕ) × List ℕ). p.1) (ok_is (None, a.0.1) (o, rest) h.1) in
          omega (arith, ap length left, one)
      | inr h ↦
          let b = bind_ok (text_at a.0.1) (λ t. Ok (Some (a.0.0, t.0), t.1)) (o, rest) h.1 in
          let left : b.0.1 ≡ rest =
          ap (λ (p : Option (ℕ × List ℕ) × List ℕ). p.1)
          (ok_is (Some (a.0.0, b.0.0), b.0.1) (o, rest) b.2) in
          omega (arith, ap length left, one, text_shrinks a.0.1 b.0.0 b.0.1 b.1)
    ]
