-- Parameters: what is read is what is spelled, and a map is made again from its entries.
use Rattle.std.proofs.Common.{◌≡◌, inl, inr, ℕ, zero, suc, ◌<◌, ◌^◌, Bool, true, false, T, cond, eqb, ◌&&◌, List, [], ◌∷◌, ◌++◌, length, Option, Some, None, Ok, refl, sym, ap, subst, ◌∙◌, append_assoc, arith}
use Rattle.std.specs.Prelude.{fold}
use Rattle.std.specs.declared.cmp.Ordering.{Ordering}
use Rattle.std.specs.declared.cmp.Ordering.TheVariants.{Less, Equal, Greater}
use Rattle.std.specs.Ordering.{is_lt, ordering_reverse}
use Rattle.std.specs.Cmp.Lexicographic.{nat_list_cmp_total}
use Rattle.std.specs.FinMap as map
use Rattle.std.proofs.lemmas.Bool.{eqb-true, ne_eqb, eqb-false}
use Rattle.std.proofs.lemmas.List.{append-nil, nil_from_length}
use Rattle.pgw_wire.specs.Reading.{◌>>=◌, text_at, marked_list_at}
use Rattle.pgw_wire.specs.Formats.{SpellsText, SpellsMarked, ReadsFormat}
use Rattle.pgw_wire.specs.Pairs.{Held, pair_at, from_pairs}
use Rattle.pgw_wire.specs.PairLaws.{pair_shrinks}
use Rattle.pgw_wire.proofs.Laws.{bind_ok, ok_is, chosen, shorter_after}
use Rattle.pgw_wire.proofs.FieldLaws.{text_reads}
use Rattle.pgw_wire.proofs.MarkLaws.{marked_reads}
use Rattle.pgw_wire.proofs.ParamLaws.{Pairs, bytes_cmp}
use Rattle.pgw_startup.specs.Startup.{SpellsPair}

-- ---- pairs

pub positive : (n : ℕ) → (n ≡ 0 → ⊥) → 0 < n
positive zero other = absurd (other refl)
positive (suc n) other = omega arith

pair_found : (bytes : List ℕ) (o : Option (List ℕ × List ℕ)) (rest : List ℕ) → length bytes < 2 ^ 31
    → pair_at bytes ≡ Ok (o, rest) → (f : List ℕ) × (bytes ≡ f ++ rest) × SpellsPair o f
unfolding pair_at
pair_found bytes o rest short e =
    let a =
    bind_ok (text_at bytes)
    (λ name. cond (eqb (length name.0) 0) (Ok (None, name.1))
    (text_at name.1 >>= λ value. Ok (Some (name.0, value.0), value.1))) (o, rest) e in
    let s = text_reads.found bytes a.0.0 a.0.1 short a.1 in
    elim (chosen (eqb (length a.0.0) 0) _ _ _ a.2) [
      | inl h ↦
          let made : Option (List ℕ × List ℕ) × List ℕ = (None, a.0.1) in
          subst (λ (y : Option (List ℕ × List ℕ) × List ℕ). (f : List ℕ) × (bytes ≡ f ++ y.1) × SpellsPair y.0 f)
          (ok_is made (o, rest) h.1)
          (s.0, s.1, subst (λ (t : List ℕ). SpellsText t s.0) (empty a.0.0 (eqb-true _ _ h.0)) s.2)
      | inr h ↦
          let b = bind_ok (text_at a.0.1) (λ value. Ok (Some (a.0.0, value.0), value.1)) (o, rest) h.1 in
          let t = text_reads.found a.0.1 b.0.0 b.0.1 (shorter_after s.0 a.0.1 bytes (2 ^ 31) s.1 short) b.1 in
          let made : Option (List ℕ × List ℕ) × List ℕ = (Some (a.0.0, b.0.0), b.0.1) in
          let whole : bytes ≡ (s.0 ++ t.0) ++ b.0.1 =
          s.1 ∙ ap (λ (r : List ℕ). s.0 ++ r) t.1 ∙ sym (append_assoc s.0 t.0 b.0.1) in
          subst (λ (y : Option (List ℕ × List ℕ) × List ℕ). (f : List ℕ) × (bytes ≡ f ++ y.1) × SpellsPair y.0 f)
          (ok_is made (o, rest) b.2)
          (s.0 ++ t.0, whole, ((s.0, t.0, refl, s.2, t.2), positive (length a.0.0) (eqb-false (length a.0.0) 0 h.0)))
    ]
  where
    empty : (t : List ℕ) → length t ≡ 0 → t ≡ []
    empty [] is = refl
    empty (b ∷ t) is = absurd (omega (arith, is))

pair_only : (o : Option (List ℕ × List ℕ)) (front rest : List ℕ) → SpellsPair o front
    → pair_at (front ++ rest) ≡ Ok (o, rest)
unfolding pair_at
pair_only None front rest h = rw (text_reads.only [] front rest h) refl
pair_only (Some p) front rest h =
    let parts = h.0 in
    let regrouped : front ++ rest ≡ parts.0 ++ (parts.1 ++ rest) =
    ap (λ (f : List ℕ). f ++ rest) parts.2 ∙ append_assoc parts.0 parts.1 rest in
    let no : eqb (length p.0) 0 ≡ false = ne_eqb (length p.0) 0 (λ is. omega (arith, is, h.1)) in
    ap pair_at regrouped
    ∙ rw (text_reads.only p.0 parts.0 (parts.1 ++ rest) parts.3, no, text_reads.only p.1 parts.1 rest parts.4)
    refl

pub pairs_reads : ReadsFormat (marked_list_at pair_at) (SpellsMarked SpellsPair)
pairs_reads = marked_reads pair_at SpellsPair pair_shrinks (record { found = pair_found; only = pair_only })

-- ---- a map from its entries

split : (a b : Bool) → T (a && b) → T a × T b
split true b p = (tt, p)
split false b p = absurd p

below_last : (x : List ℕ) (acc : Pairs) (p : List ℕ × List ℕ) (es : Pairs)
    → T (map.Entries.below_all bytes_cmp x (acc ++ p ∷ es)) → T (is_lt (bytes_cmp x p.0))
below_last x [] p es h = (split (is_lt (bytes_cmp x p.0)) _ h).0
below_last x (e ∷ acc) p es h = below_last x acc p es (split (is_lt (bytes_cmp x e.0)) _ h).1

turned : (o : Ordering) → T (is_lt o) → ordering_reverse o ≡ Greater
turned Less p = refl
turned Equal p = absurd p
turned Greater p = absurd p

put_last : (acc : Pairs) (p : List ℕ × List ℕ) (es : Pairs) → T (map.is_sorted bytes_cmp (acc ++ p ∷ es))
    → map.put bytes_cmp p.0 p.1 acc ≡ acc ++ p ∷ []
put_last [] p es h = refl
put_last (e ∷ acc) p es h =
    let s = split (map.Entries.below_all bytes_cmp e.0 (acc ++ p ∷ es)) _ h in
    let after : bytes_cmp p.0 e.0 ≡ Greater =
    nat_list_cmp_total.antisymm p.0 e.0 ∙ turned (bytes_cmp e.0 p.0) (below_last e.0 acc p es s.0) in
    rw after (ap (λ (l : Pairs). e ∷ l) (put_last acc p es s.1))

added : (m : Held) (es : Pairs) → T (map.is_sorted bytes_cmp (map.entries m ++ es))
    → map.entries (fold (λ n p. map.insert n p.0 p.1) m es) ≡ map.entries m ++ es
added m [] h = sym (append-nil (map.entries m))
added m (p ∷ es) h =
    let one : map.entries (map.insert m p.0 p.1) ≡ map.entries m ++ p ∷ [] =
    map.entries-insert nat_list_cmp_total m p.0 p.1 ∙ put_last (map.entries m) p es h in
    let all : map.entries (map.insert m p.0 p.1) ++ es ≡ map.entries m ++ p ∷ es =
    ap (λ (l : Pairs). l ++ es) one ∙ append_assoc (map.entries m) (p ∷ []) es in
    added (map.insert m p.0 p.1) es (subst (λ (l : Pairs). T (map.is_sorted bytes_cmp l)) (sym all) h) ∙ all

no_entries : map.entries (map.empty {K = List ℕ} {X = List ℕ} {R = bytes_cmp}) ≡ []
no_entries =
    nil_from_length _ (sym (map.len-entries (map.empty {K = List ℕ} {X = List ℕ} {R = bytes_cmp}))
    ∙ map.len-empty bytes_cmp (List ℕ))

pub from_entries : (m : Held) → from_pairs (map.entries m) ≡ m
from_entries m =
    let none : map.entries (map.empty {K = List ℕ} {X = List ℕ} {R = bytes_cmp}) ++ map.entries m ≡ map.entries m =
    ap (λ (l : Pairs). l ++ map.entries m) no_entries in
    map.same_entries_map _ m
    (added map.empty (map.entries m)
    (subst (λ (l : Pairs). T (map.is_sorted bytes_cmp l)) (sym none) (map.entries_sorted m)) ∙ none)
