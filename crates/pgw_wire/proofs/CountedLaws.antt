-- Lists with an unsigned count: what is read is what is spelled, and what is written is spelled.
use Rattle.std.proofs.Common.{◌≡◌, ℕ, ◌-◌, ◌*◌, ◌<◌, ◌≤◌, ◌^◌, min, false, ltb, List, [], ◌∷◌, ◌++◌, length, Result, Ok, refl, sym, ap, ◌∙◌, append_assoc, arith, length-append}
use Rattle.std.specs.List.{flat_map, AllByRecursion}
use Rattle.std.specs.Int.{w16}
use Rattle.std.proofs.lemmas.Bool.{le-ltb, ltb-false}
use Rattle.std.proofs.lemmas.List.Concat.{flat_map-cons}
use Rattle.pgw_types.specs.declared.error.PgWireError.{PgWireError}
use Rattle.pgw_wire.specs.Reading.{nat_at, list_at, many_at, elements_fit}
use Rattle.pgw_wire.specs.Formats.{SpellsNat, SpellsMany, ReadsFormat}
use Rattle.pgw_wire.specs.Writing.{u16}
use Rattle.pgw_wire.specs.Counted.{counted16_at, SpellsCounted16, counted16, is_too_long}
use Rattle.pgw_wire.proofs.Laws.{bind_ok, shorter_after}
use Rattle.pgw_wire.proofs.FieldLaws.{nat_reads, many_found, many_again, wide16}
use Rattle.pgw_wire.proofs.FrameLaws.{least_taken}
use Rattle.pgw_wire.proofs.WrittenLaws.{nat_written}

module _ {A : Type 0} (kind : List ℕ → Result (A × List ℕ) PgWireError) (Spells : A → List ℕ → Type 0) (least : ℕ)
    (most : (x : A) (f : List ℕ) → Spells x f → least ≤ length f) (reads : ReadsFormat kind Spells) where
  counted16_found : (bytes : List ℕ) (x : List A) (rest : List ℕ) → length bytes < 2 ^ 31
      → counted16_at least kind bytes ≡ Ok (x, rest)
      → (front : List ℕ) × (bytes ≡ front ++ rest) × SpellsCounted16 Spells x front
  counted16_found bytes x rest short e =
      let a = bind_ok (nat_at w16 bytes) (λ count. list_at kind least count.0 count.1) (x, rest) e in
      let b = bind_ok (elements_fit a.0.0 least a.0.1) (λ fits. many_at kind a.0.0 a.0.1) (x, rest) a.2 in
      let s = (nat_reads w16).found bytes a.0.0 a.0.1 short a.1 in
      let t =
      many_found kind Spells reads a.0.0 a.0.1 (x, rest) (shorter_after s.0 a.0.1 bytes (2 ^ 31) s.1 short)
      b.2 in
      let whole : bytes ≡ (s.0 ++ t.0) ++ rest =
      s.1 ∙ ap (λ (r : List ℕ). s.0 ++ r) t.1 ∙ sym (append_assoc s.0 t.0 rest) in
      (s.0 ++ t.0, whole, (s.0, t.0, refl, (s.2.0, s.2.1 ∙ sym t.3), t.2))

  counted16_again : (x : List A) (front rest : List ℕ) → SpellsCounted16 Spells x front
      → counted16_at least kind (front ++ rest) ≡ Ok (x, rest)
  unfolding elements_fit
  counted16_again x front rest h =
      let regrouped : front ++ rest ≡ h.0 ++ (h.1 ++ rest) =
      ap (λ (f : List ℕ). f ++ rest) h.2 ∙ append_assoc h.0 h.1 rest in
      let one : nat_at w16 (h.0 ++ (h.1 ++ rest)) ≡ Ok (length x, h.1 ++ rest) =
      (nat_reads w16).only (length x) h.0 (h.1 ++ rest) h.3 in
      let room : ltb (length (h.1 ++ rest)) (min (length x * least) (2 ^ 64 - 1)) ≡ false =
      le-ltb _ _ (omega (arith, length-append h.1 rest, least_taken Spells least most x h.1 h.4)) in
      ap (counted16_at least kind) regrouped ∙ rw (one, room, many_again kind Spells reads x h.1 rest h.4) refl

  pub counted16_reads : ReadsFormat (counted16_at least kind) (SpellsCounted16 Spells)
  counted16_reads = record { found = counted16_found; only = counted16_again }

-- ---- what is written

pub count16_written : (n : ℕ) → ltb 65535 n ≡ false → SpellsNat w16 n (u16 n)
unfolding u16
count16_written n few = nat_written w16 wide16 n (omega (arith, ltb-false _ _ few))

all_written : {A : Type 0} (Spells : A → List ℕ → Type 0) (spelled : A → List ℕ) (Sound : A → Type 0)
    → ((x : A) → Sound x → Spells x (spelled x)) → (xs : List A) → AllByRecursion Sound xs
    → SpellsMany Spells xs (flat_map spelled xs)
all_written Spells spelled Sound one [] sound = refl
all_written Spells spelled Sound one (x ∷ xs) sound = (
  spelled x,
  flat_map spelled xs,
  flat_map-cons spelled x xs,
  one x sound.0,
  all_written Spells spelled Sound
      one xs sound.1,
)

pub counted16_written : {A : Type 0} (Spells : A → List ℕ → Type 0) (spelled : A → List ℕ) (Sound : A → Type 0)
    → ((x : A) → Sound x → Spells x (spelled x)) → (xs : List A) → AllByRecursion Sound xs
    → is_too_long xs ≡ false → SpellsCounted16 Spells xs (counted16 spelled xs)
counted16_written Spells spelled Sound one xs sound few = (
  u16 (length xs),
  flat_map spelled xs,
  refl,
  count16_written (length xs) few,
  all_written Spells spelled Sound
      one xs sound,
)
