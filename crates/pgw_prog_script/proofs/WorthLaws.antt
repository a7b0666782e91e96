-- Pairs of hex digits that stand side by side.
use Rattle.std.proofs.Common.{◌≡◌, ℕ, zero, suc, ◌+◌, ◌*◌, ◌<◌, ◌≤◌, List, [], ◌∷◌, ◌-◌, take, drop, ◌++◌, Bool, true, false, ◌==◌, ◌&&◌, nat_le, length, slice_index, Option, Some, None, refl, sym, ap, ◌∙◌, arith, append_assoc, inl, inr}
use Rattle.std.proofs.lemmas.List.{append-nil, take_all}
use Rattle.std.proofs.lemmas.Bool.{and_parts, cases_lt, eqb-true}
use Rattle.std.proofs.lemmas.Bool.Decides.{nat_tests}
use Rattle.hex.specs.Hex.{hex_digit_value}
use Rattle.pgw_prog_script.specs.ServerBytes.{AddsScriptBytes, AddsFront, digits, worth_of, followed_by}
use Rattle.pgw_prog_script.specs.Line.{bytes_in}
use Rattle.pgw_prog_script.specs.declared.hex_digits.TheConstants.{WORTHS}
use Rattle.pgw_prog_script.proofs.HexLaws.{bytes_hex, followed_by_none, followed_further}

-- ---- the table

abbrev same_at : ℕ → Bool
same_at b = (slice_index WORTHS b == worth_of (hex_digit_value b)) && nat_le (slice_index WORTHS b) 256

abbrev all_same : ℕ → Bool
all_same zero = true
all_same (suc n) = same_at n && all_same n

same_below : (n b : ℕ) → all_same n ≡ true → b < n → same_at b ≡ true
same_below zero b h lt = absurd (omega arith)
same_below (suc n) b h lt =
    let parts = and_parts (same_at n) (all_same n) h in
    elim (cases_lt b n) [
      | inl below ↦ same_below n b parts.1 below
      | inr top ↦
          let e : b ≡ n = omega arith in
          rw e parts.0
    ]

all : all_same 256 ≡ true
all = refl

pub worth_at : (b : ℕ) → b < 256 → slice_index WORTHS b ≡ worth_of (hex_digit_value b)
worth_at b lt = eqb-true _ _ (and_parts _ _ (same_below 256 b all lt)).0

pub worth_fits : (b : ℕ) → b < 256 → slice_index WORTHS b ≤ 256
worth_fits b lt =
    let t : nat_le (slice_index WORTHS b) 256 ≡ true =
    (and_parts (slice_index WORTHS b == worth_of (hex_digit_value b)) (nat_le (slice_index WORTHS b) 256)
    (same_below 256 b all lt)).1 in grind (arith, nat_tests, t)

-- ---- two digits

pub record Both (o p : Option ℕ) (v : ℕ) : Type 0 where
  high : ℕ
  low : ℕ
  one : o ≡ Some high
  two : p ≡ Some low
  makes : v ≡ high * 16 + low

pub both : (o p : Option ℕ) (v : ℕ) → v ≡ worth_of o * 16 + worth_of p → v < 256 → Both o p v
both None p v is less = absurd (omega (arith, is, less))
both (Some d) None v is less = absurd (omega (arith, is, less))
both (Some d) (Some e) v is less = record { high = d; low = e; one = refl; two = refl; makes = is }

no_space_by : (b d : ℕ) (t : Bool) → (b == 32) ≡ t → hex_digit_value b ≡ Some d → t ≡ false
no_space_by b d false is digit = refl
no_space_by b d true is digit =
    let e : b ≡ 32 = eqb-true b 32 is in
    let none : None ≡ Some d = rw e at digit in
    cc

no_space : (b d : ℕ) → hex_digit_value b ≡ Some d → (b == 32) ≡ false
no_space b d digit = no_space_by b d (b == 32) refl digit

digits_of : (a b : ℕ) (rest : List ℕ) → (a == 32) ≡ false → (b == 32) ≡ false
    → digits (a ∷ b ∷ rest) ≡ a ∷ b ∷ digits rest
digits_of a b rest one two = rw (one, two) refl

pub two_digits : (a b v : ℕ) (rest : List ℕ) → Both (hex_digit_value a) (hex_digit_value b) v
    → bytes_in (a ∷ b ∷ rest) ≡ followed_by (v ∷ []) (bytes_in rest)
two_digits a b v rest are =
    let ds = digits_of a b rest (no_space a are.high are.one) (no_space b are.low are.two) in
    rw (bytes_hex (a ∷ b ∷ rest), bytes_hex rest, ds, are.one, are.two, are.makes) refl

pub a_space : (a : ℕ) (rest : List ℕ) → a ≡ 32 → bytes_in (a ∷ rest) ≡ bytes_in rest
unfolding bytes_in
a_space a rest is = rw is refl

-- ---- a text that is read up to a place

pub front_none : (now text : List ℕ) → AddsFront text text now now
front_none now text = ([], sym (append-nil now), sym (followed_by_none (bytes_in text)))

pub front_more : (rest more text old now new bytes : List ℕ) → AddsFront rest text old now
    → bytes_in rest ≡ followed_by bytes (bytes_in more) → new ≡ now ++ bytes → AddsFront more text old new
front_more rest more text old now new bytes so next put = (
  so.0 ++ bytes,
  put ∙ ap (λ (bs : List ℕ). bs ++ bytes) so.1 ∙ append_assoc old so.0 bytes,
  so.2 ∙ ap (followed_by so.0) next ∙ followed_further so.0 bytes (bytes_in more),
)

pub pair_taken : (rest text old now new : List ℕ) (v : ℕ) → 2 ≤ length rest → AddsFront rest text old now
    → v ≡ worth_of (hex_digit_value (slice_index rest 0)) * 16 + worth_of (hex_digit_value (slice_index rest 1))
    → v < 256 → new ≡ now ++ v ∷ [] → AddsFront (take (length rest - 2) (drop 2 rest)) text old new
pair_taken [] text old now new v two so is less put = absurd (omega arith)
pair_taken (a ∷ []) text old now new v two so is less put = absurd (omega arith)
pair_taken (a ∷ b ∷ more) text old now new v two so is less put =
    let whole : take (length (a ∷ b ∷ more) - 2) more ≡ more =
    take_all (length (a ∷ b ∷ more) - 2) more (omega arith) in
    rw whole (front_more (a ∷ b ∷ more) more text old now new (v ∷ []) so
    (two_digits a b v more (both _ _ v is less)) put)

pub space_taken : (rest text old now : List ℕ) → 2 ≤ length rest → AddsFront rest text old now
    → slice_index rest 0 ≡ 32 → AddsFront (take (length rest - 1) (drop 1 rest)) text old now
space_taken [] text old now two so is = absurd (omega arith)
space_taken (a ∷ more) text old now two so is =
    let whole : take (length (a ∷ more) - 1) more ≡ more = take_all (length (a ∷ more) - 1) more (omega arith) in
    rw whole (so.0, so.1, so.2 ∙ ap (followed_by so.0) (a_space a more is))

-- what is left is added behind
pub front_then : (known : Bool) (rest text old mid new : List ℕ) → AddsFront rest text old mid
    → AddsScriptBytes known rest mid new → AddsScriptBytes known text old new
front_then true rest text old mid new front more = (
  front.0 ++ more.0,
  front.2 ∙ ap (followed_by front.0) more.1,
  more.2 ∙ ap (λ (bs : List ℕ). bs ++ more.0) front.1 ∙ append_assoc old front.0 more.0,
)
front_then false rest text old mid new front more = front.2 ∙ ap (followed_by front.0) more
