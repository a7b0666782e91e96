-- Hex digits that are read pair by pair, with spaces among them.
use Rattle.std.proofs.Common.{◌≡◌, ℕ, ◌+◌, ◌*◌, ◌%◌, List, [], ◌∷◌, ◌++◌, Bool, true, false, ◌==◌, length, Option, Some, None, Result, Ok, Err, refl, sym, ap, ◌∙◌, arith, append_assoc}
use Rattle.std.proofs.lemmas.List.{append-nil}
use Rattle.std.proofs.lemmas.Bool.Decides.{nat_tests}
use Rattle.std.specs.Result.{result_ok}
use Rattle.hex.specs.Hex.{◌>>=◌, decode_of, decode_pairs, digit_or_error, hex_digit_value}
use Rattle.hex.specs.declared.error.FromHexError.{FromHexError}
use Rattle.pgw_prog_script.specs.Line.{bytes_in}
use Rattle.pgw_prog_script.specs.ServerBytes.{AddsScriptBytes, digits, followed_by}

abbrev pub digit_then : Option ℕ → (ℕ → Option (List ℕ)) → Option (List ℕ)
digit_then None f = None
digit_then (Some d) f = f d

-- the byte of two digits, before what stands behind them
abbrev pub paired : Option ℕ → Option ℕ → Option (List ℕ) → Option (List ℕ)
paired high low more = digit_then high (λ d. digit_then low (λ e. followed_by ((d * 16 + e) ∷ []) more))

-- the bytes of some digits
abbrev pub pairs : List ℕ → Option (List ℕ)
pairs [] = Some []
pairs (d ∷ []) = None
pairs (h ∷ l ∷ rest) = paired (hex_digit_value h) (hex_digit_value l) (pairs rest)

-- ---- that is the text of digits as hex reads it

no_digit : (o : Option ℕ) → digit_then o (λ d. None) ≡ None
no_digit None = refl
no_digit (Some d) = refl

pair_by : (oh ol : Option ℕ) (h l i j : ℕ) (r : Result (List ℕ) FromHexError) (o : Option (List ℕ))
    → result_ok r ≡ o
    → result_ok ((digit_or_error h i oh >>= (λ x. digit_or_error l j ol >>= (λ y. Ok (x * 16 + y)))) >>=
    (λ byte. r >>= (λ bytes. Ok (byte ∷ bytes)))) ≡ paired oh ol o
pair_by None ol h l i j r o is = refl
pair_by (Some d) None h l i j r o is = refl
pair_by (Some d) (Some e) h l i j (Ok bs) o is = rw (sym is) refl
pair_by (Some d) (Some e) h l i j (Err x) o is = rw (sym is) refl

pairs_hex : (i : ℕ) (ds : List ℕ) → result_ok (decode_pairs i ds) ≡ pairs ds
unfolding decode_pairs
pairs_hex i [] = refl
pairs_hex i (d ∷ []) = refl
pairs_hex i (h ∷ l ∷ rest) =
    pair_by (hex_digit_value h) (hex_digit_value l) h l i (i + 1) (decode_pairs (i + 2) rest) (pairs rest)
    (pairs_hex (i + 2) rest)

none_by : (oh ol : Option ℕ) (o : Option (List ℕ)) → o ≡ None → paired oh ol o ≡ None
none_by None ol o is = refl
none_by (Some d) None o is = refl
none_by (Some d) (Some e) o is = rw is refl

not_paired : (oh ol : Option ℕ) (o : Option (List ℕ)) → ((d e : ℕ) → oh ≡ Some d → ol ≡ Some e → ⊥)
    → paired oh ol o ≡ None
not_paired None ol o none = refl
not_paired (Some d) None o none = refl
not_paired (Some d) (Some e) o none = absurd (none d e refl refl)

odd_none : (ds : List ℕ) → length ds % 2 ≡ 1 → pairs ds ≡ None
odd_none [] odd = absurd (omega (arith, odd))
odd_none (d ∷ []) odd = refl
odd_none (h ∷ l ∷ rest) odd =
    none_by (hex_digit_value h) (hex_digit_value l) (pairs rest) (odd_none rest (omega (arith, odd)))

decode_by : (ds : List ℕ) (t : Bool) → (length ds % 2 == 1) ≡ t → result_ok (decode_of ds) ≡ pairs ds
decode_by ds true odd = rw odd (sym (odd_none ds (grind (arith, nat_tests, odd))))
decode_by ds false even = rw even (pairs_hex 0 ds)

pub bytes_hex : (text : List ℕ) → bytes_in text ≡ pairs (digits text)
unfolding bytes_in
bytes_hex text = decode_by (digits text) (length (digits text) % 2 == 1) refl

-- ---- a text that is read up to a place

pub record Told (start now rest text : List ℕ) : Type 0 where
  added : List ℕ
  are : now ≡ start ++ added
  same : followed_by added (pairs (digits rest)) ≡ pairs (digits text)

pub followed_by_none : (o : Option (List ℕ)) → followed_by [] o ≡ o
followed_by_none None = refl
followed_by_none (Some bytes) = refl

pub told_first : (start now text : List ℕ) → now ≡ start → Told start now text text
told_first start now text same =
    record { added = []; are = same ∙ sym (append-nil start); same = followed_by_none (pairs (digits text)) }

pub followed_further : (a b : List ℕ) (o : Option (List ℕ))
    → followed_by a (followed_by b o) ≡ followed_by (a ++ b) o
followed_further a b None = refl
followed_further a b (Some more) = ap Some (sym (append_assoc a b more))

-- a byte whose two digits stand next
pub told_pair : (start now new text rest more : List ℕ) (h l d e : ℕ) → Told start now rest text
    → digits rest ≡ h ∷ l ∷ digits more → hex_digit_value h ≡ Some d → hex_digit_value l ≡ Some e
    → new ≡ now ++ (d * 16 + e) ∷ [] → Told start new more text
told_pair start now new text rest more h l d e t are high low put = record {
  added = t.added ++ (d * 16 + e) ∷ [];
  are = put ∙ ap (λ (bs : List ℕ). bs ++ (d * 16 + e) ∷ []) t.are
      ∙ append_assoc start t.added ((d * 16 + e) ∷ []);
  same = sym (followed_further t.added ((d * 16 + e) ∷ []) (pairs (digits more)))
      ∙ (rw (are, high, low) at t.same);
}

-- a digit without a second
pub told_half : (start now text rest : List ℕ) (h : ℕ) → Told start now rest text → digits rest ≡ h ∷ []
    → bytes_in text ≡ None
told_half start now text rest h t are =
    let s : None ≡ pairs (digits text) = rw are at t.same in
    bytes_hex text ∙ sym s

-- a byte that is no digit
pub told_other : (start now text rest more : List ℕ) (h l : ℕ) → Told start now rest text
    → digits rest ≡ h ∷ l ∷ more → ((d e : ℕ) → hex_digit_value h ≡ Some d → hex_digit_value l ≡ Some e → ⊥)
    → bytes_in text ≡ None
told_other start now text rest more h l t are none =
    let s : None ≡ pairs (digits text) =
    rw (are, not_paired (hex_digit_value h) (hex_digit_value l) (pairs more) none) at t.same in
    bytes_hex text ∙ sym s

pub told_end : (start now text rest : List ℕ) → Told start now rest text → digits rest ≡ []
    → AddsScriptBytes true text start now
told_end start now text rest t none =
    let s : Some (t.added ++ []) ≡ pairs (digits text) = rw none at t.same in
    (t.added, bytes_hex text ∙ sym s ∙ ap Some (append-nil t.added), t.are)
