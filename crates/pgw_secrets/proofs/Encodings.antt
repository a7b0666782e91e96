-- Numbers and base64 hold no mark, and base64 has one reading.
use Rattle.std.proofs.Common.{◌≡◌, ℕ, zero, suc, ◌/◌, ◌%◌, ◌*◌, ◌+◌, ◌==◌, Bool, true, false, not, List, [], ◌∷◌, length, get_or, replicate, Some, None, refl, sym, ap, subst, ◌∙◌, ◌&&◌, ltb, cond}
use Rattle.std.specs.List.{list_all}
use Rattle.std.specs.Char.{is_digit}
use Rattle.std.specs.Str.Parse.{without_leading_plus, digits_value}
use Rattle.std.proofs.lemmas.Bool.{and_parts, eqb-true}
use Rattle.base64.specs.Engines.{standard}
use Rattle.base64.specs.GeneralPurpose.{IsBytes, engine_symbols}
use Rattle.base64.specs.Rfc4648.{encode_symbols, padding_len}
use Rattle.pgw_types.specs.Numbers.{number_in}
use Rattle.pgw_scram.specs.Base64.{base64, salt_of}
use Rattle.pgw_scram.proofs.HonestLaws.{salt_is}
use Rattle.pgw_secrets.specs.Found.{Lacks}
use Rattle.pgw_secrets.proofs.Marks.{lacks_append}

-- ---- base64

symbol_at : (mark : ℕ) (table : List ℕ) (i : ℕ) → not (0 == mark) ≡ true → Lacks mark table
    → not (get_or table i 0 == mark) ≡ true
symbol_at mark [] i z h = z
symbol_at mark (x ∷ table) zero z h = (and_parts (not (x == mark)) (list_all (λ b. not (b == mark)) table) h).0
symbol_at mark (x ∷ table) (suc i) z h =
    symbol_at mark table i z (and_parts (not (x == mark)) (list_all (λ b. not (b == mark)) table) h).1

symbols_lack : (mark : ℕ) (table message : List ℕ) → not (0 == mark) ≡ true → Lacks mark table
    → Lacks mark (encode_symbols table message)
unfolding encode_symbols
symbols_lack mark table [] z h = refl
symbols_lack mark table (a ∷ []) z h =
    rw (symbol_at mark table (a / 4) z h, symbol_at mark table (a % 4 * 16) z h) refl
symbols_lack mark table (a ∷ b ∷ []) z h =
    rw (
      symbol_at mark table (a / 4) z h,
      symbol_at mark table (a % 4 * 16 + b / 16) z h,
      symbol_at mark table
          (b % 16 * 4) z h,
    ) refl
symbols_lack mark table (a ∷ b ∷ c ∷ rest) z h =
    rw (
      symbol_at mark table (a / 4) z h,
      symbol_at mark table (a % 4 * 16 + b / 16) z h,
      symbol_at mark table
          (b % 16 * 4 + c / 64) z h,
      symbol_at mark table (c % 64) z h,
    ) (symbols_lack mark table rest z h)

padding_lacks : (mark n : ℕ) → not (61 == mark) ≡ true → Lacks mark (replicate n 61)
padding_lacks mark zero h = refl
padding_lacks mark (suc n) h = rw h (padding_lacks mark n h)

base64_lacks : (mark : ℕ) (bytes : List ℕ) → not (0 == mark) ≡ true → not (61 == mark) ≡ true
    → Lacks mark (engine_symbols standard) → Lacks mark (base64 bytes)
unfolding base64
base64_lacks mark bytes z p h =
    lacks_append mark (encode_symbols (engine_symbols standard) bytes) (replicate (padding_len (length bytes)) 61)
    (symbols_lack mark (engine_symbols standard) bytes z h)
    (padding_lacks mark (padding_len (length bytes)) p)

pub base64_no_dollar : (bytes : List ℕ) → Lacks 36 (base64 bytes)
base64_no_dollar bytes = base64_lacks 36 bytes refl refl refl

pub base64_no_colon : (bytes : List ℕ) → Lacks 58 (base64 bytes)
base64_no_colon bytes = base64_lacks 58 bytes refl refl refl

pub base64_same : (a b : List ℕ) → IsBytes a → IsBytes b → base64 a ≡ base64 b → a ≡ b
base64_same a b x y e =
    let one : salt_of (base64 a) ≡ Some a = salt_is a x in
    let two : salt_of (base64 b) ≡ Some b = salt_is b y in
    let both : Some a ≡ Some b = sym one ∙ ap salt_of e ∙ two in
    cc

-- ---- numbers

digit_by : (c : ℕ) (b : Bool) → (c == 58) ≡ b → is_digit c 10 ≡ true → not b ≡ true
digit_by c true e h =
    let same : is_digit 58 10 ≡ true = subst (λ n. is_digit n 10 ≡ true) (eqb-true c 58 e) h in
    absurd (cc)
digit_by c false e h = refl

digits_lack : (ds : List ℕ) → list_all (λ c. is_digit c 10) ds ≡ true → Lacks 58 ds
digits_lack [] h = refl
digits_lack (d ∷ ds) h =
    let q = and_parts (is_digit d 10) (list_all (λ c. is_digit c 10) ds) h in
    rw (digit_by d (d == 58) refl q.0, digits_lack ds q.1) refl

plus_by : (c : ℕ) (cs : List ℕ) (b : Bool) → (c == 43) ≡ b
    → list_all (λ c. is_digit c 10) (without_leading_plus (c ∷ cs)) ≡ true → Lacks 58 (c ∷ cs)
plus_by c cs true e h =
    let same : without_leading_plus (c ∷ cs) ≡ cs = rw e refl in
    let is : c ≡ 43 = eqb-true c 43 e in
    rw is (digits_lack cs (rw same at h))
plus_by c cs false e h =
    let same : without_leading_plus (c ∷ cs) ≡ c ∷ cs = rw e refl in
    digits_lack (c ∷ cs) (rw same at h)

number_lacks_by : (text : List ℕ) → list_all (λ c. is_digit c 10) (without_leading_plus text) ≡ true
    → Lacks 58 text
number_lacks_by [] h = refl
number_lacks_by (c ∷ cs) h = plus_by c cs (c == 43) refl h

chosen : (b : Bool) (m n : ℕ) → cond b (Some m) None ≡ Some n → b ≡ true
chosen true m n e = refl
chosen false m n e = cc

pub number_no_colon : (text : List ℕ) (n : ℕ) → number_in 32 text ≡ Some n → Lacks 58 text
unfolding number_in
number_no_colon text n e =
    let digits = without_leading_plus text in
    let all = list_all (λ c. is_digit c 10) digits in
    let fits = ltb (digits_value 10 digits) 4294967296 in
    let some = ltb 0 (length digits) in
    let tests : (some && (all && fits)) ≡ true = chosen (some && (all && fits)) (digits_value 10 digits) n e in
    let p = and_parts some (all && fits) tests in
    number_lacks_by text (and_parts all fits p.1).0
