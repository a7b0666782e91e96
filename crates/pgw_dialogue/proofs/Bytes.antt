-- Whether bytes are UTF-8.
use Rattle.std.proofs.Common.{◌≡◌, ℕ, List, false, Result, Ok, Err, Bor, refl}
use Rattle.std.specs.Str.{IsUtf8, is_utf8}
use Rattle.std.specs.Result.{IsOk, MatchResult}
use Rattle.std.proofs.lemmas.Bool.{false_from_ne_true}
use Rattle.std.proofs.lemmas.Str.{IsUtf8-from_is_utf8}

pub not_utf8 : (bytes : List ℕ) → (IsUtf8 bytes → ⊥) → is_utf8 bytes ≡ false
not_utf8 bytes not = false_from_ne_true (is_utf8 bytes) (λ is. not (IsUtf8-from_is_utf8 bytes is))

pub is_ok : {E : Type 0} (r : Result (Bor (List ℕ)) E) (bytes : List ℕ) (P : Bor (List ℕ) → Type 0)
    (Q : E → Type 0)
    → IsUtf8 bytes → MatchResult r P (λ e. (IsUtf8 bytes → ⊥) × Q e) → IsOk r
is_ok (Ok x) bytes P Q is cases = refl
is_ok (Err e) bytes P Q is cases = absurd (cases.0 is)
