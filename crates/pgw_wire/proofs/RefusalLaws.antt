-- Messages that have a spelling.
use Rattle.std.proofs.Common.{◌≡◌, ◌≤◌, ◌||◌, ℕ, Bool, true, false, ltb, None, refl}
use Rattle.std.proofs.lemmas.Bool.{or_parts, ltb-false}
use Rattle.pgw_wire.specs.Writing.{refused_if}

-- nothing is against a message that is not refused
pub not_refused : (b : Bool) → refused_if b ≡ None → b ≡ false
unfolding refused_if
not_refused true is = absurd cc
not_refused false is = refl

-- it is no longer than it may be, and nothing else is against it
pub not_longer : (most len : ℕ) → refused_if (ltb most len) ≡ None → len ≤ most
not_longer most len is = ltb-false most len (not_refused (ltb most len) is)

pub not_longer_or : (most len : ℕ) (b : Bool) → refused_if (ltb most len || b) ≡ None → len ≤ most
not_longer_or most len b is =
    ltb-false most len (or_parts (ltb most len) b (not_refused (ltb most len || b) is)).0
