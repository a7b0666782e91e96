-- Tickets in order.
use Rattle.std.proofs.Common.{◌≤◌, ℕ, ◌+◌, Bool, true, false, cond, List, [], ◌∷◌, ◌++◌, length, drop, arith}
use Rattle.std.specs.List.{filter}
use Rattle.pgw_pool_turns.specs.Rows.{Ascend}

pub ascend_bound : (low : ℕ) (ts : List ℕ) (high : ℕ) → Ascend low ts high → low ≤ high
ascend_bound low [] high a = a
ascend_bound low (t ∷ ts) high a = let b = ascend_bound (t + 1) ts high a.1 in let c = a.0 in omega arith

pub ascend_lower : (low lower : ℕ) (ts : List ℕ) (high : ℕ) → lower ≤ low → Ascend low ts high
    → Ascend lower ts high
ascend_lower low lower [] high le a = omega arith
ascend_lower low lower (t ∷ ts) high le a = ((let c = a.0 in omega arith), a.1)

pub ascend_push : (low : ℕ) (ts : List ℕ) (high : ℕ) → Ascend low ts high
    → Ascend low (ts ++ high ∷ []) (high + 1)
ascend_push low [] high a = (a, omega arith)
ascend_push low (t ∷ ts) high a = (a.0, ascend_push (t + 1) ts high a.1)

pub ascend_drop : (low : ℕ) (ts : List ℕ) (high : ℕ) → Ascend low ts high → Ascend low (drop 1 ts) high
ascend_drop low [] high a = a
ascend_drop low (t ∷ ts) high a = ascend_lower (t + 1) low ts high (let c = a.0 in omega arith) a.1

pub ascend_filter : (test : ℕ → Bool) (low : ℕ) (ts : List ℕ) (high : ℕ) → Ascend low ts high
    → Ascend low (filter test ts) high
ascend_filter test low [] high a = a
ascend_filter test low (t ∷ ts) high a =
    let more : Ascend (t + 1) (filter test ts) high = ascend_filter test (t + 1) ts high a.1 in
    let P : Bool → Type 0 = λ b. Ascend low (cond b (t ∷ filter test ts) (filter test ts)) high in
    elim (test t) as P [
      | true ↦ (a.0, more)
      | false ↦ ascend_lower (t + 1) low (filter test ts) high
          (let c = a.0 in omega arith) more
    ]

-- the front part stays where the rest changes
pub ascend_front : (low : ℕ) (front ts us : List ℕ) (high higher : ℕ)
    → ((from : ℕ) → Ascend from ts high → Ascend from us higher) → Ascend low (front ++ ts) high
    → Ascend low (front ++ us) higher
ascend_front low [] ts us high higher f a = f low a
ascend_front low (t ∷ front) ts us high higher f a = (a.0, ascend_front (t + 1) front ts us high higher f a.1)

pub filter_fits : (test : ℕ → Bool) (ts : List ℕ) → length (filter test ts) ≤ length ts
filter_fits test [] = omega arith
filter_fits test (t ∷ ts) =
    let more = filter_fits test ts in
    let P : Bool → Type 0 = λ b. length (cond b (t ∷ filter test ts) (filter test ts)) ≤ length (t ∷ ts) in
    elim (test t) as P [ true ↦ omega (arith, more) | false ↦ omega (arith, more) ]

pub drop_fits : (ts : List ℕ) → length (drop 1 ts) ≤ length ts
drop_fits [] = omega arith
drop_fits (t ∷ ts) = omega arith
