-- Exclusive or from left to right.
use Rattle.std.proofs.Common.{◌≡◌, ℕ, ◌+◌, ◌<◌, ◌≤◌, List, [], ◌∷◌, ◌++◌, length, get_or, take, drop, set, append_assoc, add-one, drop-cons, arith, bit_xor}
use Rattle.std.proofs.lemmas.List.{take_more_set, drop-set-lt, drop_all, take_all, append-nil}
use Rattle.pgw_hash.specs.Xor.{xor}

-- one octet more
pub xor_more : (xs ys : List ℕ) (i : ℕ) → i < length xs → length xs ≡ length ys
    → take (i + 1) (set xs i (bit_xor (get_or xs i 0) (get_or ys i 0))) ++ xor
    (drop (i + 1) (set xs i (bit_xor (get_or xs i 0) (get_or ys i 0)))) (drop (i + 1) ys) ≡ take i xs ++ xor
    (drop i xs) (drop i ys)
unfolding xor
xor_more xs ys i below same =
    let b : ℕ = bit_xor (get_or xs i 0) (get_or ys i 0) in
    let inside : i < length ys = omega arith in
    let left : take (i + 1) (set xs i b) ≡ take i xs ++ b ∷ [] = take_more_set xs i b below in
    let right : drop (i + 1) (set xs i b) ≡ drop (i + 1) xs = drop-set-lt (i + 1) xs i b (omega arith) in
    let x : drop i xs ≡ get_or xs i 0 ∷ drop (i + 1) xs = rw add-one (drop-cons xs i 0 below) in
    let y : drop i ys ≡ get_or ys i 0 ∷ drop (i + 1) ys = rw add-one (drop-cons ys i 0 inside) in
    rw (left, right, x, y) (append_assoc (take i xs) (b ∷ []) (xor (drop (i + 1) xs) (drop (i + 1) ys)))

-- all octets done
pub xor_done : (xs ys done : List ℕ) (n : ℕ) → length xs ≤ n → take n xs ++ xor (drop n xs) (drop n ys) ≡ done
    → xs ≡ done
unfolding xor
xor_done xs ys done n past h = rw (take_all n xs past, drop_all n xs past, append-nil xs) at h
