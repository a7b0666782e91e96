-- Any list of calls of a desk.
use Rattle.std.proofs.Common.{◌≡◌, ◌≤◌, ℕ, ◌+◌, ◌==◌, not, List, [], ◌∷◌, ◌++◌, Some, slice_get, drop, refl, sym, ap, subst, arith, append_assoc, append-nil}
use Rattle.std.specs.List.{filter}
use Rattle.pgw_pool_turns.specs.Rows.{Ascend}
use Rattle.pgw_pool_turns.specs.Standings.{TurnDesk, IsWithinRoom}
use Rattle.pgw_pool_turns.specs.Steps.{TurnDeed, TurnStep, lends_at_once, finds_none, joins, leaves, lends_to, spends, puts, loses, claims, TurnCourse, begins, goes_on, tickets_of, served_in, IsFair}
use Rattle.pgw_pool_turns.proofs.RowLaws.{ascend_push, ascend_filter, ascend_front}

served_snoc : (deeds : List TurnDeed) (deed : TurnDeed)
    → served_in (deeds ++ deed ∷ []) ≡ served_in deeds ++ tickets_of deed
served_snoc [] deed = append-nil (tickets_of deed)
served_snoc (d ∷ deeds) deed =
    subst (λ (ts : List ℕ). tickets_of d ++ served_in (deeds ++ deed ∷ []) ≡ ts)
    (sym (append_assoc (tickets_of d) (served_in deeds) (tickets_of deed)))
    (ap (λ (ts : List ℕ). tickets_of d ++ ts) (served_snoc deeds deed))

-- the first of those who wait is served
first_served : (past ts : List ℕ) (ticket high : ℕ) → slice_get ts 0 ≡ Some ticket → Ascend 0 (past ++ ts) high
    → Ascend 0 ((past ++ ticket ∷ []) ++ drop 1 ts) high
first_served past [] ticket high first a = cc
first_served past (t ∷ ts) ticket high first a =
    let same : t ≡ ticket = cc in
    subst (λ (x : ℕ). Ascend 0 ((past ++ x ∷ []) ++ ts) high) same
    (subst (λ (us : List ℕ). Ascend 0 us high) (sym (append_assoc past (t ∷ []) ts)) a)

one_step : (past : List ℕ) (d e : TurnDesk) (deed : TurnDeed) → TurnStep d deed e
    → Ascend 0 (past ++ d.row.waiting) d.row.issued
    → Ascend 0 ((past ++ tickets_of deed) ++ e.row.waiting) e.row.issued
one_step past d e deed (lends_at_once x free) a =
    let none : drop 1 d.row.waiting ≡ d.row.waiting = rw free.1 refl in
    subst (λ (us : List ℕ). Ascend 0 (us ++ drop 1 d.row.waiting) d.row.issued) (sym (append-nil past))
    (subst (λ (us : List ℕ). Ascend 0 (past ++ us) d.row.issued) (sym none) a)
one_step past d e deed (finds_none x free) a =
    let none : drop 1 d.row.waiting ≡ d.row.waiting = rw free.1 refl in
    subst (λ (us : List ℕ). Ascend 0 (us ++ drop 1 d.row.waiting) d.row.issued) (sym (append-nil past))
    (subst (λ (us : List ℕ). Ascend 0 (past ++ us) d.row.issued) (sym none) a)
one_step past d e deed (joins x) a =
    subst (λ (us : List ℕ). Ascend 0 (us ++ (d.row.waiting ++ d.row.issued ∷ [])) (d.row.issued + 1))
    (sym (append-nil past))
    (ascend_front 0 past d.row.waiting (d.row.waiting ++ d.row.issued ∷ []) d.row.issued (d.row.issued + 1)
    (λ from b. ascend_push from d.row.waiting d.row.issued b) a)
one_step past d e deed (leaves x ticket) a =
    subst (λ (us : List ℕ). Ascend 0 (us ++ filter (λ t. not (t == ticket)) d.row.waiting) d.row.issued)
    (sym (append-nil past))
    (ascend_front 0 past d.row.waiting (filter (λ t. not (t == ticket)) d.row.waiting) d.row.issued d.row.issued
    (λ from b. ascend_filter (λ t. not (t == ticket)) from d.row.waiting d.row.issued b) a)
one_step past d e deed (lends_to x ticket turn) a = first_served past d.row.waiting ticket d.row.issued turn.1 a
one_step past d e deed (spends x ticket turn) a = first_served past d.row.waiting ticket d.row.issued turn.1 a
one_step past d e deed (puts x out) a =
    subst (λ (us : List ℕ). Ascend 0 (us ++ d.row.waiting) d.row.issued) (sym (append-nil past)) a
one_step past d e deed (loses x) a =
    subst (λ (us : List ℕ). Ascend 0 (us ++ d.row.waiting) d.row.issued) (sym (append-nil past)) a
one_step past d e deed (claims x place) a =
    subst (λ (us : List ℕ). Ascend 0 (us ++ d.row.waiting) d.row.issued) (sym (append-nil past)) a

pub fair : (room ready places : ℕ) (deeds : List TurnDeed) (d : TurnDesk) → TurnCourse room ready places deeds d
    → IsFair deeds d
fair room ready places deeds d begins = omega arith
fair room ready places deeds d (goes_on before deed x y course step) =
    subst (λ (us : List ℕ). Ascend 0 (us ++ y.row.waiting) y.row.issued) (sym (served_snoc before deed))
    (one_step (served_in before) x y deed step (fair room ready places before x course))

-- ---- numbers

kept_step : (d e : TurnDesk) (deed : TurnDeed) → TurnStep d deed e → IsWithinRoom d → IsWithinRoom e
kept_step d e deed (lends_at_once x free) k = let f = free.0 in omega arith
kept_step d e deed (finds_none x free) k = k
kept_step d e deed (joins x) k = k
kept_step d e deed (leaves x ticket) k = k
kept_step d e deed (lends_to x ticket turn) k = let f = turn.0 in omega arith
kept_step d e deed (spends x ticket turn) k = k
kept_step d e deed (puts x out) k = omega arith
kept_step d e deed (loses x) k = omega arith
kept_step d e deed (claims x place) k = omega arith

pub keeps : (room ready places : ℕ) (deeds : List TurnDeed) (d : TurnDesk) → ready ≤ room
    → TurnCourse room ready places deeds d → IsWithinRoom d
keeps room ready places deeds d le begins = omega arith
keeps room ready places deeds d le (goes_on before deed x y course step) =
    kept_step x y deed step (keeps room ready places before x le course)
