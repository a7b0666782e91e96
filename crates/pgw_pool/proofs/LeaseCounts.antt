-- How many leases sessions have had.
use Rattle.std.proofs.Common.{◌≡◌, ◌<◌, ℕ, ◌+◌, ◌-◌, ◌^◌, min, List, [], ◌∷◌, ◌++◌, length, take, get_or, map, replicate, arith, refl, sym, ◌∙◌, ap, length-append}
use Rattle.std.proofs.lemmas.List.{take_more, map-append, replicate_more}
use Rattle.pgw_types.specs.Counts.{next_count}
use Rattle.pgw_config.specs.declared.config.Config.{Config}
use Rattle.pgw_session.specs.Events.{Event}
use Rattle.pgw_pool.specs.declared.returned.Returned.{Returned}
use Rattle.pgw_pool.specs.declared.returned.Returned.TheVariants.{Kept, Dropped}
use Rattle.pgw_pool.specs.declared.checking.CheckError.{CheckError}
use Rattle.pgw_pool.specs.declared.checking.CheckError.TheVariants as refusal
use Rattle.pgw_pool.specs.Histories.{Lent, Over, ended, checked, History, with_lease}
use Rattle.pgw_pool.specs.Starting.{new_histories}
use Rattle.pgw_pool.specs.Leases.{leases_over, leases_had, leases_with_this, AreCounted, LendsOne, LendsCounted, LendsFitCounted, LeavesCounts, StayCounted, counts_behind, BackCounted}

-- ---- one session

leases_more : (os : List Over) (l : Lent) (es : List Event)
    → leases_over (os ++ ended l es ∷ []) ≡ leases_over os + 1
leases_more [] l es = refl
leases_more (ended x fs ∷ os) l es = ap (λ (n : ℕ). n + 1) (leases_more os l es)
leases_more (checked fs ∷ os) l es = leases_more os l es

leases_checked : (os : List Over) (es : List Event)
    → leases_over (os ++ checked es ∷ []) ≡ leases_over os
leases_checked [] es = refl
leases_checked (ended x fs ∷ os) es = ap (λ (n : ℕ). n + 1) (leases_checked os es)
leases_checked (checked fs ∷ os) es = leases_checked os es

saturates : (k most : ℕ) → min (min k most + 1) most ≡ min (k + 1) most
saturates k most = omega arith

one_more : (h : History) (n leases : ℕ) → n ≡ leases_had h → leases ≡ next_count n
    → leases ≡ leases_with_this h
one_more h n leases had one =
    let next = ap (λ (k : ℕ). next_count k) had in
    one ∙ next ∙ saturates (leases_over h.over) (2 ^ 64 - 1)

-- behind a lease that is over
pub lease_had : (h : History) (l : Lent) (es : List Event) (leases : ℕ)
    → leases ≡ leases_with_this h → leases ≡ leases_had (with_lease h l es)
lease_had h l es leases is =
    is ∙ sym (ap (λ (k : ℕ). min k (2 ^ 64 - 1)) (leases_more h.over l es))

-- ---- a session joins others

pub one_joins : (hs : List History) (h : History) (counts now : List ℕ) (n : ℕ)
    → now ≡ counts ++ n ∷ [] → AreCounted hs counts → n ≡ leases_had h
    → AreCounted (hs ++ h ∷ []) now
one_joins hs h counts now n grown are is =
    let all = ap (λ (l : List ℕ). l ++ n ∷ []) are in
    let last = ap (λ (k : ℕ). map leases_had hs ++ k ∷ []) is in
    grown ∙ all ∙ last ∙ sym (map-append leases_had hs (h ∷ []))

pub back_counted : (hs : List History) (h : History) (l : Lent) (counts now : List ℕ) (n : ℕ)
    (result : Returned) → now ≡ counts_behind counts n result → AreCounted hs counts
    → n ≡ leases_with_this h → BackCounted hs h l now result
back_counted hs h l counts now n Kept grown are is =
    λ es. one_joins hs (with_lease h l es) counts now n grown are (lease_had h l es n is)
back_counted hs h l counts now n (Dropped why) same are is = same ∙ are

-- ---- the first is lent

pub lends_counted : (hs : List History) (counts now : List ℕ) (leases : ℕ)
    → LendsOne counts now leases → AreCounted hs counts → LendsCounted hs now leases
lends_counted [] counts now leases one are =
    let never : one.0 ∷ now ≡ [] = sym one.1 ∙ are in
    cc
lends_counted (h ∷ hs) counts now leases one are =
    let both : one.0 ∷ now ≡ leases_had h ∷ map leases_had hs = sym one.1 ∙ are in
    let first : one.0 ≡ leases_had h = cc in
    let rest : now ≡ map leases_had hs = cc in
    (one_more h one.0 leases first one.2, rest)

pub lends_fit_counted : (hs : List History) (counts now : List ℕ) (leases : ℕ)
    → LendsOne counts now leases → AreCounted hs counts → LendsFitCounted hs now leases
lends_fit_counted [] counts now leases one are = lends_counted [] counts now leases one are
lends_fit_counted (h ∷ hs) counts now leases one are =
    let lent = lends_counted (h ∷ hs) counts now leases one are in
    (λ es. lent.0 ∙ sym (ap (λ (k : ℕ). next_count k) (leases_checked h.over es)), lent.1)

-- ---- none is lent

pub stay_counted : (e : CheckError) (hs : List History) (counts now : List ℕ)
    → LeavesCounts counts now e → AreCounted hs counts → StayCounted e hs now
stay_counted refusal.Empty hs counts now same are = same ∙ are
stay_counted refusal.Exhausted hs counts now same are = same ∙ are
stay_counted (refusal.Unfit why) [] counts now left are =
    let never : left.0 ∷ now ≡ [] = sym left.1 ∙ are in
    cc
stay_counted (refusal.Unfit why) (h ∷ hs) counts now left are =
    let both : left.0 ∷ now ≡ leases_had h ∷ map leases_had hs = sym left.1 ∙ are in
    cc

-- ---- those that were never lent

pub new_counted : (config : Config) (nonces : List (List ℕ))
    → AreCounted (new_histories config nonces) (replicate (length nonces) 0)
new_counted config [] = refl
new_counted config (nonce ∷ nonces) = ap (λ (l : List ℕ). 0 ∷ l) (new_counted config nonces)

pub one_more_new : (nonces : List (List ℕ)) (i : ℕ) (counts now : List ℕ) → i < length nonces
    → now ≡ counts ++ 0 ∷ [] → counts ≡ replicate (length (take i nonces)) 0
    → now ≡ replicate (length (take (i + 1) nonces)) 0
one_more_new nonces i counts now there grown are =
    let front = take i nonces in
    let longer : length (take (i + 1) nonces) ≡ length front + 1 =
    ap length (take_more nonces i [] there) ∙ length-append front (get_or nonces i [] ∷ []) in
    let zeros = ap (λ (l : List ℕ). l ++ 0 ∷ []) are ∙ replicate_more (length front) 0 in
    grown ∙ zeros ∙ ap (λ (k : ℕ). replicate k 0) (sym longer)
