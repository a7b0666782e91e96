-- What any list of calls does.
use Rattle.std.proofs.Common.{◌≡◌, ◌<◌, ◌≤◌, ℕ, ◌+◌, Bool, true, false, List, [], ◌∷◌, ◌++◌, Option, Some, None, Result, Ok, Err, arith, refl, sym, ◌∙◌, ap, subst, append_assoc}
use Rattle.std.proofs.lemmas.List.{append-nil}
use Rattle.pgw_backend.specs.declared.client_error.PgWireClientError.{PgWireClientError as ClientError}
use Rattle.pgw_backend.specs.declared.client_error.PgWireClientError.TheVariants as client
use Rattle.pgw_session.specs.declared.types.Request.{Request}
use Rattle.pgw_session.specs.declared.types.Answer.{Answer}
use Rattle.pgw_session.specs.Events.{Event}
use Rattle.pgw_pool.specs.declared.returned.Returned.{Returned}
use Rattle.pgw_pool.specs.declared.returned.Returned.TheVariants.{Kept, Dropped}
use Rattle.pgw_pool.specs.declared.returned.DropCause.{DropCause}
use Rattle.pgw_pool.specs.declared.checking.Unfit.{Unfit}
use Rattle.pgw_pool.specs.Histories.{History, Lent, View, new_history, lent_as, with_request, with_lease, with_check, Over, ended, checked, IsOver, IsReset, IsChecked, AreReset, AreIdle}
use Rattle.pgw_pool.specs.Lending.{LendsFirst, IsCutLease, LeaseRan}
use Rattle.pgw_pool.specs.Returning.{GivesBack, GivenBack}
use Rattle.pgw_pool.specs.Stocks.{Out, leased, Stock, stock, LeaseRuns, StockStep, lends, runs, gives_back, lends_fit, drops_unfit, refills, retires, StockSteps, no_step, step_more}
use Rattle.pgw_pool.specs.Ledgers.{Loan, loan_with, loan, cut_loan, unlent, Ledger, ledger, LeaseStandsAs, DropsBy, IsLoan, AreLoans, AreApart, IsLedger, LedgerCall, lent, asked, given, lent_fit, unfit, retired, call_of, calls_of, AddsToLease, answered, passed, refused, wanted, cuts, stays_cut, LedgerEntry, is_lent, is_asked, is_kept, is_dropped, is_lent_fit, is_unfit, is_refilled, is_retired, Entries, no_entry, entry_more}
use Rattle.pgw_pool.specs.Checking.{ChecksFirst, LendsChecked}
use Rattle.pgw_pool.proofs.HistoryLaws.{lends_first, idle_one_more}
use Rattle.pgw_pool.proofs.CheckLaws.{lends_checked, unfit_of}
use Rattle.pgw_pool.proofs.RunLaws.{ran}
use Rattle.pgw_pool.proofs.ReturnLaws.{given_back}
use Rattle.pgw_pool.proofs.StockLaws.{cut_result}

-- ---- loans

loans_later : (low high : ℕ) (xs : List Loan) (os : List Out) → low ≤ high → AreLoans low xs os
    → AreLoans high xs os
loans_later low high [] [] le are = tt
loans_later low high (x ∷ xs) (o ∷ os) le are = (
  record { number = (are.0).number; own = (let own = (are.0).own in omega arith); stands = (are.0).stands },
  loans_later low high xs os le are.1,
)
loans_later low high [] (o ∷ os) le are = absurd are
loans_later low high (x ∷ xs) [] le are = absurd are

loans_append : (n : ℕ) (xs ys : List Loan) (os ps : List Out) → AreLoans n xs os → AreLoans n ys ps
    → AreLoans n (xs ++ ys) (os ++ ps)
loans_append n [] ys [] ps a b = b
loans_append n (x ∷ xs) ys (o ∷ os) ps a b = (a.0, loans_append n xs ys os ps a.1 b)
loans_append n [] ys (o ∷ os) ps a b = absurd a
loans_append n (x ∷ xs) ys [] ps a b = absurd a

-- ---- numbers of their own

apart_lower : (low high : ℕ) (os : List Out) → low ≤ high → AreApart high os → AreApart low os
apart_lower low high [] le apart = tt
apart_lower low high (o ∷ os) le apart = ((let first = apart.0 in omega (arith, le, first)), apart.1)

apart_more : (low n number : ℕ) (xs : List Loan) (os : List Out) (v : View) → AreLoans n xs os → n < number
    → low < number → AreApart low os → AreApart low (os ++ leased number v ∷ [])
apart_more low n number [] [] v are more start apart = (start, tt)
apart_more low n number (x ∷ xs) (o ∷ os) v are more start apart =
    let own = (are.0).own in
    (apart.0, apart_more o.number n number xs os v are.1 more (omega (arith, own, more)) apart.1)
apart_more low n number [] (o ∷ os) v are more start apart = absurd are
apart_more low n number (x ∷ xs) [] v are more start apart = absurd are

apart_same : (low number : ℕ) (left : List Out) (old new : View) (right : List Out)
    → AreApart low (left ++ leased number old ∷ right) → AreApart low (left ++ leased number new ∷ right)
apart_same low number [] old new right apart = apart
apart_same low number (o ∷ left) old new right apart =
    (apart.0, apart_same o.number number left old new right apart.1)

apart_less : (low : ℕ) (left : List Out) (o : Out) (right : List Out) → AreApart low (left ++ o ∷ right)
    → AreApart low (left ++ right)
apart_less low [] o right apart =
    apart_lower low o.number right (let first = apart.0 in omega (arith, first)) apart.1
apart_less low (p ∷ left) o right apart = (apart.0, apart_less p.number left o right apart.1)

-- the loan of a lease that is out
pub record Found (n : ℕ) (xs : List Loan) (left : List Out) (o : Out) (right : List Out) : Type 0 where
  pub before : List Loan
  pub behind : List Loan
  pub at : Loan
  pub are : xs ≡ before ++ at ∷ behind
  pub first : AreLoans n before left
  pub is : IsLoan n at o
  pub last : AreLoans n behind right

found : (n : ℕ) (xs : List Loan) (left : List Out) (o : Out) (right : List Out)
    → AreLoans n xs (left ++ o ∷ right) → Found n xs left o right
found n [] [] o right are = absurd are
found n (x ∷ xs) [] o right are =
    record { before = []; behind = xs; at = x; are = refl; first = tt; is = are.0; last = are.1 }
found n [] (p ∷ left) o right are = absurd are
found n (x ∷ xs) (p ∷ left) o right are =
    let f = found n xs left o right are.1 in
    record {
      before = x ∷ f.before;
      behind = f.behind;
      at = f.at;
      are = ap (λ (l : List Loan). x ∷ l) f.are;
      first
          = (are.0, f.first);
      is = f.is;
      last = f.last;
    }

-- ---- what one call does

abbrev pub Goes : LedgerCall → Ledger → Stock → Type 0
Goes call a t = (b : Ledger) × LedgerEntry call a b × IsLedger b t

lent_goes : (before now number : ℕ) (hs : List History) (rest : List View) (v : View) (out : List Loan)
    (os : List Out) (gone : List Loan)
    → now ≡ before + 1 → number ≡ now → LendsFirst hs now rest number v → AreLoans before out os → AreApart 0 os
    → Goes (lent number) (ledger hs out gone) (stock now rest (os ++ leased number v ∷ []))
lent_goes before now number [] rest v out os gone counted numbered first are apart = absurd first
lent_goes before now number (h ∷ hs) rest v out os gone counted numbered first are apart =
    let last : IsLoan now (loan h (lent_as number)) (leased number v) =
    record { number = refl; own = (omega arith); stands = first.0 } in (
      ledger hs (out ++ loan h (lent_as number) ∷ []) gone,
      is_lent number h hs out gone first.1,
      record {
        idle = first.2;
        out = loans_append now out (loan h (lent_as number) ∷ []) os (leased number v ∷ [])
            (loans_later before now out os (omega arith) are) (last, tt);
        apart =
            apart_more 0 before number out os v are (omega (arith, counted, numbered))
            (omega (arith, counted, numbered)) apart;
      },
    )

abbrev pub Grown : ℕ → ℕ → Request → Result Answer ClientError → Loan → View → Type 0
Grown n number q result x new = (more : Loan) × AddsToLease q x result more × IsLoan n more (leased number new)

ran_grown : (n number : ℕ) (h : History) (l : Lent) (q : Request) (new : View) (broken : Bool)
    (result : Result Answer ClientError)
    → l.number ≡ number → number ≤ n → LeaseRan h l q new broken result → Grown n number q result (loan h l) new
ran_grown n number h l q new false (Ok a) same own r =
    (loan h (with_request l q r.0), answered h l a r.0 r.1, record { number = same; own = own; stands = r.2 })
ran_grown n number h l q new false (Err (client.UnexpectedMessage m)) same own r =
    (loan h (with_request l q r.0), passed h l m r.0 r.1, record { number = same; own = own; stands = r.2 })
ran_grown n number h l q new false (Err (client.PgWireError why)) same own r =
    (loan h l, refused h l why, record { number = same; own = own; stands = r })
ran_grown n number h l q new false (Err client.OutOfMemory) same own r =
    (loan h l, wanted h l, record { number = same; own = own; stands = r })
ran_grown n number h l q new true (Err e) same own r =
    (cut_loan h l q e, cuts h l e, record { number = same; own = own; stands = r })
ran_grown n number h l q new true (Ok a) same own r = absurd r
ran_grown n number h l q new false (Err e) same own r = absurd r

grown : (n number : ℕ) (h : History) (l : Lent) (cut : Option (Request × ClientError)) (q : Request)
    (old new : View) (result : Result Answer ClientError)
    → LeaseRuns q old new result → l.number ≡ number → number ≤ n → LeaseStandsAs h l cut old
    → Grown n number q result (loan_with h l cut) new
grown n number h l None q old new result r same own lease =
    ran_grown n number h l q new new.broken result same own
    (ran h l q old new lease result new.broken refl (r.asks lease.usable))
grown n number h l (Some c) q old new result r same own cut =
    let left = r.broken cut.broken in
    let x = loan_with h l (Some c) in
    let still : IsLoan n x (leased number new) =
    record {
      number = same;
      own = own;
      stands = subst (λ (v : View). IsCutLease h l c.0 c.1 v) (sym left.1)
          cut;
    } in
    (x, subst (λ (y : Result Answer ClientError). AddsToLease q x y x) (sym left.0) (stays_cut h l c), still)

-- ---- a lease that is given back

reset_last : (os : List Over) (o : Over) → AreReset (os ++ o ∷ []) → IsOver o
reset_last [] o are = are.0
reset_last (x ∷ os) o are = reset_last os o are.1

idle_last : (n : ℕ) (hs : List History) (h : History) (vs : List View) → AreIdle n (hs ++ h ∷ []) vs
    → AreReset h.over
idle_last n [] h [] are = absurd are
idle_last n [] h (v ∷ vs) are = (are.0).resets
idle_last n (x ∷ hs) h [] are = absurd are
idle_last n (x ∷ hs) h (v ∷ vs) are = idle_last n hs h vs are.1

-- the session is idle with the lease and its reset, or it is dropped
pub data Ends (n : ℕ) (hs : List History) (now : List View) : Loan → Returned → Type 0 where
  idle_again : (h : History) (l : Lent) (es : List Event) → IsReset es
      → AreIdle n (hs ++ with_lease h l es ∷ []) now → Ends n hs now (loan h l) Kept
  let_go : (x : Loan) (why : DropCause) → DropsBy x.history x.lease x.cut why → AreIdle n hs now
      → Ends n hs now x (Dropped why)

ends_by : (n : ℕ) (hs : List History) (h : History) (l : Lent) (now : List View) (result : Returned)
    → GivenBack n hs h l now result → Ends n hs now (loan h l) result
ends_by n hs h l now Kept g =
    idle_again h l g.0 (reset_last h.over (ended l g.0) (idle_last n hs (with_lease h l g.0) now g.1)) g.1
ends_by n hs h l now (Dropped why) g = let_go (loan h l) why g.1 g.0

ended_as : (n : ℕ) (hs : List History) (idle now : List View) (h : History) (l : Lent)
    (cut : Option (Request × ClientError)) (old : View) (result : Returned)
    → GivesBack old idle now result → AreIdle n hs idle → l.number ≤ n → LeaseStandsAs h l cut old
    → Ends n hs now (loan_with h l cut) result
ended_as n hs idle now h l None old result g are own lease =
    ends_by n hs h l now result (given_back n hs h l old idle now result g are lease own)
ended_as n hs idle now h l (Some c) old result g are own cut =
    let x = loan_with h l (Some c) in
    let dropped = cut_result old idle now result g cut.broken in
    subst (Ends n hs now x) (sym dropped.1)
    (let_go x dropped.0 dropped.3 (subst (AreIdle n hs) (sym dropped.2) are))

gone_on : (n number : ℕ) (hs : List History) (now : List View) (x : Loan) (before behind lost : List Loan)
    (left right : List Out) (result : Returned)
    → (x.lease).number ≡ number → AreLoans n before left → AreLoans n behind right → AreApart 0 (left ++ right)
    → Ends n hs now x result
    → Goes (given number result) (ledger hs (before ++ x ∷ behind) lost) (stock n now (left ++ right))
gone_on n number hs now x before behind lost left right Kept same first last apart (idle_again h l es is are) = (
  ledger (hs ++ with_lease h l es ∷ []) (before ++ behind) lost,
  subst (λ k. LedgerEntry (given k Kept) (ledger hs (before ++ loan h l ∷ behind) lost)
      (ledger (hs ++ with_lease h l es ∷ []) (before ++ behind) lost)) same
      (is_kept h l es hs before behind lost is),
  record { idle = are; out = loans_append n before behind left right first last; apart = apart },
)
gone_on n number hs now x before behind lost left right (Dropped why) same first last apart (let_go y z by are) = (
  ledger hs (before ++ behind) (lost ++ x ∷ []),
  subst (λ k. LedgerEntry (given k (Dropped why)) (ledger hs (before ++ x ∷ behind) lost)
      (ledger hs (before ++ behind) (lost ++ x ∷ []))) same (is_dropped x why hs before behind lost by),
  record { idle = are; out = loans_append n before behind left right first last; apart = apart },
)

-- ---- a session that is checked

fit_goes : (before now number : ℕ) (hs : List History) (rest : List View) (v : View) (out : List Loan)
    (os : List Out) (gone : List Loan) → now ≡ before + 1 → number ≡ now
    → LendsChecked hs now rest number v → AreLoans before out os → AreApart 0 os
    → Goes (lent_fit number) (ledger hs out gone) (stock now rest (os ++ leased number v ∷ []))
fit_goes before now number [] rest v out os gone counted numbered first are apart = absurd first
fit_goes before now number (h ∷ hs) rest v out os gone counted numbered first are apart =
    let es = first.0 in
    let x = loan (with_check h es) (lent_as number) in
    let last : IsLoan now x (leased number v) = record { number = refl; own = (omega arith); stands = first.1 } in
    let fit : IsChecked es = reset_last h.over (checked es) (first.1).resets in
    let later = loans_later before now out os (omega arith) are in (
      ledger hs (out ++ x ∷ []) gone,
      is_lent_fit number h es hs out gone fit,
      record {
        idle = first.3;
        out = loans_append now out (x ∷ []) os (leased number v ∷ []) later (last, tt);
        apart =
            apart_more 0 before number out os v are (omega (arith, counted, numbered))
            (omega (arith, counted, numbered)) apart;
      },
    )

unfit_goes : (n : ℕ) (hs : List History) (idle rest : List View) (last : View) (why : Unfit) (out : List Loan)
    (os : List Out) (gone : List Loan) (c : ChecksFirst idle rest last (Err why)) → AreIdle n hs (c.old ∷ rest)
    → AreLoans n out os
    → AreApart 0 os → Goes (unfit why) (ledger hs out gone) (stock n rest os)
unfit_goes n [] idle rest last why out os gone c are loans apart = absurd are
unfit_goes n (h ∷ hs) idle rest last why out os gone c are loans apart = (
  ledger hs out (gone ++ unlent h ∷ []),
  is_unfit h why hs out gone last (unfit_of n h c.old last are.0 c.answer c.asked why c.by),
  record { idle = are.1; out = loans; apart = apart },
)

-- ---- calls

one_entry : (s t : Stock) (step : StockStep s t) (a : Ledger) → IsLedger a s → Goes (call_of s t step) a t
one_entry s t (lends before now number idle rest v out l) a is =
    lent_goes before now number a.idle rest v a.out out a.dropped l.counted l.numbered
    (lends_first before now number a.idle idle rest v l.first l.counted l.numbered is.idle) is.out is.apart
one_entry s t (runs n number idle left right q old new result r) a is =
    let f = found n a.out left (leased number old) right is.out in
    let at = f.at in
    let g : Grown n number q result at new =
    grown n number at.history at.lease at.cut q old new result r f.is.number f.is.own f.is.stands in
    let b = ledger a.idle (f.before ++ g.0 ∷ f.behind) a.dropped in
    let entry : LedgerEntry (asked number q result) (ledger a.idle (f.before ++ f.at ∷ f.behind) a.dropped) b =
    subst (λ k. LedgerEntry (asked k q result) (ledger a.idle (f.before ++ f.at ∷ f.behind) a.dropped) b)
    f.is.number (is_asked f.at g.0 q result a.idle f.before f.behind a.dropped g.1) in (
      b,
      subst (λ (xs : List Loan). LedgerEntry (asked number q result) (ledger a.idle xs a.dropped) b) (sym f.are)
          entry,
      record {
        idle = is.idle;
        out = loans_append n f.before (g.0 ∷ f.behind) left (leased number new ∷ right)
            f.first (g.2, f.last);
        apart = apart_same 0 number left old new right is.apart;
      },
    )
one_entry s t (gives_back n number idle now left right old result g) a is =
    let f = found n a.out left (leased number old) right is.out in
    let at = f.at in
    let ends : Ends n a.idle now at result =
    ended_as n a.idle idle now at.history at.lease at.cut old result g is.idle
    (subst (λ k. k ≤ n) (sym f.is.number) f.is.own) f.is.stands in
    subst (λ (xs : List Loan). Goes (given number result) (ledger a.idle xs a.dropped)
    (stock n now (left ++ right))) (sym f.are)
    (gone_on n number a.idle now at f.before f.behind a.dropped left right result f.is.number f.first f.last
    (apart_less 0 left (leased number old) right is.apart) ends)
one_entry s t (lends_fit before now number idle rest v out l) a is =
    let first = lends_checked before now number a.idle idle rest v l is.idle in
    fit_goes before now number a.idle rest v a.out out a.dropped l.next l.numbered first is.out is.apart
one_entry s t (drops_unfit n idle rest last why out checks) a is =
    let idle_is = subst (AreIdle n a.idle) checks.first is.idle in
    unfit_goes n a.idle idle rest last why a.out out a.dropped checks idle_is is.out is.apart
one_entry s t (refills n idle now out config nonce v fresh grown) a is = (
  ledger (a.idle ++ new_history config nonce ∷ []) a.out a.dropped,
  is_refilled config nonce a.idle a.out a.dropped,
  record {
    idle = idle_one_more n n a.idle (new_history config nonce) idle now v refl grown is.idle fresh;
    out =
        is.out;
    apart = is.apart;
  },
)
one_entry s t (retires n number idle left right old) a is =
    let f = found n a.out left (leased number old) right is.out in
    let b = ledger a.idle (f.before ++ f.behind) (a.dropped ++ f.at ∷ []) in
    let entry : LedgerEntry (retired number) (ledger a.idle (f.before ++ f.at ∷ f.behind) a.dropped) b =
    subst (λ k. LedgerEntry (retired k) (ledger a.idle (f.before ++ f.at ∷ f.behind) a.dropped) b) f.is.number
    (is_retired f.at a.idle f.before f.behind a.dropped) in (
      b,
      subst (λ (xs : List Loan). LedgerEntry (retired number) (ledger a.idle xs a.dropped) b) (sym f.are) entry,
      record {
        idle = is.idle;
        out = loans_append n f.before f.behind left right f.first f.last;
        apart = apart_less 0 left (leased number old) right is.apart;
      },
    )

pub any_entries : (s t : Stock) (steps : StockSteps s t) (a : Ledger) → IsLedger a s
    → (b : Ledger) × Entries (calls_of s t steps) a b × IsLedger b t
any_entries s t (no_step x) a is = (a, no_entry a, is)
any_entries s t (step_more x y z steps step) a is =
    let first = any_entries x y steps a is in
    let last = one_entry y z step first.0 first.2 in
    (last.0, entry_more (calls_of x y steps) (call_of y z step) a first.0 last.0 first.1 last.1, last.2)

-- ---- the dropped ones

dropped_one : (call : LedgerCall) (a b : Ledger) → LedgerEntry call a b
    → (more : List Loan) × (b.dropped ≡ a.dropped ++ more)
dropped_one call a b (is_lent number h idle out dropped begins) = ([], sym (append-nil dropped))
dropped_one call a b (is_asked x more q result idle left right dropped adds) = ([], sym (append-nil dropped))
dropped_one call a b (is_kept h l es idle left right dropped is) = ([], sym (append-nil dropped))
dropped_one call a b (is_dropped x why idle left right dropped by) = (x ∷ [], refl)
dropped_one call a b (is_lent_fit number h es idle out dropped fit) = ([], sym (append-nil dropped))
dropped_one call a b (is_unfit h why idle out dropped last is) = (unlent h ∷ [], refl)
dropped_one call a b (is_refilled config nonce idle out dropped) = ([], sym (append-nil dropped))
dropped_one call a b (is_retired x idle left right dropped) = (x ∷ [], refl)

pub dropped_stay : (calls : List LedgerCall) (a b : Ledger) → Entries calls a b
    → (more : List Loan) × (b.dropped ≡ a.dropped ++ more)
dropped_stay calls a b (no_entry x) = ([], sym (append-nil x.dropped))
dropped_stay calls a b (entry_more before call x y z entries entry) =
    let first = dropped_stay before x y entries in
    let last = dropped_one call y z entry in (
      first.0 ++ last.0,
      last.1 ∙ ap (λ (l : List Loan). l ++ last.0) first.1
          ∙ append_assoc x.dropped first.0 last.0,
    )
