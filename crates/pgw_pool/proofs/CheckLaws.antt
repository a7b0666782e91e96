-- Sessions that are checked.
use Rattle.std.proofs.Common.{◌≡◌, ◌<◌, ℕ, ◌+◌, Bool, true, false, List, [], ◌∷◌, ◌++◌, Result, Ok, Err, if◌then◌else◌, arith, refl, sym, ◌∙◌, ap, subst}
use Rattle.std.proofs.lemmas.List.{append-nil}
use Rattle.pgw_query.specs.declared.response.TransactionStatus.{TransactionStatus}
use Rattle.pgw_query.specs.declared.response.TransactionStatus.TheVariants.{Idle, Transaction, Error}
use Rattle.pgw_backend.specs.declared.client_error.PgWireClientError.{PgWireClientError as ClientError}
use Rattle.pgw_backend.specs.declared.client_error.PgWireClientError.TheVariants as client
use Rattle.pgw_session.specs.declared.types.Response.{Response}
use Rattle.pgw_session.specs.declared.types.Response.TheVariants.{EmptyQuery, Query, Execution}
use Rattle.pgw_session.specs.declared.types.Answer.TheVariants as answer
use Rattle.pgw_session.specs.Events.{Event}
use Rattle.pgw_client_calls.specs.Line.{MovesLine, IsFlushed}
use Rattle.pgw_client_laws.specs.Turns.{IsAnswered}
use Rattle.pgw_client_laws.specs.Stands.{Made, made_call, StandsForCalls, OneMore, StandsBehind}
use Rattle.pgw_pool.specs.Histories.{History, checked, View, check, lent_as, with_check, made_over, IsChecked, IsCheckedIn, BeginsIdle, StandsBy, IsIdleInPool, IsLent, AreIdle}
use Rattle.pgw_pool.specs.Lending.{IsCutLease}
use Rattle.pgw_pool.specs.Returning.{cause_of, IsAskedIn, LeaseEndsBy, FailsBy, IsFailed}
use Rattle.pgw_pool.specs.declared.returned.DropCause.{DropCause}
use Rattle.pgw_pool.specs.declared.returned.DropCause.TheVariants as cause
use Rattle.pgw_pool.specs.declared.checking.Unfit.{Unfit}
use Rattle.pgw_pool.specs.declared.checking.Unfit.TheVariants.{Answered, Dropped}
use Rattle.pgw_pool.specs.declared.checking.CheckError.{CheckError}
use Rattle.pgw_pool.specs.declared.checking.CheckError.TheVariants as refusal
use Rattle.pgw_pool.specs.Checking.{is_empty_query, fit_by_status, fit_by, ChecksFirst, LendsFit, LendsNoneFit, LendsChecked, IsUnfit, StayChecked}
use Rattle.pgw_pool.proofs.HistoryLaws.{ascend_check, resets_more, made_more, begins_idle, simple_ends, status_known, idle_later, lent_again, over_link}
use Rattle.pgw_pool.proofs.ReturnLaws.{check_encoded, stands_more, ends_by, Came, fails_by}

-- what comes of a check by its answer
abbrev pub IsToldBy : View → View → Result (Unit {0}) Unfit → Type 0
IsToldBy old last fit =
    (a : Result (List Response) ClientError) × IsAskedIn check old last a
    × (fit ≡ fit_by a last.client.transaction_status last.broken)

pub is_told : (old last : View) (a : Result (List Response) ClientError) (status : TransactionStatus)
    (broken : Bool) (fit : Result (Unit {0}) Unfit) → IsAskedIn check old last a
    → status ≡ last.client.transaction_status → broken ≡ last.broken
    → fit ≡ fit_by a status broken → IsToldBy old last fit
is_told old last a status broken fit asked told known is =
    let by_status = ap (λ (s : TransactionStatus). fit_by a s broken) told in
    let by_broken = ap (λ (b : Bool). fit_by a last.client.transaction_status b) known in
    (a, asked, is ∙ by_status ∙ by_broken)

pub checks_first : (old last : View) (idle rest : List View) (fit : Result (Unit {0}) Unfit)
    → idle ≡ old ∷ rest → IsToldBy old last fit → ChecksFirst idle rest last fit
checks_first old last idle rest fit first told =
    record { old = old; answer = told.0; first = first; asked = told.1; by = told.2 }

-- ---- what a fit session answered

empty_is : (rs : List Response) → is_empty_query rs ≡ true → rs ≡ EmptyQuery ∷ []
empty_is [] is = absurd (cc)
empty_is (EmptyQuery ∷ []) is = refl
empty_is (EmptyQuery ∷ r ∷ rs) is = absurd (cc)
empty_is (Query tag fields rows ∷ rs) is = absurd (cc)
empty_is (Execution tag ∷ rs) is = absurd (cc)

idle_is : (status : TransactionStatus) → Ok tt ≡ fit_by_status status → status ≡ Idle
idle_is Idle is = refl
idle_is Transaction is = absurd (cc)
idle_is Error is = absurd (cc)

responses_fit : (rs : List Response) (status : TransactionStatus) (empty : Bool) → is_empty_query rs ≡ empty
    → Ok tt ≡ (if empty then fit_by_status status else Err (Answered rs))
    → (rs ≡ EmptyQuery ∷ []) × (status ≡ Idle)
responses_fit rs status true empty is = (empty_is rs empty, idle_is status is)
responses_fit rs status false empty is = absurd (cc)

fit_is : (a : Result (List Response) ClientError) (status : TransactionStatus) (broken : Bool)
    → Ok tt ≡ fit_by a status broken → (a ≡ Ok (EmptyQuery ∷ [])) × (status ≡ Idle)
fit_is (Ok rs) status broken is =
    let f = responses_fit rs status (is_empty_query rs) refl is in
    (ap (λ (l : List Response). Ok l) f.0, f.1)
fit_is (Err e) status broken is = absurd (cc)

-- ---- it is lent

module _ (low now : ℕ) (h : History) (old last : View) (is : IsIdleInPool low h old) (above : low < now) where
  abbrev Lent : Type 0
  Lent = (es : List Event) × IsLent (with_check h es) (lent_as now) last × BeginsIdle (with_check h es).over

  stands_checked : (es : List Event) → StandsBy h (made_over h.over ++ made_call check es ∷ []) last
      → StandsBy (with_check h es) (made_over (with_check h es).over ++ []) last
  stands_checked es stands =
      subst (λ (ts : List Made). StandsBy h ts last) (sym (append-nil (made_over (h.over ++ checked es ∷ []))
      ∙ made_more h.over (checked es))) stands

  lent_by : (es : List Event) → IsChecked es → StandsBy h (made_over h.over ++ made_call check es ∷ []) last
      → last.broken ≡ false → IsFlushed last.line → Lent
  lent_by es fit stands usable flushed =
      let resets = resets_more h.over (checked es) is.resets fit in (
        es,
        record {
          stands = stands_checked es stands;
          resets = resets;
          last = low;
          ascend = ascend_check 0 low h.over es is.ascend;
          above = above;
          usable = usable;
          flushed = flushed;
        },
        begins_idle (h.over ++ checked es ∷ []) resets,
      )

  behind : (broken : Bool) → last.broken ≡ broken → last.client.transaction_status ≡ Idle → (taken sent : List ℕ)
      → MovesLine old.line last.line taken sent → (broken ≡ false → IsFlushed last.line)
      → StandsBehind answer.Responses h.config h.nonce (made_over h.over) check (old.line.tape.took ++ taken)
      (old.line.tape.wrote ++ sent) last.client last.line.buffer (Ok (EmptyQuery ∷ [])) broken → Lent
  behind true known idle taken sent moved flushed b = absurd b
  behind false known idle taken sent moved flushed one =
      let es = one.0 in
      let stands =
      over_link (λ (read wrote : List ℕ). StandsForCalls h.config h.nonce
      (made_over h.over ++ made_call check es ∷ []) read wrote last.client last.line.buffer) old.line
      last.line taken sent moved one.2 in
      let r = simple_ends _ es (one.1).0 in
      let told = status_known h (made_over h.over) check es r.0 r.1 last stands r.2 in
      lent_by es (one.1, (r.0, r.1, r.2, sym told ∙ idle)) stands known (flushed refl)

  fit_lent : (a : Result (List Response) ClientError) → IsAskedIn check old last a
      → Ok tt ≡ fit_by a last.client.transaction_status last.broken → Lent
  fit_lent a asked fit =
      let f = fit_is a last.client.transaction_status last.broken fit in
      let s =
      asked.stands is.usable h.config h.nonce (made_over h.over) old.line.tape.took old.line.tape.wrote
      is.stands in
      behind last.broken refl f.1 s.0 s.1 s.2 s.3
      (subst (λ (x : Result (List Response) ClientError). StandsBehind answer.Responses h.config h.nonce
      (made_over h.over) check (old.line.tape.took ++ s.0) (old.line.tape.wrote ++ s.1) last.client
      last.line.buffer x last.broken) f.0 s.4)

-- ---- it is not fit

-- an idle session has no lease, whatever its next number is
unlent_cut : (n : ℕ) (h : History) (v : View) (e : ClientError) → IsCutLease h (lent_as n) check e v
    → IsCutLease h (lent_as 0) check e v
unlent_cut n h v e is = record { stands = is.stands; wants = is.wants; broken = is.broken; resets = is.resets }

unlent_fails : (n : ℕ) (h : History) (v : View) (broken : Bool) (e : ClientError)
    → FailsBy check h (lent_as n) v broken e → FailsBy check h (lent_as 0) v broken e
unlent_fails n h v false (client.UnexpectedMessage m) is = is
unlent_fails n h v true e is = unlent_cut n h v e is
unlent_fails n h v false e is = absurd is

failed_unfit : (n : ℕ) (h : History) (why : DropCause) (v : View) → IsFailed check h (lent_as n) why v
    → IsUnfit h (Dropped why) v
failed_unfit n h (cause.Status status) v is = absurd is
failed_unfit n h (cause.Refused e) v is = is
failed_unfit n h (cause.Failed client.OutOfMemory) v is = absurd is
failed_unfit n h (cause.Failed e) v is = unlent_fails n h v v.broken e is
failed_unfit n h cause.OutOfMemory v is = unlent_cut n h v client.OutOfMemory is

module _ (low : ℕ) (h : History) (old last : View) (is : IsIdleInPool low h old) where
  lease : IsLent h (lent_as (low + 1)) old
  lease = lent_again low (low + 1) h old (omega arith) is

  abbrev AnsweredBy : (List Event → Type 0) → List ℕ → List ℕ → Type 0
  AnsweredBy property taken sent =
      OneMore h.config h.nonce (made_over h.over ++ []) check property (old.line.tape.took ++ taken)
      (old.line.tape.wrote ++ sent) last.client last.line.buffer

  ends_in : (property : List Event → Type 0) (taken sent : List ℕ) → MovesLine old.line last.line taken sent
      → AnsweredBy property taken sent → LeaseEndsBy check h (lent_as 0) property last
  ends_in property taken sent moved one =
      ends_by check check_encoded h (lent_as (low + 1)) old last lease property taken sent moved one

  -- the status behind it
  checked_in : (rs : List Response) (taken sent : List ℕ) → rs ≡ EmptyQuery ∷ []
      → MovesLine old.line last.line taken sent
      → AnsweredBy (IsAnswered check (answer.Responses rs)) taken sent
      → AnsweredBy (IsCheckedIn last.client.transaction_status) taken sent
  checked_in rs taken sent empty moved one =
      let es = one.0 in
      let r = simple_ends _ es (one.1).0 in
      let stands =
      stands_more check check_encoded h (lent_as (low + 1)) old last lease es taken sent moved one.2 in
      let told = status_known h (made_over h.over ++ []) check es r.0 r.1 last stands r.2 in (
        es,
        (
          subst (λ (l : List Response). IsAnswered check (answer.Responses l) es) empty one.1,
          (r.0, r.1, r.2, sym told),
        ),
        one.2,
      )

  by_status : (status : TransactionStatus) (why : Unfit) → Err why ≡ fit_by_status status → (taken sent : List ℕ)
      → MovesLine old.line last.line taken sent
      → AnsweredBy (IsCheckedIn status) taken sent → IsUnfit h why last
  by_status Idle why by taken sent moved one = absurd (cc)
  by_status Transaction why by taken sent moved one =
      let same : why ≡ Dropped (cause.Status Transaction) = cc in
      subst (λ (w : Unfit). IsUnfit h w last) (sym same)
      (ends_in (IsCheckedIn Transaction) taken sent moved one, λ idle. cc)
  by_status Error why by taken sent moved one =
      let same : why ≡ Dropped (cause.Status Error) = cc in
      subst (λ (w : Unfit). IsUnfit h w last) (sym same)
      (ends_in (IsCheckedIn Error) taken sent moved one, λ idle. cc)

  by_responses : (rs : List Response) (empty : Bool) → is_empty_query rs ≡ empty → (why : Unfit)
      → Err why ≡ (if empty then fit_by_status last.client.transaction_status else Err (Answered rs))
      → (taken sent : List ℕ) → MovesLine old.line last.line taken sent
      → AnsweredBy (IsAnswered check (answer.Responses rs)) taken sent → IsUnfit h why last
  by_responses rs true empty why by taken sent moved one =
      by_status last.client.transaction_status why by taken sent moved
      (checked_in rs taken sent (empty_is rs empty) moved one)
  by_responses rs false empty why by taken sent moved one =
      let same : why ≡ Answered rs = cc in
      subst (λ (w : Unfit). IsUnfit h w last) (sym same)
      (ends_in (IsAnswered check (answer.Responses rs)) taken sent moved one, empty)

  by_answer : (a : Result (List Response) ClientError) (broken : Bool) → last.broken ≡ broken
      → (taken sent : List ℕ) → MovesLine old.line last.line taken sent
      → StandsBehind answer.Responses h.config h.nonce (made_over h.over ++ []) check
      (old.line.tape.took ++ taken) (old.line.tape.wrote ++ sent) last.client last.line.buffer a broken
      → Came check check_encoded h (lent_as (low + 1)) old last lease a broken → (why : Unfit)
      → Err why ≡ fit_by a last.client.transaction_status broken → IsUnfit h why last
  by_answer (Ok rs) true known taken sent moved behind came why by = absurd behind
  by_answer (Ok rs) false known taken sent moved behind came why by =
      by_responses rs (is_empty_query rs) refl why by taken sent moved behind
  by_answer (Err e) broken known taken sent moved behind came why by =
      let same : why ≡ Dropped (cause_of e broken) = cc in
      let failed =
      fails_by check check_encoded h (lent_as (low + 1)) old last lease e broken known taken sent moved behind
      came in
      subst (λ (w : Unfit). IsUnfit h w last) (sym same)
      (failed_unfit (low + 1) h (cause_of e broken) last failed)

  pub unfit_of : (a : Result (List Response) ClientError) → IsAskedIn check old last a → (why : Unfit)
      → Err why ≡ fit_by a last.client.transaction_status last.broken → IsUnfit h why last
  unfit_of a asked why by =
      let s =
      asked.stands is.usable h.config h.nonce (made_over h.over ++ []) old.line.tape.took old.line.tape.wrote
      lease.stands in
      by_answer a last.broken refl s.0 s.1 s.2 s.4 (asked.comes is.usable) why by

-- ---- of all that are idle

pub lends_checked : (low now number : ℕ) (hs : List History) (idle rest : List View) (v : View)
    → LendsFit idle low rest now number v → AreIdle low hs idle → LendsChecked hs now rest number v
lends_checked low now number hs idle rest v l are =
    let c = l.checks in
    lent_as_first hs (subst (AreIdle low hs) c.first are)
  where
    lent_as_first : (hs : List History) → AreIdle low hs (l.checks.old ∷ rest) → LendsChecked hs now rest number v
    lent_as_first [] are = absurd are
    lent_as_first (h ∷ hs) are =
        let next = l.next in
        let numbered = l.numbered in
        let c = l.checks in
        let f = fit_lent low number h c.old v are.0 (omega arith) c.answer c.asked c.by in
        (f.0, f.1, f.2, idle_later low now hs rest (omega arith) are.1)

rest_stays : (low : ℕ) (why : Unfit) (hs : List History) (idle now : List View) (last : View)
    → (c : ChecksFirst idle now last (Err why)) → AreIdle low hs (c.old ∷ now)
    → StayChecked (refusal.Unfit why) hs low now
rest_stays low why [] idle now last c are = absurd are
rest_stays low why (h ∷ hs) idle now last c are =
    (are.1, (last, unfit_of low h c.old last are.0 c.answer c.asked why c.by))

pub stay_checked : (e : CheckError) (low was dropped : ℕ) (hs : List History) (idle now : List View)
    → LendsNoneFit idle was low now dropped e → AreIdle low hs idle → StayChecked e hs low now
stay_checked refusal.Empty low was dropped hs idle now none are = subst (AreIdle low hs) (sym none.1) are
stay_checked refusal.Exhausted low was dropped hs idle now none are = subst (AreIdle low hs) (sym none.2) are
stay_checked (refusal.Unfit why) low was dropped hs idle now none are =
    let c = (none.1).1 in
    rest_stays low why hs idle now (none.1).0 c (subst (AreIdle low hs) c.first are)
