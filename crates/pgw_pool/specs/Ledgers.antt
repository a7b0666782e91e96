-- What any list of calls does over the sessions of a pool.
use Rattle.std.specs.Prelude.{◌≡◌, ◌<◌, ◌≤◌, ℕ, List, [], ◌∷◌, ◌++◌, Option, Some, None, Result, Ok, Err}
use Rattle.pgw_types.specs.declared.error.PgWireError.{PgWireError}
use Rattle.pgw_backend.specs.declared.backend.PgWireBackendMessage.{PgWireBackendMessage as Backend}
use Rattle.pgw_backend.specs.declared.client_error.PgWireClientError.{PgWireClientError as ClientError}
use Rattle.pgw_backend.specs.declared.client_error.PgWireClientError.TheVariants as client
use Rattle.pgw_config.specs.declared.config.Config.{Config}
use Rattle.pgw_session.specs.declared.types.Request.{Request}
use Rattle.pgw_session.specs.declared.types.Answer.{Answer}
use Rattle.pgw_session.specs.Events.{Event}
use Rattle.pgw_client_laws.specs.Turns.{IsAnswered, IsPassedSegment}
use Rattle.pgw_pool.specs.declared.returned.Returned.{Returned}
use Rattle.pgw_pool.specs.declared.returned.Returned.TheVariants.{Kept, Dropped}
use Rattle.pgw_pool.specs.declared.returned.DropCause.{DropCause}
use Rattle.pgw_pool.specs.declared.returned.DropCause.TheVariants as cause
use Rattle.pgw_pool.specs.declared.checking.Unfit.{Unfit}
use Rattle.pgw_pool.specs.Histories.{History, Lent, View, new_history, lent_as, with_request, with_lease, with_check, IsReset, IsChecked, BeginsIdle, IsLent, AreIdle}
use Rattle.pgw_pool.specs.Lending.{IsCutLease}
use Rattle.pgw_pool.specs.Returning.{IsDropped}
use Rattle.pgw_pool.specs.Checking.{IsUnfit}
use Rattle.pgw_pool.specs.Stocks.{Out, Stock, StockStep, lends, runs, gives_back, lends_fit, drops_unfit, refills, retires, StockSteps, no_step, step_more}

-- ---- sessions

-- a session with its open lease, and the request and the error that have left it unusable
pub record Loan : Type 0 where
  pub history : History
  pub lease : Lent
  pub cut : Option (Request × ClientError)

abbrev pub loan_with : History → Lent → Option (Request × ClientError) → Loan
loan_with h l cut = record { history = h; lease = l; cut = cut }

abbrev pub loan : History → Lent → Loan
loan h l = loan_with h l None

abbrev pub cut_loan : History → Lent → Request → ClientError → Loan
cut_loan h l q e = loan_with h l (Some (q, e))

-- a session that was dropped while it was idle; the leases' numbers begin with 1
abbrev pub unlent : History → Loan
unlent h = loan h (lent_as 0)

-- what was done over the sessions that are idle, in their order, over those that are out, and over
-- those that were dropped
pub record Ledger : Type 0 where
  pub idle : List History
  pub out : List Loan
  pub dropped : List Loan

abbrev pub ledger : List History → List Loan → List Loan → Ledger
ledger idle out dropped = record { idle = idle; out = out; dropped = dropped }

-- a session stands for its lease, or that request has left it unusable behind that, by that error
abbrev pub LeaseStandsAs : History → Lent → Option (Request × ClientError) → View → Type 0
LeaseStandsAs h l None v = IsLent h l v
LeaseStandsAs h l (Some c) v = IsCutLease h l c.0 c.1 v

-- a lease of this pool that is out, and what its session stands for
pub record IsLoan (lent : ℕ) (x : Loan) (o : Out) : Type 0 where
  pub number : x.lease.number ≡ o.number
  pub own : o.number ≤ lent
  pub stands : LeaseStandsAs x.history x.lease x.cut o.view

abbrev pub AreLoans : ℕ → List Loan → List Out → Type 0
AreLoans lent [] [] = Unit {0}
AreLoans lent (x ∷ xs) (o ∷ os) = IsLoan lent x o × AreLoans lent xs os
AreLoans lent xs os = ⊥

-- the leases that are out have ascending numbers above `low`, so that no two have the same
abbrev pub AreApart : ℕ → List Out → Type 0
AreApart low [] = Unit {0}
AreApart low (o ∷ os) = (low < o.number) × AreApart o.number os

-- This was done over the sessions of a pool and of its leases that are out.
pub record IsLedger (a : Ledger) (s : Stock) : Type 0 where
  pub idle : AreIdle s.lent a.idle s.idle
  pub out : AreLoans s.lent a.out s.out
  pub apart : AreApart 0 s.out

-- ---- calls

-- a lease was lent; in a lease a request was asked, and came to this; a lease was given back; one was
-- lent behind a check, or its session was not fit; a session was connected in place of a lost one; a
-- lease's session was retired
pub data LedgerCall : Type 0 where
  lent : (number : ℕ) → LedgerCall
  asked : (number : ℕ) (q : Request) (result : Result Answer ClientError) → LedgerCall
  given : (number : ℕ) (result : Returned) → LedgerCall
  lent_fit : (number : ℕ) → LedgerCall
  unfit : (why : Unfit) → LedgerCall
  refilled : (config : Config) (nonce : List ℕ) → LedgerCall
  retired : (number : ℕ) → LedgerCall

abbrev pub call_of : (s t : Stock) → StockStep s t → LedgerCall
call_of s t (lends before now number idle rest v out l) = lent number
call_of s t (runs before number idle left right q old new result r) = asked number q result
call_of s t (gives_back before number idle now left right old result g) = given number result
call_of s t (lends_fit before now number idle rest v out l) = lent_fit number
call_of s t (drops_unfit n idle rest last why out checks) = unfit why
call_of s t (refills n idle now out config nonce v is grown) = refilled config nonce
call_of s t (retires n number idle left right old) = retired number

abbrev pub calls_of : (s t : Stock) → StockSteps s t → List LedgerCall
calls_of s t (no_step x) = []
calls_of s t (step_more x y z steps step) = calls_of x y steps ++ call_of y z step ∷ []

-- What a request adds to its lease: itself, with its own segment, whose answer was given; or with one
-- that was passed over; or nothing, where it has no encoding or memory was wanting; or that error
-- leaves the session unusable, which is asked nothing from then on.
pub data AddsToLease (q : Request) : Loan → Result Answer ClientError → Loan → Type 0 where
  answered : (h : History) (l : Lent) (a : Answer) (es : List Event) → IsAnswered q a es →
      AddsToLease q (loan h l) (Ok a) (loan h (with_request l q es))
  passed : (h : History) (l : Lent) (m : Backend) (es : List Event) → IsPassedSegment q m es →
      AddsToLease q (loan h l) (Err (client.UnexpectedMessage m)) (loan h (with_request l q es))
  refused : (h : History) (l : Lent) (why : PgWireError) →
      AddsToLease q (loan h l) (Err (client.PgWireError why)) (loan h l)
  wanted : (h : History) (l : Lent) → AddsToLease q (loan h l) (Err client.OutOfMemory) (loan h l)
  cuts : (h : History) (l : Lent) (e : ClientError) →
      AddsToLease q (loan h l) (Err e) (cut_loan h l q e)
  stays_cut : (h : History) (l : Lent) (c : Request × ClientError) →
      AddsToLease q (loan_with h l (Some c)) (Err client.Broken) (loan_with h l (Some c))

-- Why a session is dropped as its lease is given back: it stood for that end of its reset; or it was
-- unusable before.
abbrev pub DropsBy : History → Lent → Option (Request × ClientError) → DropCause → Type 0
DropsBy h l None why = (last : View) × IsDropped h l why last
DropsBy h l (Some c) why = why ≡ cause.Failed client.Broken

-- What a call does. The session that is lent is the first idle one, and if it was lent before, the
-- last that it got is ReadyForQuery of status Idle. One that is given back is idle from then on,
-- behind all others, with the lease and a reset that was answered so; or it is dropped by its cause.
-- The first idle session that is checked is lent, with its check, or it is not fit, and is dropped. A
-- new one is idle behind all others. One that is retired is dropped.
pub data LedgerEntry : LedgerCall → Ledger → Ledger → Type 0 where
  is_lent : (number : ℕ) (h : History) (idle : List History) (out dropped : List Loan) →
      BeginsIdle h.over →
      LedgerEntry (lent number) (ledger (h ∷ idle) out dropped)
      (ledger idle (out ++ loan h (lent_as number) ∷ []) dropped)
  is_asked : (x more : Loan) (q : Request) (result : Result Answer ClientError)
      (idle : List History) (left right dropped : List Loan) → AddsToLease q x result more →
      LedgerEntry (asked (x.lease).number q result) (ledger idle (left ++ x ∷ right) dropped)
      (ledger idle (left ++ more ∷ right) dropped)
  is_kept : (h : History) (l : Lent) (es : List Event) (idle : List History)
      (left right dropped : List Loan) → IsReset es →
      LedgerEntry (given l.number Kept) (ledger idle (left ++ loan h l ∷ right) dropped)
      (ledger (idle ++ with_lease h l es ∷ []) (left ++ right) dropped)
  is_dropped : (x : Loan) (why : DropCause) (idle : List History)
      (left right dropped : List Loan) → DropsBy x.history x.lease x.cut why →
      LedgerEntry (given (x.lease).number (Dropped why)) (ledger idle (left ++ x ∷ right) dropped)
      (ledger idle (left ++ right) (dropped ++ x ∷ []))
  is_lent_fit : (number : ℕ) (h : History) (es : List Event) (idle : List History)
      (out dropped : List Loan) → IsChecked es →
      LedgerEntry (lent_fit number) (ledger (h ∷ idle) out dropped)
      (ledger idle (out ++ loan (with_check h es) (lent_as number) ∷ []) dropped)
  is_unfit : (h : History) (why : Unfit) (idle : List History) (out dropped : List Loan)
      (last : View) → IsUnfit h why last →
      LedgerEntry (unfit why) (ledger (h ∷ idle) out dropped)
      (ledger idle out (dropped ++ unlent h ∷ []))
  is_refilled : (config : Config) (nonce : List ℕ) (idle : List History) (out dropped : List Loan)
      →
      LedgerEntry (refilled config nonce) (ledger idle out dropped)
      (ledger (idle ++ new_history config nonce ∷ []) out dropped)
  is_retired : (x : Loan) (idle : List History) (left right dropped : List Loan) →
      LedgerEntry (retired (x.lease).number) (ledger idle (left ++ x ∷ right) dropped)
      (ledger idle (left ++ right) (dropped ++ x ∷ []))

-- what a list of calls does
pub data Entries : List LedgerCall → Ledger → Ledger → Type 0 where
  no_entry : (a : Ledger) → Entries [] a a
  entry_more : (calls : List LedgerCall) (call : LedgerCall) (a b c : Ledger) →
      Entries calls a b → LedgerEntry call b c → Entries (calls ++ call ∷ []) a c
