-- Sessions that are checked before they are lent.
use Rattle.std.specs.Prelude.{◌≡◌, ◌≢◌, ℕ, ◌+◌, Bool, true, false, List, [], ◌∷◌, Option, Result, Ok, Err, if◌then◌else◌}
use Rattle.pgw_types.specs.Counts.{next_count}
use Rattle.pgw_query.specs.declared.response.TransactionStatus.{TransactionStatus}
use Rattle.pgw_query.specs.declared.response.TransactionStatus.TheVariants.{Idle}
use Rattle.pgw_backend.specs.declared.client_error.PgWireClientError.{PgWireClientError as ClientError}
use Rattle.pgw_session.specs.declared.types.Response.{Response}
use Rattle.pgw_session.specs.declared.types.Response.TheVariants.{EmptyQuery}
use Rattle.pgw_session.specs.declared.types.Answer.TheVariants as answer
use Rattle.pgw_session.specs.Events.{Event}
use Rattle.pgw_client_calls.specs.Line.{Foretold}
use Rattle.pgw_pool.specs.declared.returned.DropCause.TheVariants as cause
use Rattle.pgw_pool.specs.declared.checking.Unfit.{Unfit}
use Rattle.pgw_pool.specs.declared.checking.Unfit.TheVariants.{Answered, Dropped}
use Rattle.pgw_pool.specs.declared.checking.CheckError.{CheckError}
use Rattle.pgw_pool.specs.declared.checking.CheckError.TheVariants as refusal
use Rattle.pgw_client_laws.specs.Turns.{IsAnswered}
use Rattle.pgw_pool.specs.Histories.{History, View, check, lent_as, with_check, IsCheckedIn, BeginsIdle, IsLent, AreIdle}
use Rattle.pgw_pool.specs.Lending.{most_leases}
use Rattle.pgw_pool.specs.Returning.{cause_of, IsAskedIn, LeaseEndsBy, IsFailed}

-- a session is fit where the check is answered by one empty query, and the status behind it is Idle
abbrev pub is_empty_query : List Response → Bool
is_empty_query (EmptyQuery ∷ []) = true
is_empty_query rs = false

abbrev pub fit_by_status : TransactionStatus → Result (Unit {0}) Unfit
fit_by_status Idle = Ok tt
fit_by_status status = Err (Dropped (cause.Status status))

-- else why it is not: by an error the cause is that of a session which is given back
abbrev pub fit_by : Result (List Response) ClientError → TransactionStatus → Bool →
    Result (Unit {0}) Unfit
fit_by (Ok rs) status broken =
    if is_empty_query rs then fit_by_status status else Err (Answered rs)
fit_by (Err e) status broken = Err (Dropped (cause_of e broken))

-- The first of these idle sessions was checked, and these are left. By its answer it is fit, or why
-- not.
pub record ChecksFirst (idle rest : List View) (last : View) (fit : Result (Unit {0}) Unfit)
    : Type 0 where
  pub old : View
  pub answer : Result (List Response) ClientError
  pub first : idle ≡ old ∷ rest
  pub asked : IsAskedIn check old last answer
  pub by : fit ≡ fit_by answer last.client.transaction_status last.broken

-- as ChecksFirst, with what each link has to come, which stays with its session. Over a link that knows it,
-- what the link gave for the check is the front of that, and where it answered its end, nothing was
-- left. So no other cause is told than one that these bytes have, or a fault of the link's, or want
-- of memory.
pub record ChecksForetold (foretells : Type 0) (idle : List View) (lefts : List (Option (List ℕ)))
    (rest : List View) (left_rest : List (Option (List ℕ))) (last : View) (is : Option (List ℕ))
    (fit : Result (Unit {0}) Unfit) : Type 0 where
  pub old : View
  pub left : Option (List ℕ)
  pub answer : Result (List Response) ClientError
  pub first : idle ≡ old ∷ rest
  pub lefts_first : lefts ≡ left ∷ left_rest
  pub asked : IsAskedIn check old last answer
  pub foretold : foretells → Foretold left is old.line.tape last.line.tape
  pub by : fit ≡ fit_by answer last.client.transaction_status last.broken

-- It is fit, and lent under the next number.
pub record LendsFit (idle : List View) (lent : ℕ) (rest : List View) (now : ℕ) (number : ℕ)
    (v : View) : Type 0 where
  pub checks : ChecksFirst idle rest v (Ok tt)
  pub below : lent ≢ most_leases
  pub next : now ≡ lent + 1
  pub numbered : number ≡ now

-- Why none is lent: none is idle; or one is, and all numbers are spent; or the first was not fit, and
-- is dropped.
abbrev pub LendsNoneFit : List View → ℕ → ℕ → List View → ℕ → CheckError → Type 0
LendsNoneFit idle was lent now dropped refusal.Empty =
    (idle ≡ []) × (now ≡ idle) × (dropped ≡ was)
LendsNoneFit idle was lent now dropped refusal.Exhausted =
    (idle ≢ []) × (lent ≡ most_leases) × (now ≡ idle) × (dropped ≡ was)
LendsNoneFit idle was lent now dropped (refusal.Unfit why) =
    (lent ≢ most_leases) × ((last : View) × ChecksFirst idle now last (Err why))
    × (dropped ≡ next_count was)

-- what the links have to come then
abbrev pub NoneForetold : Type 0 → List View → List (Option (List ℕ)) → List View →
    List (Option (List ℕ)) → CheckError → Type 0
NoneForetold foretells idle lefts now left_now (refusal.Unfit why) =
    (last : View) × (is : Option (List ℕ))
    × ChecksForetold foretells idle lefts now left_now last is (Err why)
NoneForetold foretells idle lefts now left_now e = left_now ≡ lefts

-- By what was done over these sessions: the first is lent with a check more, and the others stay idle.
abbrev pub LendsChecked : List History → ℕ → List View → ℕ → View → Type 0
LendsChecked [] lent rest number v = ⊥
LendsChecked (h ∷ hs) lent rest number v =
    (es : List Event) × IsLent (with_check h es) (lent_as number) v
    × BeginsIdle (with_check h es).over × AreIdle lent hs rest

-- What an idle session stands for that is not fit: its check was answered by something else than one
-- empty query; or so, with a transaction open behind it; or the check failed.
abbrev pub IsUnfit : History → Unfit → View → Type 0
IsUnfit h (Answered rs) v =
    LeaseEndsBy check h (lent_as 0) (IsAnswered check (answer.Responses rs)) v
    × (is_empty_query rs ≡ false)
IsUnfit h (Dropped (cause.Status status)) v =
    LeaseEndsBy check h (lent_as 0) (IsCheckedIn status) v × (status ≢ Idle)
IsUnfit h (Dropped why) v = IsFailed check h (lent_as 0) why v

-- the others stay idle where the first is dropped, which is not fit; and else all do
abbrev pub StayChecked : CheckError → List History → ℕ → List View → Type 0
StayChecked (refusal.Unfit why) [] lent now = ⊥
StayChecked (refusal.Unfit why) (h ∷ hs) lent now =
    AreIdle lent hs now × ((last : View) × IsUnfit h why last)
StayChecked e hs lent now = AreIdle lent hs now
