-- A pool with its leases that are out, and what is printed of each call of a script.
use Rattle.std.specs.Prelude.{◌≡◌, ◌≢◌, ℕ, true, false, List, [], ◌∷◌, ◌++◌, Option, Result, Ok, Err}
use Rattle.std.specs.List.{All}
use Rattle.pgw_types.specs.Counts.{next_count}
use Rattle.pgw_backend.specs.declared.client_error.PgWireClientError.{PgWireClientError as ClientError}
use Rattle.pgw_backend.specs.declared.client_error.PgWireClientError.TheVariants as client
use Rattle.pgw_session.specs.declared.types.Request.{Request}
use Rattle.pgw_session.specs.declared.types.Answer.{Answer}
use Rattle.pgw_client_calls.specs.Line.{Foretold, StaysWithin}
use Rattle.pgw_client_ask.specs.Asking.{Asks}
use Rattle.pgw_pool.specs.declared.pool.LendError.{LendError}
use Rattle.pgw_pool.specs.declared.returned.Returned.{Returned}
use Rattle.pgw_pool.specs.Histories.{View}
use Rattle.pgw_pool.specs.Lending.{Lends, LendsNone}
use Rattle.pgw_pool.specs.Returning.{GivesForetold}
use Rattle.pgw_prog_script.specs.declared.pool_line.PoolCall.{PoolCall}
use Rattle.pgw_prog_script.specs.declared.pool_line.PoolCall.TheVariants as call
use Rattle.pgw_prog_sessions.specs.AnswerLines.{answer_lines}
use Rattle.pgw_prog_sessions.specs.SessionText.{error_line}
use Rattle.pgw_prog_pool.specs.Lines.{lease_line, none_line, returned_line, wants_memory, was_wanting}

-- a lease that is out: its number, its session, what its link still has to come, and how many requests were answered in it
pub record ScriptLease : Type 0 where
  pub number : ℕ
  pub view : View
  pub left : Option (List ℕ)
  pub answers : ℕ

abbrev pub lease_place : ℕ → View → Option (List ℕ) → ℕ → ScriptLease
lease_place number view left answers =
    record { number = number; view = view; left = left; answers = answers }

-- how many leases the pool has lent, its idle sessions and what their links still have to come, and its leases that are
-- out, in the order that they were lent
pub record PoolStanding : Type 0 where
  pub lent : ℕ
  pub idle : List View
  pub lefts : List (Option (List ℕ))
  pub out : List ScriptLease

abbrev pub standing_in_pool : ℕ → List View → List (Option (List ℕ)) → List ScriptLease
    → PoolStanding
standing_in_pool lent idle lefts out =
    record { lent = lent; idle = idle; lefts = lefts; out = out }

-- ---- a request in a lease

-- What a lease promises of it: over a session that can be used, its answer or its error has its reason; what its link gave
-- for it is the front of what that had to come; and no more is read than the script's limit.
pub record RunsScriptLease (q : Request) (old new : View) (was is : Option (List ℕ))
    (result : Result Answer ClientError) : Type 0 where
  pub broken : old.broken ≡ true → (result ≡ Err client.Broken) × (new ≡ old)
  pub asks : old.broken ≡ false →
      Asks q old.client old.line new.client new.line new.broken result
  pub foretold : Foretold was is old.line.tape new.line.tape
  pub within : StaysWithin old.line new.line

-- the answers of a lease are numbered from 1, and an error has no number
pub data TellsPoolLines (q : Request) : ScriptLease → ScriptLease → List ℕ → Type 0 where
  answered : (number n : ℕ) (old new : View) (was is : Option (List ℕ)) (a : Answer) →
      RunsScriptLease q old new was is (Ok a) →
      TellsPoolLines q (lease_place number old was n) (lease_place number new is (next_count n))
      (answer_lines (next_count n) a)
  refused : (number n : ℕ) (old new : View) (was is : Option (List ℕ)) (e : ClientError) →
      RunsScriptLease q old new was is (Err e) → wants_memory e ≡ false →
      TellsPoolLines q (lease_place number old was n) (lease_place number new is n) (error_line e)

-- ---- the calls of a script

-- one call, and what is printed of it
pub data PrintsPoolCall : PoolStanding → PoolCall → List ℕ → PoolStanding → Type 0 where
  lends : (lent now number : ℕ) (idle rest : List View) (v : View) (left : Option (List ℕ))
      (lefts : List (Option (List ℕ))) (out : List ScriptLease)
      → Lends idle lent rest now number v →
      PrintsPoolCall (standing_in_pool lent idle (left ∷ lefts) out) call.Lend (lease_line number)
      (standing_in_pool now rest lefts (out ++ lease_place number v left 0 ∷ []))
  lends_none : (lent : ℕ) (idle : List View) (lefts : List (Option (List ℕ)))
      (out : List ScriptLease)
      (e : LendError) → LendsNone idle lent e →
      PrintsPoolCall (standing_in_pool lent idle lefts out) call.Lend (none_line e)
      (standing_in_pool lent idle lefts out)
  runs : (lent : ℕ) (idle : List View) (lefts : List (Option (List ℕ)))
      (before behind : List ScriptLease)
      (old new : ScriptLease) (q : Request) (line : List ℕ) → TellsPoolLines q old new line →
      PrintsPoolCall (standing_in_pool lent idle lefts (before ++ old ∷ behind))
      (call.Run old.number q) line
      (standing_in_pool lent idle lefts (before ++ new ∷ behind))
  gives_back : (lent : ℕ) (idle now : List View) (lefts left_now : List (Option (List ℕ)))
      (before behind : List ScriptLease) (old : ScriptLease) (result : Returned) →
      GivesForetold old.left old.view idle now lefts left_now result →
      was_wanting result ≡ false →
      PrintsPoolCall (standing_in_pool lent idle lefts (before ++ old ∷ behind))
      (call.Back old.number)
      (returned_line result) (standing_in_pool lent now left_now (before ++ behind))

-- a list of calls, and all that is printed of them
pub data Calls : PoolStanding → List PoolCall → List ℕ → PoolStanding → Type 0 where
  no_call : (s : PoolStanding) → Calls s [] [] s
  call_more : (s t u : PoolStanding) (cs : List PoolCall) (c : PoolCall) (text line : List ℕ) →
      Calls s cs text t → PrintsPoolCall t c line u → Calls s (cs ++ c ∷ []) (text ++ line) u

-- at the end the leases that are out are given back, in the order that they were lent, which is that of their numbers
pub data AllBack : PoolStanding → PoolStanding → Type 0 where
  none_out : (lent : ℕ) (idle : List View) (lefts : List (Option (List ℕ))) →
      AllBack (standing_in_pool lent idle lefts []) (standing_in_pool lent idle lefts [])
  back_first : (lent : ℕ) (idle now : List View) (lefts left_now : List (Option (List ℕ)))
      (old : ScriptLease) (out : List ScriptLease) (result : Returned) (last : PoolStanding) →
      GivesForetold old.left old.view idle now lefts left_now result →
      AllBack (standing_in_pool lent now left_now out) last →
      AllBack (standing_in_pool lent idle lefts (old ∷ out)) last

-- no lease with this number is out
abbrev pub IsNotOut : ℕ → List ScriptLease → Type 0
IsNotOut number out = All (λ p. p.number ≢ number) out

-- the call names a lease that is not out
abbrev pub NamesNone : PoolCall → List ScriptLease → Type 0
NamesNone call.Lend out = ⊥
NamesNone (call.Run number q) out = IsNotOut number out
NamesNone (call.Back number) out = IsNotOut number out
