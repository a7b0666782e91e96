-- The calls of a pool script, one by one.
use Rattle.std.proofs.Common.{◌≡◌, ◌≢◌, ℕ, ◌+◌, ◌<◌, ◌≤◌, List, [], ◌∷◌, ◌++◌, Bool, true, false, length, map, take, drop, get_or, set, Option, Some, None, Result, Ok, Err, refl, sym, ap, subst, ◌∙◌, arith, append_assoc}
use Rattle.std.proofs.lemmas.List.{append-nil, drop_more, drop-set, length-append, map-append, take-append-drop, take-set, take_more}
use Rattle.std.proofs.lemmas.List.Elements.{All-append, All-cons, All-nil}
use Rattle.std.specs.List.{All}
use Rattle.std.specs.Result.{IfOk, OnOk}
use Rattle.pgw_types.specs.Counts.{next_count}
use Rattle.pgw_types.specs.declared.memory.OutOfMemory.{OutOfMemory}
use Rattle.pgw_backend.specs.declared.client_error.PgWireClientError.{PgWireClientError as ClientError}
use Rattle.pgw_backend.specs.declared.client_error.PgWireClientError.TheVariants as client
use Rattle.pgw_session.specs.declared.types.Request.{Request}
use Rattle.pgw_session.specs.declared.types.Answer.{Answer}
use Rattle.pgw_client_ask.specs.Asking.{Asks}
use Rattle.pgw_link.specs.declared.link.Link as Link
use Rattle.pgw_link.specs.declared.memory.MemoryLink.{MemoryLink}
use Rattle.pgw_link.specs.Memory.{memory_tape, faults_of}
use Rattle.pgw_client_calls.specs.Line.{Foretold, StaysWithin}
use Rattle.pgw_pool.specs.declared.lease.Lease.{Lease}
use Rattle.pgw_pool.specs.declared.pool.Pool.{Pool}
use Rattle.pgw_pool.specs.declared.pool.LendError.{LendError}
use Rattle.pgw_pool.specs.declared.returned.Returned.{Returned}
use Rattle.pgw_pool.specs.Lending.{Lends, LendsNone}
use Rattle.pgw_pool.specs.Views.{idle_in, lefts_in, left_of, lent_by, lease_view, lease_number, room_of}
use Rattle.pgw_prog_pool.specs.declared.desk.Seat.{Seat}
use Rattle.pgw_pool.specs.Histories.{View}
use Rattle.pgw_pool.specs.Returning.{GivesForetold}
use Rattle.pgw_prog_script.specs.declared.pool_line.PoolCall.{PoolCall}
use Rattle.pgw_prog_script.specs.declared.pool_line.PoolCall.TheVariants as call
use Rattle.pgw_prog_sessions.specs.AnswerLines.{answer_lines}
use Rattle.pgw_prog_sessions.specs.SessionText.{error_line}
use Rattle.pgw_prog_pool.specs.Lines.{lease_line, none_line, returned_line, wants_memory, was_wanting}
use Rattle.pgw_prog_pool.specs.Standing.{ScriptLease, lease_place, PoolStanding, standing_in_pool, RunsScriptLease, TellsPoolLines, answered, refused, PrintsPoolCall, lends, lends_none, runs, gives_back, IsNotOut, Calls, no_call, call_more, AllBack, none_out, back_first}
use Rattle.pgw_prog_pool.specs.Views.{seat_place, pool_standing, to_come, HasRoom, PrintsRun, PrintsCall, Printed}

-- ---- lists that are cut at a place

split_map : {A B : Type 0} (f : A → B) (xs : List A) (i : ℕ) (d : A) → i < length xs
    → map f xs ≡ map f (take i xs) ++ (f (get_or xs i d) ∷ map f (drop (i + 1) xs))
split_map f xs i d lt =
    ap (map f) (sym (take-append-drop i xs)) ∙ map-append f (take i xs) (drop i xs)
    ∙ ap (λ l. map f (take i xs) ++ map f l) (drop_more xs i d lt)

split_set : {A B : Type 0} (f : A → B) (xs : List A) (i : ℕ) (y : A) → i < length xs
    → map f (set xs i y) ≡ map f (take i xs) ++ (f y ∷ map f (drop (i + 1) xs))
split_set f xs i y lt =
    ap (map f) (sym (take-append-drop i (set xs i y))) ∙ map-append f (take i (set xs i y)) (drop i (set xs i y))
    ∙ rw (take-set xs i y, drop-set xs i y lt) refl

-- ---- one call

-- a session is lent
pub lent_one : (r : Result Unit OutOfMemory) (lent now number shown : ℕ) (idle rest : List View) (v : View)
    (lefts left_rest : List (Option (List ℕ))) (left : Option (List ℕ)) (out mid all : List Seat) (seat : Seat)
    (old new : List ℕ)
    → Lends idle lent rest now number v → lefts ≡ left ∷ left_rest → seat_place seat ≡ lease_place number v left 0
    → mid ≡ out → all ≡ mid ++ seat ∷ [] → shown ≡ number → OnOk r (new ≡ old ++ lease_line shown)
    → OnOk r (PrintsCall true (standing_in_pool lent idle lefts (map seat_place out)) call.Lend
    (standing_in_pool now rest left_rest (map seat_place all)) old new)
lent_one (Ok done) lent now number shown idle rest v lefts left_rest left out mid all seat old new lent_so come is
    same more tells put =
    let added : map seat_place all ≡ map seat_place out ++ lease_place number v left 0 ∷ [] =
    ap (map seat_place) (more ∙ ap (λ l. l ++ seat ∷ []) same) ∙ map-append seat_place out (seat ∷ [])
    ∙ ap (λ p. map seat_place out ++ p ∷ []) is in (
      lease_line number,
      rw (added, come)
          (lends lent now number idle rest v left left_rest (map seat_place out) lent_so),
      rw tells at put,
    )
lent_one (Err e) lent now number shown idle rest v lefts left_rest left out mid all seat old new lent_so come is
    same more tells put = tt

-- none is
pub lent_none : {L : Link.Ghosts MemoryLink} (r : Result Unit OutOfMemory) (before after : Pool MemoryLink L)
    (out all : List Seat) (why : LendError) (old new : List ℕ)
    → LendsNone (idle_in memory_tape faults_of before) (lent_by before) why → after ≡ before → all ≡ out
    → OnOk r (new ≡ old ++ none_line why)
    → OnOk r (PrintsCall true (pool_standing before out) call.Lend (pool_standing after all) old new)
lent_none (Ok done) before after out all why old new none same kept put =
    rw (same, kept) (
      none_line why,
      lends_none (lent_by before) (idle_in memory_tape faults_of before)
          (lefts_in to_come before) (map seat_place out) why none,
      put,
    )
lent_none (Err e) before after out all why old new none same kept put = tt

-- what is printed of a request
abbrev pub seen : Lease MemoryLink → View
seen lease = lease_view memory_tape faults_of lease

abbrev the_result : Result Answer ClientError → Result Answer ClientError
the_result r = r

-- what its link gave is the front of what that had to come, and within the limit
abbrev pub Moves : Lease MemoryLink → Lease MemoryLink → Type 0
Moves before after =
    Foretold (left_of to_come before) (left_of to_come after) (seen before).line.tape (seen after).line.tape
    × StaysWithin (seen before).line (seen after).line

ran : (q : Request) (r : Result Answer ClientError) (before after : Lease MemoryLink)
    → ((seen before).broken ≡ true → (r ≡ Err client.Broken) × (after ≡ before))
    → ((seen before).broken ≡ false → Asks q (seen before).client (seen before).line (seen after).client
    (seen after).line (seen after).broken r)
    → Moves before after
    → RunsScriptLease q (seen before) (seen after) (left_of to_come before) (left_of to_come after) r
ran q r before after broken asks moves =
    record {
      broken = λ is. let b = broken is in (b.0, ap seen b.1);
      asks = asks;
      foretold = moves.0;
      within =
          moves.1;
    }

pub told_answer : (r : Result Unit OutOfMemory) (q : Request) (a : Answer) (before after : Lease MemoryLink)
    (n m : ℕ) (old new : List ℕ)
    → lease_number after ≡ lease_number before
    → ((seen before).broken ≡ true → (Ok a ≡ Err client.Broken) × (after ≡ before))
    → ((seen before).broken ≡ false → Asks q (seen before).client (seen before).line (seen after).client
    (seen after).line (seen after).broken (Ok a))
    → Moves before after → m ≡ next_count n → OnOk r (new ≡ old ++ answer_lines m a)
    → OnOk r (PrintsRun q (lease_place (lease_number before) (seen before) (left_of to_come before) n)
    (lease_place (lease_number after) (seen after) (left_of to_come after) m) old new)
told_answer (Ok done) q a before after n m old new same broken asks moves more put =
    rw (same, more) (
      answer_lines (next_count n) a,
      answered (lease_number before) n (seen before) (seen after) (left_of to_come before) (left_of to_come after)
          a (ran q (Ok a) before after broken asks moves),
      rw more at put,
    )
told_answer (Err e) q a before after n m old new same broken asks moves more put = tt

pub told_error : (r : Result Unit OutOfMemory) (q : Request) (e : ClientError) (before after : Lease MemoryLink)
    (n : ℕ) (old new : List ℕ)
    → lease_number after ≡ lease_number before
    → ((seen before).broken ≡ true → (the_result (Err e) ≡ Err client.Broken) × (after ≡ before))
    → ((seen before).broken ≡ false → Asks q (seen before).client (seen before).line (seen after).client
    (seen after).line (seen after).broken (Err e))
    → Moves before after → OnOk r (wants_memory e ≡ false) → OnOk r (new ≡ old ++ error_line e)
    → OnOk r (PrintsRun q (lease_place (lease_number before) (seen before) (left_of to_come before) n)
    (lease_place (lease_number after) (seen after) (left_of to_come after) n) old new)
told_error (Ok done) q e before after n old new same broken asks moves told put =
    rw same (
      error_line e,
      refused (lease_number before) n (seen before) (seen after) (left_of to_come before)
          (left_of to_come after) e (ran q (Err e) before after broken asks moves) told,
      put,
    )
told_error (Err short) q e before after n old new same broken asks moves told put = tt

-- no lease that was looked at has this number
pub none_more : (out : List Seat) (at number : ℕ) (s : Seat) → at < length out
    → (lease_number (get_or out at s).lease ≡ number → ⊥) → IsNotOut number (map seat_place (take at out))
    → IsNotOut number (map seat_place (take (at + 1) out))
none_more out at number s lt other before =
    let more : take (at + 1) out ≡ take at out ++ get_or out at s ∷ [] = take_more out at s lt in
    rw (more, map-append seat_place (take at out) (get_or out at s ∷ []))
    (All-append (λ p. p.number ≢ number) (map seat_place (take at out)) (seat_place (get_or out at s) ∷ [])
    before (All-cons (λ p. p.number ≢ number) (seat_place (get_or out at s)) [] other
    (All-nil (λ p. p.number ≢ number))))

module _ {A : Type 0} (f : A → ScriptLease) where
  -- a request in the lease at a place
  pub ran_at : (lent : ℕ) (idle : List View) (lefts : List (Option (List ℕ))) (out : List A) (at number : ℕ)
      (before after : A) (q : Request) (old new : List ℕ)
      → at < length out → get_or out at before ≡ before → (f before).number ≡ number
      → PrintsRun q (f before) (f after) old new
      → PrintsCall true (standing_in_pool lent idle lefts (map f out)) (call.Run number q)
      (standing_in_pool lent idle lefts (map f (set out at after))) old new
  ran_at lent idle lefts out at number before after q old new lt here named (line, tells, put) =
      let was : map f out ≡ map f (take at out) ++ (f before ∷ map f (drop (at + 1) out)) =
      split_map f out at before lt
      ∙ ap (λ x. map f (take at out) ++ (f x ∷ map f (drop (at + 1) out))) here in
      let now = split_set f out at after lt in (
        line,
        rw (was, now) (subst (λ n. PrintsPoolCall
            (standing_in_pool lent idle lefts (map f (take at out) ++ (f before ∷ map f (drop (at + 1) out))))
            (call.Run n q) line (standing_in_pool lent idle lefts
            (map f (take at out) ++ (f after ∷ map f (drop (at + 1) out))))) named
            (runs lent idle lefts (map f (take at out)) (map f (drop (at + 1) out)) (f before) (f after) q
            line tells)),
        put,
      )

  -- the lease at a place is given back
  pub back_at : (lent : ℕ) (idle now : List View) (lefts left_now : List (Option (List ℕ))) (out rest : List A)
      (at number : ℕ) (seat : A) (result : Returned) (old new : List ℕ)
      → at < length out → seat ≡ get_or out at seat → rest ≡ take at out ++ drop (at + 1) out
      → (f seat).number ≡ number → GivesForetold (f seat).left (f seat).view idle now lefts left_now result
      → was_wanting result ≡ false → new ≡ old ++ returned_line result
      → PrintsCall true (standing_in_pool lent idle lefts (map f out)) (call.Back number)
      (standing_in_pool lent now left_now (map f rest)) old new
  back_at lent idle now lefts left_now out rest at number seat result old new lt here left named gives told put =
      let was : map f out ≡ map f (take at out) ++ (f seat ∷ map f (drop (at + 1) out)) =
      split_map f out at seat lt
      ∙ ap (λ x. map f (take at out) ++ (f x ∷ map f (drop (at + 1) out))) (sym here) in
      let is : map f rest ≡ map f (take at out) ++ map f (drop (at + 1) out) =
      ap (map f) left ∙ map-append f (take at out) (drop (at + 1) out) in (
        returned_line result,
        rw (was, is)
            (subst (λ n. PrintsPoolCall
            (standing_in_pool lent idle lefts (map f (take at out) ++ (f seat ∷ map f (drop (at + 1) out))))
            (call.Back n) (returned_line result)
            (standing_in_pool lent now left_now (map f (take at out) ++ map f (drop (at + 1) out))))
            named (gives_back lent idle now lefts left_now (map f (take at out))
            (map f (drop (at + 1) out)) (f seat) result gives told)),
        put,
      )

  -- so is the first of those that are left
  pub first_back : (lent : ℕ) (idle now : List View) (lefts left_now : List (Option (List ℕ))) (out rest : List A)
      (seat : A) (result : Returned) (last : PoolStanding)
      → 0 < length out → seat ≡ get_or out 0 seat → rest ≡ take 0 out ++ drop (0 + 1) out
      → GivesForetold (f seat).left (f seat).view idle now lefts left_now result
      → AllBack (standing_in_pool lent now left_now (map f rest)) last
      → AllBack (standing_in_pool lent idle lefts (map f out)) last
  first_back lent idle now lefts left_now [] rest seat result last some here left gives more =
      absurd (omega (arith, some))
  first_back lent idle now lefts left_now (x ∷ out) rest seat result last some here left gives more =
      rw (sym here) (back_first lent idle now lefts left_now (f seat) (map f out) result last gives
      (subst (λ r. AllBack (standing_in_pool lent now left_now (map f r)) last) left more))

-- ---- lists of calls

pub printed_none : (s : PoolStanding) (old : List ℕ) → Printed s [] s old old
printed_none s old = ([], no_call s, sym (append-nil old))

pub printed_more : (s t u : PoolStanding) (calls : List PoolCall) (c : PoolCall) (old mid new : List ℕ)
    → Printed s calls t old mid → PrintsCall true t c u mid new → Printed s (calls ++ c ∷ []) u old new
printed_more s t u calls c old mid new (text, made, put) (line, called, more) = (
  text ++ line,
  call_more s t u calls c text line made called,
  more ∙ ap (λ l. l ++ line) put
      ∙ append_assoc old text line,
)

-- a call that was made is printed behind those before it
pub printed_next : (s t u : PoolStanding) (calls : List PoolCall) (at : ℕ) (c : PoolCall) (old mid new : List ℕ)
    → at < length calls → get_or calls at c ≡ c → Printed s (take at calls) t old mid
    → PrintsCall true t c u mid new → Printed s (take (at + 1) calls) u old new
printed_next s t u calls at c old mid new lt here before now =
    let more : take (at + 1) calls ≡ take at calls ++ c ∷ [] =
    take_more calls at c lt ∙ ap (λ x. take at calls ++ x ∷ []) here in
    rw more (printed_more s t u (take at calls) c old mid new before now)

-- no lease is out
pub nothing_out : {L : Link.Ghosts MemoryLink} (pool : Pool MemoryLink L) (out : List Seat) → length out ≡ 0
    → AllBack (pool_standing pool out) (pool_standing pool [])
nothing_out pool [] none = none_out (lent_by pool) (idle_in memory_tape faults_of pool) (lefts_in to_come pool)
nothing_out pool (seat ∷ out) none = absurd (omega (arith, none))

-- ---- the same of a pool

abbrev pub idle : {L : Link.Ghosts MemoryLink} → Pool MemoryLink L → List View
idle pool = idle_in memory_tape faults_of pool

abbrev pub lefts : {L : Link.Ghosts MemoryLink} → Pool MemoryLink L → List (Option (List ℕ))
lefts pool = lefts_in to_come pool

-- a lease that was given back leaves room for those that are out
pub room_left : {L : Link.Ghosts MemoryLink} (before after : Pool MemoryLink L) (out rest : List Seat)
    → room_of after ≡ room_of before → length (idle after) ≤ length (idle before) + 1 → 0 < length out
    → rest ≡ take 0 out ++ drop (0 + 1) out → HasRoom before out → HasRoom after rest
room_left before after [] rest same most some left fits = absurd (omega (arith, some))
room_left before after (seat ∷ out) rest same most some left fits =
    let as_many : length rest ≡ length out = ap length left in
    omega (arith, same, most, as_many, fits)

pub back_of : {L : Link.Ghosts MemoryLink} (before after : Pool MemoryLink L) (out rest : List Seat)
    (at number : ℕ) (seat : Seat) (result : Returned) (old new : List ℕ)
    → lent_by after ≡ lent_by before
    → (at < length out) × ((s : Seat) → (seat_place (get_or out at s)).number ≡ number)
    → seat ≡ get_or out at seat → rest ≡ take at out ++ drop (at + 1) out
    → GivesForetold (left_of to_come seat.lease) (seen seat.lease) (idle before) (idle after) (lefts before)
    (lefts after) result
    → was_wanting result ≡ false → new ≡ old ++ returned_line result
    → PrintsCall true (pool_standing before out) (call.Back number) (pool_standing after rest) old new
back_of before after out rest at number seat result old new same found here left gives told put =
    let named : (seat_place seat).number ≡ number = ap (λ s. (seat_place s).number) here ∙ found.1 seat in
    rw same (back_at seat_place (lent_by before) (idle before) (idle after) (lefts before) (lefts after) out rest
    at number seat result old new found.0 here left named gives told put)

pub first_of_all : {L : Link.Ghosts MemoryLink} (before after : Pool MemoryLink L) (out rest : List Seat)
    (seat : Seat) (result : Returned)
    → lent_by after ≡ lent_by before → 0 < length out → seat ≡ get_or out 0 seat
    → rest ≡ take 0 out ++ drop (0 + 1) out
    → GivesForetold (left_of to_come seat.lease) (seen seat.lease) (idle before) (idle after)
    (lefts before) (lefts after) result
    → (last : PoolStanding) → AllBack (pool_standing after rest) last → AllBack (pool_standing before out) last
first_of_all before after out rest seat result same some here left gives last more =
    first_back seat_place (lent_by before) (idle before) (idle after) (lefts before) (lefts after) out rest seat
    result last some here left gives
    (subst (λ n. AllBack (standing_in_pool n (idle after) (lefts after) (map seat_place rest)) last) same
    more)
