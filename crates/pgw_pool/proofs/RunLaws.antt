-- A request in a lease.
use Rattle.std.proofs.Common.{◌≡◌, ℕ, Bool, true, false, List, [], ◌∷◌, ◌++◌, Result, Ok, Err, refl, sym, subst, append_assoc}
use Rattle.pgw_backend.specs.declared.client_error.PgWireClientError.{PgWireClientError as ClientError}
use Rattle.pgw_backend.specs.declared.client_error.PgWireClientError.TheVariants as client
use Rattle.pgw_session.specs.declared.types.Request.{Request}
use Rattle.pgw_session.specs.declared.types.Answer.{Answer}
use Rattle.pgw_session.specs.Events.{Event}
use Rattle.pgw_handlers.specs.Client.{Client}
use Rattle.pgw_client_calls.specs.Line.{Line, MovesLine, IsFlushed, Pause}
use Rattle.pgw_client_laws.specs.Turns.{IsAnswered}
use Rattle.pgw_client_laws.specs.Calls.{BreaksClient}
use Rattle.pgw_client_laws.specs.Stands.{Made, made_call, StandsForCalls, OneMore, BrokenBehind, StandsBehind}
use Rattle.pgw_client_ask.specs.Asking.{same, IsReason, FailsToAsk, failed, wants, Asks}
use Rattle.pgw_pool.specs.Histories.{Lent, History, with_request, made_over, View, StandsBy, IsLent}
use Rattle.pgw_pool.specs.Lending.{MakesOne, IsStarvedIn, IsCutLease, LeaseRan}
use Rattle.pgw_pool.proofs.HistoryLaws.{over_link}

module _ (h : History) (l : Lent) (q : Request) (old now : View) (lease : IsLent h l old) where
  -- one request more
  makes_one : (property : List Event → Type 0) (taken sent : List ℕ) → MovesLine old.line now.line taken sent
      → now.broken ≡ false → IsFlushed now.line
      → OneMore h.config h.nonce (made_over h.over ++ l.made) q property (old.line.tape.took ++ taken)
      (old.line.tape.wrote ++ sent) now.client now.line.buffer
      → MakesOne h l q property now
  makes_one property taken sent moved usable flushed one =
      let es = one.0 in
      let stands =
      over_link (λ (read wrote : List ℕ). StandsForCalls h.config h.nonce
      ((made_over h.over ++ l.made) ++ made_call q es ∷ []) read wrote now.client now.line.buffer)
      old.line now.line taken sent moved one.2 in
      let is : IsLent h (with_request l q es) now = record {
        stands =
            subst (λ (ts : List Made). StandsBy h ts now)
            (append_assoc (made_over h.over) l.made (made_call q es ∷ [])) stands;
        resets = lease.resets;
        last = lease.last;
        ascend = lease.ascend;
        above = lease.above;
        usable = usable;
        flushed = flushed;
      } in
      (es, one.1, is)

  -- no request more
  makes_none : now.broken ≡ false → IsFlushed now.line → StandsBy h (made_over h.over ++ l.made) now
      → IsLent h l now
  makes_none usable flushed stands = record {
    stands = stands;
    resets = lease.resets;
    last = lease.last;
    ascend = lease.ascend;
    above = lease.above;
    usable = usable;
    flushed = flushed;
  }

  -- nothing was done
  unchanged : now.client ≡ old.client → now.line ≡ old.line → now.broken ≡ false → IsLent h l now
  unchanged client line usable =
      makes_none usable (subst IsFlushed (sym line) lease.flushed)
      (subst (λ (c : Client). StandsForCalls h.config h.nonce (made_over h.over ++ l.made) now.line.tape.took
      now.line.tape.wrote c now.line.buffer) (sym client)
      (subst (λ (x : Line). StandsForCalls h.config h.nonce (made_over h.over ++ l.made) x.tape.took x.tape.wrote
      old.client x.buffer) (sym line) lease.stands))

  -- memory was wanting
  starves : (A : Type 0) (e : ClientError) (taken sent : List ℕ) → MovesLine old.line now.line taken sent
      → BreaksClient {A = A} (Pause old.line now.line) q old.client (old.line.buffer ++ taken) sent now.client
      now.line.buffer (Err e)
      → e ≡ client.OutOfMemory → IsStarvedIn h (made_over h.over ++ l.made) q now
  starves A e taken sent moved breaks is = record {
    read = old.line.tape.took;
    wrote = old.line.tape.wrote;
    client = old.client;
    buffer = old.line.buffer;
    stands = lease.stands;
    taken = taken;
    sent = sent;
    took = moved.took;
    put = moved.wrote;
    starved =
        subst (λ (x : ClientError). BreaksClient {A = A} (Pause old.line now.line) q old.client
        (old.line.buffer ++ taken) sent now.client now.line.buffer (Err x)) is breaks;
  }

  -- an error left the session unusable
  pub cuts : (A : Type 0) (e : ClientError) (taken sent : List ℕ) → MovesLine old.line now.line taken sent
      → now.broken ≡ true
      → BrokenBehind h.config h.nonce (made_over h.over ++ l.made) q (old.line.tape.took ++ taken)
      (old.line.tape.wrote ++ sent) now.client now.line.buffer e
      → (more put : List ℕ) → MovesLine old.line now.line more put
      → BreaksClient {A = A} (Pause old.line now.line) q old.client (old.line.buffer ++ more) put now.client
      now.line.buffer (Err e)
      → IsCutLease h l q e now
  cuts A e taken sent moved broken behind more put went breaks = record {
    stands =
        over_link (λ (read wrote : List ℕ). BrokenBehind h.config h.nonce (made_over h.over ++ l.made) q read
        wrote now.client now.line.buffer e) old.line now.line taken sent moved behind;
    wants = starves A e more put went breaks;
    broken = broken;
    resets = lease.resets;
  }

  ran_error : (e : ClientError) (broken : Bool) → now.broken ≡ broken
      → IsReason q old.client old.line now.client now.line broken e → (taken sent : List ℕ)
      → MovesLine old.line now.line taken sent → (broken ≡ false → IsFlushed now.line)
      → StandsBehind same h.config h.nonce (made_over h.over ++ l.made) q (old.line.tape.took ++ taken)
      (old.line.tape.wrote ++ sent) now.client now.line.buffer (Err e) broken
      → LeaseRan h l q now broken (Err e)
  ran_error e true is r taken sent moved flushed behind =
      cuts Answer e taken sent moved is behind r.taken r.sent r.moved r.comes
  ran_error (client.RemoteError e) false is r taken sent moved flushed behind =
      absurd (let none = r.no_answer in cc)
  ran_error (client.UnexpectedMessage m) false is r taken sent moved flushed behind =
      makes_one _ taken sent moved is (flushed refl) behind
  ran_error (client.PgWireError why) false is r taken sent moved flushed behind =
      makes_none is (flushed refl)
      (over_link (λ (read wrote : List ℕ). StandsForCalls h.config h.nonce (made_over h.over ++ l.made) read
      wrote now.client now.line.buffer) old.line now.line taken sent moved behind)
  ran_error e false is r taken sent moved flushed behind = absurd behind

  ran_failed : (e : ClientError) (broken : Bool) → now.broken ≡ broken
      → FailsToAsk q old.client old.line now.client now.line broken e → LeaseRan h l q now broken (Err e)
  ran_failed e broken is (failed x f) =
      let s =
      f.stands h.config h.nonce (made_over h.over ++ l.made) old.line.tape.took old.line.tape.wrote
      lease.stands in
      ran_error x broken is f.reason s.0 s.1 s.2 s.3 s.4
  ran_failed e true is (wants name there client line usable) = absurd (cc)
  ran_failed e false is (wants name there client line usable) = unchanged client line is

  pub ran : (result : Result Answer ClientError) (broken : Bool) → now.broken ≡ broken
      → Asks q old.client old.line now.client now.line broken result → LeaseRan h l q now broken result
  ran (Ok a) true is asks = absurd (let never = asks.1 in cc)
  ran (Ok a) false is asks =
      let s =
      asks.0 h.config h.nonce (made_over h.over ++ l.made) old.line.tape.took old.line.tape.wrote lease.stands
      in
      makes_one (IsAnswered q a) s.taken s.sent s.moved is s.flushed s.stands
  ran (Err e) broken is asks = ran_failed e broken is asks
