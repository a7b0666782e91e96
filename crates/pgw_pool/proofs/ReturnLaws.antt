-- A session that is given back.
use Rattle.std.proofs.Common.{◌≡◌, ◌≤◌, ℕ, Bool, true, false, List, [], ◌∷◌, ◌++◌, Option, Result, Ok, Err, refl, sym, ap, ◌∙◌, subst, append_assoc, arith}
use Rattle.pgw_query.specs.declared.response.TransactionStatus.{TransactionStatus}
use Rattle.pgw_query.specs.declared.response.TransactionStatus.TheVariants.{Idle, Transaction, Error}
use Rattle.pgw_backend.specs.declared.client_error.PgWireClientError.{PgWireClientError as ClientError}
use Rattle.pgw_backend.specs.declared.client_error.PgWireClientError.TheVariants as client
use Rattle.pgw_session.specs.declared.types.Response.{Response}
use Rattle.pgw_session.specs.declared.types.Answer.TheVariants as answer
use Rattle.pgw_session.specs.Events.{Event}
use Rattle.pgw_types.specs.declared.error.PgWireError.{PgWireError}
use Rattle.pgw_wire.specs.Framing.{encoded}
use Rattle.pgw_wire.specs.Writing.{refused_if, text}
use Rattle.pgw_frontend.specs.Frontend.{encoding, encodings}
use Rattle.pgw_session.specs.declared.types.Request.{Request}
use Rattle.pgw_session.specs.Requests.{sends_of}
use Rattle.pgw_handlers.specs.Client.{Client}
use Rattle.pgw_client_calls.specs.Line.{MovesLine, Pause, IsFlushed, Foretold}
use Rattle.pgw_client_laws.specs.Turns.{IsAnswered, IsPassedSegment}
use Rattle.pgw_client_laws.specs.Calls.{IsRefusedCall, Comes}
use Rattle.pgw_client_laws.specs.Stands.{Made, made_call, StandsForCalls, OneMore, StandsBehind}
use Rattle.pgw_pool.specs.declared.returned.Returned.{Returned}
use Rattle.pgw_pool.specs.declared.returned.Returned.TheVariants.{Kept, Dropped}
use Rattle.pgw_pool.specs.declared.returned.DropCause.{DropCause}
use Rattle.pgw_pool.specs.declared.returned.DropCause.TheVariants as cause
use Rattle.pgw_pool.specs.Histories.{Lent, History, reset, check, with_lease, made_over, IsResetIn, View, StandsBy, AreIdle, IsLent}
use Rattle.pgw_pool.specs.Returning.{cause_of, kept_by, returned_by, IsAsked, idle_behind, lefts_behind, GivesBack, GivesForetold, LeaseEndsBy, FailsBy, IsFailed, IsDropped, GivenBack, DropsFrom}
use Rattle.pgw_pool.proofs.HistoryLaws.{simple_ends, status_known, idle_more, lease_ends, over_link}
use Rattle.pgw_pool.proofs.RunLaws.{cuts}

-- the reset and the check have an encoding
abbrev pub HasEncoding : Result (List ℕ) PgWireError → Type 0
HasEncoding (Ok bytes) = Unit {0}
HasEncoding (Err why) = ⊥

reset_encoded : HasEncoding (encodings (sends_of reset))
unfolding encoding encoded text refused_if
reset_encoded = tt

pub check_encoded : HasEncoding (encodings (sends_of check))
unfolding encoding encoded text refused_if
check_encoded = tt

never_refused : (q : Request) → HasEncoding (encodings (sends_of q))
    → (c : Client) (bytes sent : List ℕ) (why : PgWireError) (info : Client) (rest : List ℕ)
    → IsRefusedCall q c bytes sent why info rest → ⊥
never_refused q encoded c bytes sent why info rest is = subst HasEncoding is.0 encoded

-- what becomes of a session by its answer
pub is_returned : (old last : View) (a : Result (List Response) ClientError) (status : TransactionStatus)
    (broken : Bool) (result : Returned)
    → IsAsked old last a → status ≡ last.client.transaction_status → broken ≡ last.broken
    → result ≡ returned_by a status broken
    → (x : Result (List Response) ClientError) × IsAsked old last x
    × (result ≡ returned_by x last.client.transaction_status last.broken)
is_returned old last a status broken result asked told known is = (
  a,
  asked,
  is ∙ ap (λ (s : TransactionStatus). returned_by a s broken) told
      ∙ ap (λ (b : Bool). returned_by a last.client.transaction_status b) known,
)

module _ (q : Request) (encoded : HasEncoding (encodings (sends_of q))) (h : History) (l : Lent) (old last : View)
    (lease : IsLent h l old) where
  -- over the link
  pub stands_more : (es : List Event) (taken sent : List ℕ) → MovesLine old.line last.line taken sent
      → StandsForCalls h.config h.nonce ((made_over h.over ++ l.made) ++ made_call q es ∷ [])
      (old.line.tape.took ++ taken) (old.line.tape.wrote ++ sent) last.client last.line.buffer
      → StandsBy h ((made_over h.over ++ l.made) ++ made_call q es ∷ []) last
  stands_more es taken sent moved stands =
      over_link (λ (read wrote : List ℕ). StandsForCalls h.config h.nonce
      ((made_over h.over ++ l.made) ++ made_call q es ∷ []) read wrote last.client last.line.buffer) old.line
      last.line taken sent moved stands

  pub ends_by : (property : List Event → Type 0) (taken sent : List ℕ) → MovesLine old.line last.line taken sent
      → OneMore h.config h.nonce (made_over h.over ++ l.made) q property (old.line.tape.took ++ taken)
      (old.line.tape.wrote ++ sent) last.client last.line.buffer
      → LeaseEndsBy q h l property last
  ends_by property taken sent moved one = (
    one.0,
    one.1,
    subst (λ (ts : List Made). StandsBy h ts last)
        (append_assoc (made_over h.over) l.made (made_call q one.0 ∷ []))
        (stands_more one.0 taken sent moved one.2),
  )

  abbrev pub Came : Result (List Response) ClientError → Bool → Type 0
  Came a broken = (more put : List ℕ) × MovesLine old.line last.line more put
      × Comes answer.Responses (Pause old.line last.line) q old.client (old.line.buffer ++ more) put last.client
      last.line.buffer a broken

  -- by the error of the query
  pub fails_by : (e : ClientError) (broken : Bool) → last.broken ≡ broken → (taken sent : List ℕ)
      → MovesLine old.line last.line taken sent
      → StandsBehind answer.Responses h.config h.nonce (made_over h.over ++ l.made) q
      (old.line.tape.took ++ taken) (old.line.tape.wrote ++ sent) last.client last.line.buffer (Err e) broken
      → Came (Err e) broken → IsFailed q h l (cause_of e broken) last
  fails_by client.OutOfMemory true is taken sent moved behind came =
      cuts h l q old last lease (List Response) client.OutOfMemory taken sent moved is behind came.0 came.1 came.2
      came.3
  fails_by client.OutOfMemory false is taken sent moved behind came = absurd behind
  fails_by (client.RemoteError e) false is taken sent moved behind came =
      ends_by (IsAnswered q (answer.Remote e)) taken sent moved behind
  fails_by (client.UnexpectedMessage m) false is taken sent moved behind came =
      subst (λ (b : Bool). FailsBy q h l last b (client.UnexpectedMessage m)) (sym is)
      (ends_by (IsPassedSegment q m) taken sent moved behind)
  fails_by (client.PgWireError why) false is taken sent moved behind came =
      absurd (never_refused q encoded old.client (old.line.buffer ++ came.0) came.1 why last.client
      last.line.buffer came.3)
  fails_by e true is taken sent moved behind came =
      subst (λ (b : Bool). FailsBy q h l last b e) (sym is)
      (cuts h l q old last lease (List Response) e taken sent moved is behind came.0 came.1 came.2 came.3)
  fails_by e false is taken sent moved behind came = absurd behind

-- an error of the reset is why a session is dropped
failed_drops : (h : History) (l : Lent) (why : DropCause) (v : View) → IsFailed reset h l why v
    → IsDropped h l why v
failed_drops h l (cause.Status status) v is = absurd is
failed_drops h l (cause.Refused e) v is = is
failed_drops h l (cause.Failed e) v is = is
failed_drops h l cause.OutOfMemory v is = is

module _ (lent : ℕ) (hs : List History) (h : History) (l : Lent) (old : View) (idle : List View)
    (are : AreIdle lent hs idle) (lease : IsLent h l old) (own : l.number ≤ lent) (last : View) where
  -- by the responses of the reset, and the status behind it
  reset_in : (rs : List Response) (taken sent : List ℕ) → MovesLine old.line last.line taken sent
      → OneMore h.config h.nonce (made_over h.over ++ l.made) reset (IsAnswered reset (answer.Responses rs))
      (old.line.tape.took ++ taken) (old.line.tape.wrote ++ sent) last.client last.line.buffer
      → OneMore h.config h.nonce (made_over h.over ++ l.made) reset (IsResetIn last.client.transaction_status)
      (old.line.tape.took ++ taken) (old.line.tape.wrote ++ sent) last.client last.line.buffer
  reset_in rs taken sent moved one =
      let es = one.0 in
      let r = simple_ends _ es (one.1).0 in
      let told =
      status_known h (made_over h.over ++ l.made) reset es r.0 r.1 last
      (stands_more reset reset_encoded h l old last lease es taken sent moved one.2) r.2 in
      (es, (rs, one.1, (r.0, r.1, r.2, sym told)), one.2)

  -- what becomes of it: idle behind the others, or dropped for this cause
  abbrev Becomes : Returned → Type 0
  Becomes Kept = (es : List Event) × AreIdle lent (hs ++ with_lease h l es ∷ []) (idle ++ last ∷ [])
  Becomes (Dropped why) = IsDropped h l why last

  kept_idle : (taken sent : List ℕ) → MovesLine old.line last.line taken sent → last.broken ≡ false
      → IsFlushed last.line
      → OneMore h.config h.nonce (made_over h.over ++ l.made) reset (IsResetIn Idle) (old.line.tape.took ++ taken)
      (old.line.tape.wrote ++ sent) last.client last.line.buffer
      → Becomes Kept
  kept_idle taken sent moved usable flushed one =
      let es = one.0 in (
        es,
        idle_more lent hs (with_lease h l es) idle last are
            (lease_ends lent h l es old last lease own
            (stands_more reset reset_encoded h l old last lease es taken sent moved one.2) one.1 usable
            flushed),
      )

  by_status : (status : TransactionStatus) (taken sent : List ℕ) → MovesLine old.line last.line taken sent
      → last.broken ≡ false → IsFlushed last.line
      → OneMore h.config h.nonce (made_over h.over ++ l.made) reset (IsResetIn status)
      (old.line.tape.took ++ taken) (old.line.tape.wrote ++ sent) last.client last.line.buffer
      → Becomes (kept_by status)
  by_status Idle taken sent moved usable flushed one = kept_idle taken sent moved usable flushed one
  by_status Transaction taken sent moved usable flushed one =
      (ends_by reset reset_encoded h l old last lease (IsResetIn Transaction) taken sent moved one, λ same. cc)
  by_status Error taken sent moved usable flushed one =
      (ends_by reset reset_encoded h l old last lease (IsResetIn Error) taken sent moved one, λ same. cc)

  by_answer : (a : Result (List Response) ClientError) (broken : Bool) → last.broken ≡ broken
      → (taken sent : List ℕ) → MovesLine old.line last.line taken sent → (broken ≡ false → IsFlushed last.line)
      → StandsBehind answer.Responses h.config h.nonce (made_over h.over ++ l.made) reset
      (old.line.tape.took ++ taken) (old.line.tape.wrote ++ sent) last.client last.line.buffer a broken
      → Came reset reset_encoded h l old last lease a broken
      → Becomes (returned_by a last.client.transaction_status broken)
  by_answer (Ok rs) true is taken sent moved flushed behind came = absurd behind
  by_answer (Ok rs) false is taken sent moved flushed behind came =
      by_status last.client.transaction_status taken sent moved is (flushed refl)
      (reset_in rs taken sent moved behind)
  by_answer (Err e) broken is taken sent moved flushed behind came =
      failed_drops h l (cause_of e broken) last
      (fails_by reset reset_encoded h l old last lease e broken is taken sent moved behind came)

  becomes : (a : Result (List Response) ClientError) (result : Returned) → IsAsked old last a
      → result ≡ returned_by a last.client.transaction_status last.broken → Becomes result
  becomes a result asked is =
      let s =
      asked.stands lease.usable h.config h.nonce (made_over h.over ++ l.made) old.line.tape.took
      old.line.tape.wrote lease.stands in
      subst Becomes (sym is) (by_answer a last.broken refl s.0 s.1 s.2 s.3 s.4 (asked.comes lease.usable))

  -- the idle sessions, and those that are dropped
  given_as : (result : Returned) → Becomes result → GivenBack lent hs h l (idle_behind idle last result) result
  given_as Kept b = b
  given_as (Dropped why) b = (are, (last, b))

  dropped_as : (result : Returned) → Becomes result → (taken sent : List ℕ)
      → MovesLine old.line last.line taken sent → DropsFrom h l old result
  dropped_as Kept b taken sent moved = tt
  dropped_as (Dropped why) b taken sent moved = (last, b, (taken, sent, moved))

pub given_back : (lent : ℕ) (hs : List History) (h : History) (l : Lent) (old : View) (idle now : List View)
    (result : Returned)
    → GivesBack old idle now result → AreIdle lent hs idle → IsLent h l old → l.number ≤ lent
    → GivenBack lent hs h l now result
given_back lent hs h l old idle now result gives are lease own =
    let last = gives.0 in
    subst (λ (vs : List View). GivenBack lent hs h l vs result) (sym gives.4)
    (given_as lent hs h l old idle are lease own last result
    (becomes lent hs h l old idle are lease own last gives.1 result gives.2 gives.3))

pub drops_from : (h : History) (l : Lent) (old : View) (idle now : List View) (result : Returned)
    → GivesBack old idle now result → IsLent h l old → DropsFrom h l old result
drops_from h l old idle now result gives lease =
    let last = gives.0 in
    let came = gives.2.comes lease.usable in
    dropped_as l.number [] h l old [] tt lease (omega arith) last result
    (becomes l.number [] h l old [] tt lease (omega arith) last gives.1 result gives.2 gives.3) came.0 came.1
    came.2

-- of a link that knows what is to come
pub gives_foretold : (was is : Option (List ℕ)) (old last : View) (idle now : List View)
    (lefts left_now : List (Option (List ℕ))) (result : Returned)
    → (a : Result (List Response) ClientError) → IsAsked old last a
    → result ≡ returned_by a last.client.transaction_status last.broken
    → Foretold was is old.line.tape last.line.tape → now ≡ idle_behind idle last result
    → left_now ≡ lefts_behind lefts is result
    → GivesForetold was old idle now lefts left_now result
gives_foretold was is old last idle now lefts left_now result a asked by foretold idle_now lefts_now = record {
  last = last;
  is = is;
  answer = a;
  asked = asked;
  foretold = foretold;
  by = by;
  idle_now = idle_now;
  lefts_now = lefts_now;
}
