-- A call, from where it stands to its end.
use Rattle.std.proofs.Common.{append_assoc, ◌≡◌, ◌⊎◌, ℕ, Bool, true, false, List, [], ◌∷◌, ◌++◌, map, fold, Result, Ok, Err, inl, inr, refl, sym, ap, subst}
use Rattle.pgw_types.specs.declared.error.PgWireError.{PgWireError}
use Rattle.pgw_backend.specs.Front.{BackendFront, front, More, Bad}
use Rattle.pgw_backend.specs.declared.backend.PgWireBackendMessage.{PgWireBackendMessage as Backend}
use Rattle.pgw_backend.specs.declared.backend.PgWireBackendMessage.TheVariants as backend
use Rattle.pgw_backend.specs.declared.client_error.PgWireClientError.{PgWireClientError as ClientError}
use Rattle.pgw_backend.specs.declared.client_error.PgWireClientError.TheVariants as client
use Rattle.pgw_frontend.specs.Frontend.{encodings}
use Rattle.pgw_query.specs.declared.response.ReadyForQuery.{ReadyForQuery}
use Rattle.pgw_session.specs.declared.types.Request.{Request}
use Rattle.pgw_session.specs.declared.types.Answer.{Answer}
use Rattle.pgw_session.specs.declared.types.Answer.TheVariants as answer
use Rattle.pgw_session.specs.declared.tally.Tally.{Tally}
use Rattle.pgw_session.specs.declared.stage.Kind.{Kind}
use Rattle.pgw_session.specs.declared.stage.Role.TheVariants.{Taken}
use Rattle.pgw_session.specs.Events.{Event, Got}
use Rattle.pgw_session.specs.Requests.{kind_of, passes_over, role, behind_error}
use Rattle.pgw_session.proofs.Grammar.{taken_more}
use Rattle.pgw_session.specs.Segments.{IsAnswer, IsQuiet, IsPassedOver, is_ready, is_other, sends}
use Rattle.pgw_session.specs.Answers.{tally_at, tally_after, answer_by}
use Rattle.pgw_handlers.specs.Client.{Client}
use Rattle.pgw_client_calls.specs.Talk.{Lack, Next, client_after, in_place_of, first_error_of, passes, Passing}
use Rattle.pgw_client_laws.specs.Turns.{standing_of_client, AreExchanged, Does, IsMisplaced, IsCutCall, IsOpenFor}
use Rattle.pgw_client_calls.specs.Line.{Reasons}
use Rattle.pgw_client_laws.proofs.Openings.{IsLinkEnd}
use Rattle.pgw_client_laws.proofs.Exchanges.{exchanged_none, got_one, got_last}

-- How the events go from where a call stands: by its answer, by the message that had no place, by the error at their
-- end, by the message that has no place next; whether such messages are passed over; and what was written where memory
-- was wanting.
pub record Shape : Type 1 where
  pub answered : Answer → List Event → Type 0
  pub passed : Backend → List Event → Type 0
  pub stops : ClientError → List Event → Type 0
  pub meets : Backend → List Event → Type 0
  pub passes : Bool
  pub starves : List ℕ → Type 0

abbrev pub CutOff : Shape → Client → List ℕ → List ℕ → ClientError → Client → List ℕ → BackendFront → Type 0
CutOff S c bytes sent e info rest next =
    Does (S.stops e) c bytes sent info rest × (front info.protocol_version rest ≡ next)

abbrev pub CameOn : {A : Type 0} → Shape → (A → Answer) → Client → List ℕ → List ℕ → Client → List ℕ
    → Result A ClientError → Type 0
CameOn S give c bytes sent info rest (Ok x) = Does (S.answered (give x)) c bytes sent info rest
CameOn S give c bytes sent info rest (Err (client.RemoteError e)) =
    Does (S.answered (answer.Remote e)) c bytes sent info rest
CameOn S give c bytes sent info rest (Err (client.UnexpectedMessage m)) = Does (S.passed m) c bytes sent info rest
CameOn S give c bytes sent info rest (Err e) = ⊥

abbrev pub Meets : Bool → Shape → Reasons → Client → List ℕ → List ℕ → Backend → Client → List ℕ → Type 0
Meets true S P c bytes sent m info rest =
    P.halts client.UnexpectedEOF × CutOff S c bytes sent (client.UnexpectedMessage m) info rest More
Meets false S P c bytes sent m info rest =
    (left : List ℕ) × Does (S.meets m) c bytes sent info left × Next info left m rest

abbrev pub Broke : {A : Type 0} → Shape → Reasons → Client → List ℕ → List ℕ → Client → List ℕ
    → Result A ClientError → Type 0
Broke S P c bytes sent info rest (Err client.OutOfMemory) = S.starves sent
Broke S P c bytes sent info rest (Err (client.PgWireError why)) =
    (e : ClientError) × CutOff S c bytes sent e info rest (Bad why)
Broke S P c bytes sent info rest (Err client.ReadLimit) =
    P.halts client.ReadLimit × (e : ClientError) × CutOff S c bytes sent e info rest More
Broke S P c bytes sent info rest (Err client.IoError) =
    (P.halts client.IoError × (e : ClientError) × CutOff S c bytes sent e info rest More)
    ⊎ ((lost : List ℕ) × P.unsent lost × (e : ClientError) × Does (S.stops e) c bytes (sent ++ lost) info
    rest)
Broke S P c bytes sent info rest (Err client.UnexpectedEOF) =
    P.halts client.UnexpectedEOF × CutOff S c bytes sent client.UnexpectedEOF info rest More
Broke S P c bytes sent info rest (Err (client.RemoteError e)) =
    P.halts client.UnexpectedEOF × CutOff S c bytes sent (client.RemoteError e) info rest More
Broke S P c bytes sent info rest (Err (client.UnexpectedMessage m)) = Meets S.passes S P c bytes sent m info rest
Broke S P c bytes sent info rest result = ⊥

abbrev pub Came : {A : Type 0} → Shape → (A → Answer) → Reasons → Client → List ℕ → List ℕ → Client → List ℕ
    → Result A ClientError → Bool → Type 0
Came S give P c bytes sent info rest result false = CameOn S give c bytes sent info rest result
Came S give P c bytes sent info rest result true = Broke S P c bytes sent info rest result

-- ---- events in front

-- what stands in front of the events, what was written for it, and what becomes of their shape
pub record Onto (S T : Shape) (c d : Client) (bytes more wrote : List ℕ) : Type 0 where
  pub before : List Event → List Event
  pub answered : (a : Answer) (es : List Event) → S.answered a es → T.answered a (before es)
  pub passed : (m : Backend) (es : List Event) → S.passed m es → T.passed m (before es)
  pub stops : (e : ClientError) (es : List Event) → S.stops e es → T.stops e (before es)
  pub meets : (m : Backend) (es : List Event) → S.meets m es → T.meets m (before es)
  pub passes : S.passes ≡ T.passes
  pub starves : (sent : List ℕ) → S.starves sent → T.starves (wrote ++ sent)
  pub exchanged : (sent : List ℕ) (es : List Event) (info : Client) (rest : List ℕ)
      → AreExchanged c.config (standing_of_client c) bytes sent es info rest
      → AreExchanged d.config (standing_of_client d) more (wrote ++ sent) (before es) info rest

module _ (S T : Shape) (c d : Client) (bytes more wrote sent : List ℕ) (info : Client) (rest : List ℕ)
    (o : Onto S T c d bytes more wrote) where
  cut_onto : (e : ClientError) (next : BackendFront) → CutOff S c bytes sent e info rest next
      → CutOff T d more (wrote ++ sent) e info rest next
  cut_onto e next x = let y = x.0 in ((o.before y.0, o.stops e y.0 y.1, o.exchanged sent y.0 info rest y.2), x.1)

  answered_onto : (a : Answer) → Does (S.answered a) c bytes sent info rest
      → Does (T.answered a) d more (wrote ++ sent) info rest
  answered_onto a y = (o.before y.0, o.answered a y.0 y.1, o.exchanged sent y.0 info rest y.2)

  on_onto : {A : Type 0} (give : A → Answer) (result : Result A ClientError)
      → CameOn S give c bytes sent info rest result → CameOn T give d more (wrote ++ sent) info rest result
  on_onto give (Ok x) y = answered_onto (give x) y
  on_onto give (Err (client.RemoteError e)) y = answered_onto (answer.Remote e) y
  on_onto give (Err (client.UnexpectedMessage m)) y =
      (o.before y.0, o.passed m y.0 y.1, o.exchanged sent y.0 info rest y.2)
  on_onto give (Err e) y = absurd y

  meets_onto : (P : Reasons) (m : Backend) (b : Bool) → Meets b S P c bytes sent m info rest
      → Meets b T P d more (wrote ++ sent) m info rest
  meets_onto P m true y = (y.0, cut_onto (client.UnexpectedMessage m) More y.1)
  meets_onto P m false y =
      let x = y.1 in (y.0, (o.before x.0, o.meets m x.0 x.1, o.exchanged sent x.0 info y.0 x.2), y.2)

  lost_onto : (lost : List ℕ) (e : ClientError) → Does (S.stops e) c bytes (sent ++ lost) info rest
      → Does (T.stops e) d more ((wrote ++ sent) ++ lost) info rest
  lost_onto lost e x = (
    o.before x.0,
    o.stops e x.0 x.1,
    subst
        (λ (w : List ℕ). AreExchanged d.config (standing_of_client d) more w (o.before x.0) info rest)
        (sym (append_assoc wrote sent lost)) (o.exchanged (sent ++ lost) x.0 info rest x.2),
  )

  broke_onto : {A : Type 0} (P : Reasons) (result : Result A ClientError)
      → Broke S P c bytes sent info rest result → Broke T P d more (wrote ++ sent) info rest result
  broke_onto P (Ok x) y = absurd y
  broke_onto P (Err client.OutOfMemory) y = o.starves sent y
  broke_onto P (Err (client.PgWireError why)) y = (y.0, cut_onto y.0 (Bad why) y.1)
  broke_onto P (Err client.ReadLimit) y = (y.0, y.1, cut_onto y.1 More y.2)
  broke_onto P (Err client.IoError) (inl y) = inl (y.0, y.1, cut_onto y.1 More y.2)
  broke_onto P (Err client.IoError) (inr y) = inr (y.0, y.1, y.2, lost_onto y.0 y.2 y.3)
  broke_onto P (Err client.UnexpectedEOF) y = (y.0, cut_onto client.UnexpectedEOF More y.1)
  broke_onto P (Err (client.RemoteError e)) y = (y.0, cut_onto (client.RemoteError e) More y.1)
  broke_onto P (Err (client.UnexpectedMessage m)) y =
      subst (λ (b : Bool). Meets b T P d more (wrote ++ sent) m info rest) o.passes (meets_onto P m S.passes y)
  broke_onto P (Err e) y = absurd y

  pub came_onto : {A : Type 0} (give : A → Answer) (P : Reasons) (result : Result A ClientError) (broken : Bool)
      → Came S give P c bytes sent info rest result broken
      → Came T give P d more (wrote ++ sent) info rest result broken
  came_onto give P result false y = on_onto give result y
  came_onto give P result true y = broke_onto P result y

-- ---- within a segment

-- within a request's segment, with what it gave so far
abbrev pub within : Request → Bool → Tally → Shape
within q rows t = record {
  answered = λ a es. IsAnswer (kind_of q) rows es × (answer_by q (fold tally_at t es) ≡ a);
  passed = λ m es. IsMisplaced (kind_of q) rows m es;
  stops = λ e es. IsCutCall (kind_of q) rows e es;
  meets = λ m es. IsOpenFor (kind_of q) rows m es;
  passes = passes_over (kind_of q);
  starves = λ sent. (sent ≡ []) ⊎ (encodings (sends (behind_error (kind_of q))) ≡ Ok sent);
}

misplaced_more : (k : Kind) (rows next : Bool) (m x : Backend) (es : List Event) → role k rows m ≡ Taken next
    → IsMisplaced k next x es → IsMisplaced k rows x (Got m ∷ es)
misplaced_more k rows next m x es is r =
    record {
      ms = m ∷ r.ms;
      behind = r.behind;
      rest = r.rest;
      are = ap (λ (l : List Event). Got m ∷ l) r.are;
      taken = (next, is, r.taken);
      misplaced = r.misplaced;
      passed = r.passed;
      passes = r.passes;
    }

front_more : (k : Kind) (rows next : Bool) (m : Backend) (e : ClientError) (es : List Event)
    → role k rows m ≡ Taken next → IsCutCall k next e es → IsCutCall k rows e (Got m ∷ es)
front_more k rows next m e es is r =
    record {
      ms = m ∷ r.ms;
      behind = r.behind;
      rest = r.rest;
      are = ap (λ (l : List Event). Got m ∷ l) r.are;
      taken = (next, is, r.taken);
      ends = r.ends;
    }

open_more : (k : Kind) (rows next : Bool) (m x : Backend) (es : List Event) → role k rows m ≡ Taken next
    → IsOpenFor k next x es → IsOpenFor k rows x (Got m ∷ es)
open_more k rows next m x es is r =
    record {
      ms = m ∷ r.ms;
      behind = r.behind;
      are = ap (λ (l : List Event). Got m ∷ l) r.are;
      taken =
          (next, is, r.taken);
      misplaced = r.misplaced;
    }

-- a message that is taken
pub taken_onto : (q : Request) (rows next : Bool) (t : Tally) (c d : Client) (m : Backend) (bytes left : List ℕ)
    → role (kind_of q) rows m ≡ Taken next → Next c bytes m left → d ≡ client_after m c
    → Onto (within q next (tally_after t m)) (within q rows t) d c left bytes []
taken_onto q rows next t c d m bytes left is whole behind = record {
  before = λ es. Got m ∷ es;
  answered = λ a es x. (taken_more (kind_of q) rows next m es is x.0, x.1);
  passed = λ x es y. misplaced_more (kind_of q) rows next m x es is y;
  stops = λ e es y. front_more (kind_of q) rows next m e es is y;
  meets = λ x es y. open_more (kind_of q) rows next m x es is y;
  passes = refl;
  starves = λ sent x. x;
  exchanged = λ sent es info rest x. got_one c d m bytes left sent es info rest whole behind x;
}

-- ---- where no message comes

abbrev pub Lacking : Reasons → Client → List ℕ → ClientError → Type 0
Lacking P info rest y =
    ((why : PgWireError) × (y ≡ client.PgWireError why) × (front info.protocol_version rest ≡ Bad why))
    ⊎ (P.halts y × (front info.protocol_version rest ≡ More))

pub lacking : (P : Reasons) (c : Client) (bytes rest : List ℕ) (y : ClientError) → Lack P c bytes rest y
    → (y ≡ client.OutOfMemory) ⊎ (Lacking P c rest y × (rest ≡ bytes))
lacking P c bytes _ _ (Lack.unread why bad) = inr (inl (why, refl, bad), refl)
lacking P c bytes _ _ (Lack.halts e more p) = inr (inr (p, more), refl)
lacking P c bytes _ _ (Lack.starves rest) = inl refl

pub in_place_of_none : (e : ClientError) → in_place_of client.UnexpectedEOF e ≡ e
in_place_of_none client.UnexpectedEOF = refl
in_place_of_none e = refl

-- the error of a call's own where no more bytes come
abbrev pub IsOpenEnd : Shape → ClientError → Type 0
IsOpenEnd S client.UnexpectedEOF = Unit {0}
IsOpenEnd S (client.RemoteError e) = Unit {0}
IsOpenEnd S (client.UnexpectedMessage m) = S.passes ≡ true
IsOpenEnd S e = ⊥

module _ (A : Type 0) (S : Shape) (P : Reasons) (ends : (x : ClientError) → P.halts x → IsLinkEnd x) (c : Client)
    (bytes sent : List ℕ) (info : Client) (rest : List ℕ) where
  halted : (e y : ClientError) → IsOpenEnd S e → P.halts y → IsLinkEnd y → CutOff S c bytes sent e info rest More
      → Broke {A = A} S P c bytes sent info rest (Err (in_place_of e y))
  halted client.UnexpectedEOF client.UnexpectedEOF is p l x = (p, x)
  halted (client.RemoteError e) client.UnexpectedEOF is p l x = (p, x)
  halted (client.UnexpectedMessage m) client.UnexpectedEOF is p l x =
      subst (λ (b : Bool). Meets b S P c bytes sent m info rest) (sym is) (p, x)
  halted e client.UnexpectedEOF is p l x = absurd is
  halted e client.ReadLimit is p l x = (p, e, x)
  halted e client.IoError is p l x = inl (p, e, x)
  halted e y is p l x = absurd l

  pub lacked : (e y : ClientError) → IsOpenEnd S e → Lacking P info rest y
      → Does (S.stops e) c bytes sent info rest → Broke {A = A} S P c bytes sent info rest (Err (in_place_of e y))
  lacked e y is (inl bad) x =
      subst (λ (z : ClientError). Broke {A = A} S P c bytes sent info rest (Err (in_place_of e z))) (sym bad.1)
      (e, (x, bad.2))
  lacked e y is (inr more) x = halted e y is more.0 (ends y more.0) (x, more.1)

-- ---- messages passed over

abbrev pub AreQuiet : List Event → Type 0
AreQuiet es = (ms : List Backend) × (es ≡ map Got ms) × IsQuiet ms

-- the error behind the messages that are passed over
abbrev pub kept : ClientError → List Backend → ClientError
kept e [] = e
kept e (m ∷ ms) = kept (first_error_of e m) ms

abbrev pub PassingTo : Reasons → ClientError → Client → List ℕ → ClientError → Client → List ℕ → Bool → Type 0
PassingTo P e c bytes x last left false = (q : Does IsPassedOver c bytes [] last left) × (x ≡ kept e (q.1).ms)
PassingTo P e c bytes x last left true =
    (x ≡ client.OutOfMemory)
    ⊎ ((q : Does AreQuiet c bytes [] last left) × (y : ClientError) × (x ≡ in_place_of (kept e (q.1).0) y) ×
    Lacking P last left y)

pub kept_stays : (e : ClientError) (ms : List Backend) → passes e ≡ true → kept e ms ≡ e
kept_stays e [] is = refl
kept_stays (client.RemoteError x) (m ∷ ms) is = kept_stays (client.RemoteError x) ms is
kept_stays (client.UnexpectedMessage x) (m ∷ ms) is = kept_stays (client.UnexpectedMessage x) ms is
kept_stays e (m ∷ ms) is = cc

pub ready_is : (m : Backend) → is_ready m ≡ true → (ready : ReadyForQuery) × (m ≡ backend.ReadyForQuery ready)
ready_is (backend.ReadyForQuery ready) is = (ready, refl)
ready_is m is = cc

pub other_is : (m : Backend) → is_ready m ≡ false → is_other m ≡ true
other_is (backend.ReadyForQuery ready) is = cc
other_is m is = refl

quiet_more : (m : Backend) (es : List Event) → is_ready m ≡ false → AreQuiet es → AreQuiet (Got m ∷ es)
quiet_more m es is q = (m ∷ q.0, ap (λ (l : List Event). Got m ∷ l) q.1, (other_is m is, q.2))

passed_more : (m : Backend) (es : List Event) → is_ready m ≡ false → IsPassedOver es → IsPassedOver (Got m ∷ es)
passed_more m es is q =
    record {
      ms = m ∷ q.ms;
      ready = q.ready;
      are = ap (λ (l : List Event). Got m ∷ l) q.are;
      all =
          (other_is m is, q.all);
    }

passed_last : (m : Backend) → is_ready m ≡ true → IsPassedOver (Got m ∷ [])
passed_last m is =
    let r = ready_is m is in record { ms = []; ready = r.0; are = ap (λ (x : Backend). Got x ∷ []) r.1; all = tt }

does_more : (p r : List Event → Type 0) (c : Client) (m : Backend) (bytes rest sent : List ℕ) (info : Client)
    (left : List ℕ)
    → Next c bytes m rest → ((es : List Event) → p es → r (Got m ∷ es)) →
    Does p (client_after m c) rest sent info left → Does r c bytes sent info left
does_more p r c m bytes rest sent info left next f y =
    (Got m ∷ y.0, f y.0 y.1, got_one c (client_after m c) m bytes rest sent y.0 info left next refl y.2)

goes_to : (P : Reasons) (e : ClientError) (c : Client) (m : Backend) (bytes rest : List ℕ) (x : ClientError)
    (last : Client) (left : List ℕ) (broken : Bool)
    → Next c bytes m rest → is_ready m ≡ false →
    PassingTo P (first_error_of e m) (client_after m c) rest x last left broken
    → PassingTo P e c bytes x last left broken
unfolding does_more passed_more quiet_more
goes_to P e c m bytes rest x last left false next is y = (
  does_more IsPassedOver IsPassedOver c m bytes rest [] last left next (λ es q. passed_more m es is q) y.0,
  y.1,
)
goes_to P e c m bytes rest x last left true next is (inl y) = inl y
goes_to P e c m bytes rest x last left true next is (inr y) =
    inr (
      does_more AreQuiet AreQuiet c m bytes rest [] last left next (λ es q. quiet_more m es is q) y.0,
      y.1,
      y.2,
      y.3,
    )

lacks_to : (P : Reasons) (e : ClientError) (c : Client) (bytes rest : List ℕ) (y : ClientError)
    → (y ≡ client.OutOfMemory) ⊎ (Lacking P c rest y × (rest ≡ bytes))
    → PassingTo P e c bytes (in_place_of e y) c rest true
lacks_to P e c bytes rest y (inl starved) = inl (ap (in_place_of e) starved)
lacks_to P e c bytes rest y (inr l) =
    inr (
      (
        [],
        ([], refl, tt),
        subst (λ (b : List ℕ). AreExchanged c.config (standing_of_client c) b [] [] c rest)
            l.1 (exchanged_none c.config (standing_of_client c) rest),
      ),
      y,
      refl,
      l.0,
    )

pub passing_to : (P : Reasons) (e : ClientError) (c : Client) (bytes : List ℕ) (x : ClientError) (last : Client)
    (left : List ℕ) (broken : Bool)
    → Passing P e c bytes x last left broken → PassingTo P e c bytes x last left broken
unfolding passed_last
passing_to P _ _ _ _ _ _ _ (Passing.lacks e c bytes rest y l) =
    lacks_to P e c bytes rest y (lacking P c bytes rest y l)
passing_to P _ _ _ _ _ _ _ (Passing.closes e c bytes m rest next is) =
    ((Got m ∷ [], passed_last m is, got_last c m bytes rest next), refl)
passing_to P _ _ _ _ _ _ _ (Passing.goes e c bytes m rest x last left broken next is d) =
    goes_to P e c m bytes rest x last left broken next is
    (passing_to P (first_error_of e m) (client_after m c) rest x last left broken d)
passing_to P _ _ _ _ _ _ _ (Passing.starves e c bytes rest) = inl refl
