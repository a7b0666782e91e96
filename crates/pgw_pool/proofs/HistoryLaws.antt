-- Histories that grow by a lease.
use Rattle.std.proofs.Common.{◌≡◌, ◌<◌, ◌≤◌, ℕ, ◌+◌, Bool, true, false, List, [], ◌∷◌, ◌++◌, map, fold, arith, refl, sym, ◌∙◌, ap, subst, append_assoc}
use Rattle.std.proofs.lemmas.List.{append-nil, map-append}
use Rattle.std.proofs.lemmas.List.Sums.{fold-append}
use Rattle.pgw_query.specs.declared.response.ReadyForQuery.{ReadyForQuery}
use Rattle.pgw_query.specs.declared.response.TransactionStatus.{TransactionStatus}
use Rattle.pgw_query.specs.declared.response.TransactionStatus.TheVariants.{Idle}
use Rattle.pgw_backend.specs.declared.backend.PgWireBackendMessage.{PgWireBackendMessage as Backend}
use Rattle.pgw_backend.specs.declared.backend.PgWireBackendMessage.TheVariants as backend
use Rattle.pgw_config.specs.declared.config.Config.{Config}
use Rattle.pgw_session.specs.declared.types.Request.{Request}
use Rattle.pgw_session.specs.declared.types.Request.TheVariants as request
use Rattle.pgw_session.specs.declared.stage.Kind.TheVariants as kind
use Rattle.pgw_session.specs.declared.standing.Standing.{Standing}
use Rattle.pgw_session.specs.Events.{Event, Sent, Got}
use Rattle.pgw_session.specs.Standings.{first_standing, standing_at}
use Rattle.pgw_session.specs.Requests.{role, sends_of}
use Rattle.pgw_session.specs.Segments.{IsEnd, IsRequestSegment}
use Rattle.pgw_handlers.specs.Client.{Client}
use Rattle.pgw_client_calls.specs.Line.{Line, MovesLine, IsFlushed}
use Rattle.pgw_client_laws.specs.Turns.{knowing}
use Rattle.pgw_client_laws.specs.Stands.{Made, made_call, events_of}
use Rattle.pgw_pool.specs.Histories.{Lent, Over, ended, checked, History, lent_as, with_lease, reset, made_in, made_over, IsOver, EndsInStatus, IsReset, AreReset, BeginsIdle, LeasesAscend, View, StandsBy, IsIdleInPool, AreIdle, IsLent}
use Rattle.pgw_pool.specs.Lending.{LendsFirst}

-- ---- lists

pub mapped_behind : {A B : Type 0} (f : A → B) (xs now : List A) (x : A) → now ≡ xs ++ x ∷ []
    → map f now ≡ map f xs ++ f x ∷ []
mapped_behind f xs now x is = ap (map f) is ∙ map-append f xs (x ∷ [])

-- ---- numbers

pub ascend_later : (low high later : ℕ) (os : List Over) → high ≤ later → LeasesAscend low os high
    → LeasesAscend low os later
ascend_later low high later [] le a = omega arith
ascend_later low high later (ended l es ∷ os) le a = (a.0, ascend_later l.number high later os le a.1)
ascend_later low high later (checked es ∷ os) le a = ascend_later low high later os le a

pub ascend_more : (low high : ℕ) (os : List Over) (l : Lent) (es : List Event) → high < l.number
    → LeasesAscend low os high → LeasesAscend low (os ++ ended l es ∷ []) l.number
ascend_more low high [] l es above a = (omega arith, omega arith)
ascend_more low high (ended x fs ∷ os) l es above a = (a.0, ascend_more x.number high os l es above a.1)
ascend_more low high (checked fs ∷ os) l es above a = ascend_more low high os l es above a

pub ascend_check : (low high : ℕ) (os : List Over) (es : List Event) → LeasesAscend low os high
    → LeasesAscend low (os ++ checked es ∷ []) high
ascend_check low high [] es a = a
ascend_check low high (ended x fs ∷ os) es a = (a.0, ascend_check x.number high os es a.1)
ascend_check low high (checked fs ∷ os) es a = ascend_check low high os es a

-- ---- requests and their events

pub resets_more : (os : List Over) (o : Over) → AreReset os → IsOver o → AreReset (os ++ o ∷ [])
resets_more [] o are is = (is, tt)
resets_more (x ∷ os) o are is = (are.0, resets_more os o are.1 is)

pub made_more : (os : List Over) (o : Over) → made_over (os ++ o ∷ []) ≡ made_over os ++ made_in o
made_more [] o = append-nil (made_in o)
made_more (x ∷ os) o =
    ap (λ (ts : List Made). made_in x ++ ts) (made_more os o)
    ∙ sym (append_assoc (made_in x) (made_over os) (made_in o))

events_append : (ts us : List Made) → events_of (ts ++ us) ≡ events_of ts ++ events_of us
events_append [] us = refl
events_append (t ∷ ts) us =
    ap (λ (l : List Event). t.events ++ l) (events_append ts us)
    ∙ sym (append_assoc t.events (events_of ts) (events_of us))

events_last : (ts : List Made) (t : Made) → events_of (ts ++ t ∷ []) ≡ events_of ts ++ t.events
events_last ts t = events_append ts (t ∷ []) ∙ ap (λ (l : List Event). events_of ts ++ l) (append-nil t.events)

-- ---- the last message

ends_behind : (status : TransactionStatus) (before es : List Event) → EndsInStatus status es
    → EndsInStatus status (before ++ es)
ends_behind status before es e = (
  before ++ e.0,
  e.1,
  ap (λ (l : List Event). before ++ l) e.2
      ∙ sym (append_assoc before e.0 (Got (backend.ReadyForQuery e.1) ∷ [])),
  e.3,
)

ends_one : (o : Over) → IsOver o → EndsInStatus Idle (events_of (made_in o))
ends_one (ended l es) is =
    subst (EndsInStatus Idle) (sym (events_last l.made (made_call reset es)))
    (ends_behind Idle (events_of l.made) es is.2)
ends_one (checked es) is = subst (EndsInStatus Idle) (sym (append-nil es)) is.1

ends_over : (o : Over) (os : List Over) → AreReset (o ∷ os) → EndsInStatus Idle (events_of (made_over (o ∷ os)))
ends_over o [] are =
    subst (λ (ts : List Made). EndsInStatus Idle (events_of ts)) (sym (append-nil (made_in o))) (ends_one o are.0)
ends_over o (p ∷ os) are =
    subst (EndsInStatus Idle) (sym (events_append (made_in o) (made_over (p ∷ os))))
    (ends_behind Idle (events_of (made_in o)) (events_of (made_over (p ∷ os))) (ends_over p os are.1))

pub begins_idle : (os : List Over) → AreReset os → BeginsIdle os
begins_idle [] are = tt
begins_idle (o ∷ os) are = ends_over o os are

-- what ends a simple query's answer, and what is behind it, ends in ReadyForQuery
abbrev pub EndsReady : List Event → Type 0
EndsReady es = (front : List Event) × (m : ReadyForQuery) × (es ≡ front ++ Got (backend.ReadyForQuery m) ∷ [])

ready_by : (rows : Bool) (last : Backend) (rest : List Event)
    → IsEnd kind.Simple (role kind.Simple rows last) rest → EndsReady (Got last ∷ rest)
ready_by rows (backend.ReadyForQuery m) rest e =
    ([], m, ap (λ (l : List Event). Got (backend.ReadyForQuery m) ∷ l) e)
ready_by rows (backend.ErrorResponse m) rest e =
    let r = e.2 in (
      Got (backend.ErrorResponse m) ∷ map Got r.ms,
      r.ready,
      ap
          (λ (l : List Event). Got (backend.ErrorResponse m) ∷ l) (e.1 ∙ r.are),
    )
ready_by true last rest e = absurd e
ready_by false last rest e = absurd e

pub simple_ends : (query : List ℕ) (es : List Event) → IsRequestSegment (request.Simple query) es → EndsReady es
simple_ends query es s =
    let a = s.2 in
    let r = ready_by a.behind a.last a.rest a.ends in
    let front = map Sent (sends_of (request.Simple query)) ++ (map Got a.ms ++ r.0) in
    let is : es ≡ front ++ Got (backend.ReadyForQuery r.1) ∷ [] =
    s.1 ∙ ap (λ (l : List Event). map Sent (sends_of (request.Simple query)) ++ l)
    (a.are ∙ ap (λ (l : List Event). map Got a.ms ++ l) r.2
    ∙ sym (append_assoc (map Got a.ms) r.0 (Got (backend.ReadyForQuery r.1) ∷ [])))
    ∙ sym (append_assoc (map Sent (sends_of (request.Simple query))) (map Got a.ms ++ r.0)
    (Got (backend.ReadyForQuery r.1) ∷ [])) in
    (front, r.1, is)

-- a client knows the status of the last ReadyForQuery
status_told : (config : Config) (s : Standing) (before : List Event) (m : ReadyForQuery)
    → (knowing config (fold standing_at s (before ++ Got (backend.ReadyForQuery m) ∷ []))).transaction_status ≡
    m.status
status_told config s before m =
    ap (λ (r : Standing). r.status) (fold-append standing_at s before (Got (backend.ReadyForQuery m) ∷ []))

pub status_known : (h : History) (ts : List Made) (q : Request) (es front : List Event) (m : ReadyForQuery)
    (v : View)
    → StandsBy h (ts ++ made_call q es ∷ []) v → es ≡ front ++ Got (backend.ReadyForQuery m) ∷ []
    → v.client.transaction_status ≡ m.status
status_known h ts q es front m v stands is =
    let said : stands.startup ++ events_of (ts ++ made_call q es ∷ []) ≡
    (stands.startup ++ (events_of ts ++ front)) ++ Got (backend.ReadyForQuery m) ∷ [] =
    ap (λ (l : List Event). stands.startup ++ l) (events_last ts (made_call q es)
    ∙ ap (λ (l : List Event). events_of ts ++ l) is
    ∙ sym (append_assoc (events_of ts) front (Got (backend.ReadyForQuery m) ∷ [])))
    ∙ sym (append_assoc stands.startup (events_of ts ++ front) (Got (backend.ReadyForQuery m) ∷ [])) in
    ap (λ (c : Client). c.transaction_status) stands.exchanged.knows
    ∙ ap (λ (l : List Event).
    (knowing h.config (fold standing_at (first_standing h.config) l)).transaction_status) said
    ∙ status_told h.config (first_standing h.config) (stands.startup ++ (events_of ts ++ front)) m

-- ---- idle sessions

pub idle_later : (lent later : ℕ) (hs : List History) (vs : List View) → lent ≤ later → AreIdle lent hs vs
    → AreIdle later hs vs
idle_later lent later [] [] le are = tt
idle_later lent later (h ∷ hs) (v ∷ vs) le are = (
  record {
    stands = (are.0).stands;
    resets = (are.0).resets;
    ascend = ascend_later 0 lent later h.over le (are.0).ascend;
    usable = (are.0).usable;
    flushed = (are.0).flushed;
  },
  idle_later lent later hs vs le are.1,
)
idle_later lent later [] (v ∷ vs) le are = absurd are
idle_later lent later (h ∷ hs) [] le are = absurd are

pub idle_more : (lent : ℕ) (hs : List History) (h : History) (vs : List View) (v : View) → AreIdle lent hs vs
    → IsIdleInPool lent h v → AreIdle lent (hs ++ h ∷ []) (vs ++ v ∷ [])
idle_more lent [] h [] v are is = (is, tt)
idle_more lent (x ∷ hs) h (w ∷ vs) v are is = (are.0, idle_more lent hs h vs v are.1 is)
idle_more lent [] h (w ∷ vs) v are is = absurd are
idle_more lent (x ∷ hs) h [] v are is = absurd are

-- a session more of which none was lent
pub idle_one_more : (low now : ℕ) (hs : List History) (h : History) (vs all : List View) (v : View) → now ≡ low
    → all ≡ vs ++ v ∷ [] → AreIdle low hs vs → IsIdleInPool 0 h v → AreIdle now (hs ++ h ∷ []) all
idle_one_more low now hs h vs all v same grown are is =
    let last = idle_later 0 low (h ∷ []) (v ∷ []) (omega arith) (is, tt) in
    subst (λ n. AreIdle n (hs ++ h ∷ []) all) (sym same)
    (subst (AreIdle low (hs ++ h ∷ [])) (sym grown) (idle_more low hs h vs v are last.0))

-- ---- a lease begins and ends

-- an idle session that is lent, where nothing was asked in its lease yet
pub lent_again : (low now : ℕ) (h : History) (v : View) → low < now → IsIdleInPool low h v
    → IsLent h (lent_as now) v
lent_again low now h v above is = record {
  stands = subst (λ (ts : List Made). StandsBy h ts v) (sym (append-nil (made_over h.over))) is.stands;
  resets = is.resets;
  last = low;
  ascend = is.ascend;
  above = above;
  usable = is.usable;
  flushed = is.flushed;
}

pub first_lent : (lent now number : ℕ) (hs : List History) (v : View) (rest : List View) → now ≡ lent + 1
    → number ≡ now → AreIdle lent hs (v ∷ rest) → LendsFirst hs now rest number v
first_lent lent now number [] v rest counted numbered are = are
first_lent lent now number (h ∷ hs) v rest counted numbered are = (
  lent_again lent number h v (omega (arith, counted, numbered)) are.0,
  begins_idle h.over (are.0).resets,
  idle_later lent now hs rest (omega arith) are.1,
)

pub lends_first : (lent now number : ℕ) (hs : List History) (idle rest : List View) (v : View) → idle ≡ v ∷ rest
    → now ≡ lent + 1 → number ≡ now → AreIdle lent hs idle → LendsFirst hs now rest number v
lends_first lent now number hs idle rest v first counted numbered are =
    first_lent lent now number hs v rest counted numbered (subst (AreIdle lent hs) first are)

-- behind a reset the session is idle again
pub lease_ends : (lent : ℕ) (h : History) (l : Lent) (es : List Event) (old last : View) → IsLent h l old
    → l.number ≤ lent → StandsBy h ((made_over h.over ++ l.made) ++ made_call reset es ∷ []) last → IsReset es
    → last.broken ≡ false → IsFlushed last.line → IsIdleInPool lent (with_lease h l es) last
lease_ends lent h l es old last lease own stands is usable flushed = record {
  stands =
      subst (λ (ts : List Made). StandsBy h ts last)
      (append_assoc (made_over h.over) l.made (made_call reset es ∷ [])
      ∙ sym (made_more h.over (ended l es))) stands;
  resets = resets_more h.over (ended l es) lease.resets is;
  ascend =
      ascend_later 0 l.number lent (h.over ++ ended l es ∷ []) own
      (ascend_more 0 lease.last h.over l es lease.above lease.ascend);
  usable = usable;
  flushed = flushed;
}

-- ---- what a link tells

pub over_link : (P : List ℕ → List ℕ → Type 0) (old now : Line) (taken sent : List ℕ)
    → MovesLine old now taken sent → P (old.tape.took ++ taken) (old.tape.wrote ++ sent)
    → P now.tape.took now.tape.wrote
over_link P old now taken sent moved p =
    subst (λ (l : List ℕ). P l now.tape.wrote) (sym moved.took)
    (subst (λ (l : List ℕ). P (old.tape.took ++ taken) l) (sym moved.wrote) p)
