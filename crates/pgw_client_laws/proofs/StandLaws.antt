-- A call takes a client to one that stands for one request more.
use Rattle.std.proofs.Common.{◌≡◌, ℕ, Bool, true, false, List, [], ◌∷◌, ◌++◌, map, fold, Result, Ok, Err, inl, inr, refl, sym, ◌∙◌, ap, subst, append_assoc}
use Rattle.std.proofs.lemmas.List.{append-nil}
use Rattle.std.proofs.lemmas.List.Sums.{fold-append}
use Rattle.pgw_backend.specs.declared.backend.PgWireBackendMessage.{PgWireBackendMessage as Backend}
use Rattle.pgw_backend.specs.declared.backend.PgWireBackendMessage.TheVariants as backend
use Rattle.pgw_backend.specs.declared.client_error.PgWireClientError.{PgWireClientError as ClientError}
use Rattle.pgw_backend.specs.declared.client_error.PgWireClientError.TheVariants as client
use Rattle.pgw_backend.specs.Front.{BackendFront, More, Bad}
use Rattle.pgw_frontend.specs.Frontend.{encodings, both}
use Rattle.pgw_query.specs.declared.response.ReadyForQuery.{ReadyForQuery}
use Rattle.pgw_config.specs.declared.config.Config.{Config}
use Rattle.pgw_session.specs.declared.types.Request.{Request}
use Rattle.pgw_session.specs.declared.types.Answer.{Answer}
use Rattle.pgw_session.specs.declared.types.Answer.TheVariants as answer
use Rattle.pgw_session.specs.declared.standing.Standing.{Standing}
use Rattle.pgw_session.specs.Input.{Input}
use Rattle.pgw_session.specs.Events.{Event, Sent, Got, sents, all_events}
use Rattle.pgw_session.specs.Standings.{first_standing, standing_at, standing_by, standing_of}
use Rattle.pgw_session.specs.Requests.{kind_of, passes_over}
use Rattle.pgw_session.specs.Logins.{login_events}
use Rattle.pgw_session.specs.Segments.{IsStartupSegment, startup_message}
use Rattle.pgw_session.specs.Transcript.{AreSegments, SpellsGot, EncodesSent}
use Rattle.pgw_session.proofs.Grammar.{startup_same}
use Rattle.pgw_session.proofs.Hears.{sents_append}
use Rattle.pgw_session.proofs.Events.{encodings_append}
use Rattle.pgw_handlers.specs.Client.{Client}
use Rattle.pgw_client_laws.specs.Turns.{knowing, standing_of_client, AreExchanged, Does, IsAnswered, IsCallFront, IsOpenFor, Opened}
use Rattle.pgw_handlers.specs.declared.client_info.ServerInformation.{ServerInformation}
use Rattle.pgw_client_laws.specs.Startup.{LoggedIn}
use Rattle.pgw_client_calls.specs.Desk.{with_information}
use Rattle.pgw_client_calls.specs.Line.{Reasons}
use Rattle.pgw_client_laws.specs.Calls.{BreaksClient, Comes, CallMisplaces, StopsCall}
use Rattle.pgw_client_laws.specs.Stands.{login, Made, made_call, IsMade, AreMade, events_of, StandsForCalls, OneMore, StandsCut, MisplacedBehind, BrokenBehind, StandsBehind, requests_of, segments_of, AreAnswered, IsSession}

-- ---- exchanges, one behind the other

spells_append : (s : Standing) (xs ys : List Event) (a b : List ℕ) → SpellsGot s xs a
    → SpellsGot (fold standing_at s xs) ys b → SpellsGot s (xs ++ ys) (a ++ b)
spells_append s [] ys a b x y = subst (λ (l : List ℕ). SpellsGot s ys (l ++ b)) (sym x) y
spells_append s (Sent m ∷ xs) ys a b x y = spells_append s xs ys a b x y
spells_append s (Got m ∷ xs) ys a b x y = (
  x.0,
  x.1 ++ b,
  ap (λ (l : List ℕ). l ++ b) x.2
      ∙ append_assoc x.0 x.1 b,
  x.3,
  spells_append (standing_by s m) xs ys x.1 b x.4 y,
)

pub exchanged_append : (config : Config) (s : Standing) (read wrote more out : List ℕ) (xs ys : List Event)
    (c info : Client) (buffer rest : List ℕ) →
    AreExchanged config s read wrote xs c buffer
    → AreExchanged config (fold standing_at s xs) (buffer ++ more) out ys info rest
    → AreExchanged config s (read ++ more) (wrote ++ out) (xs ++ ys) info rest
exchanged_append config s read wrote more out xs ys c info buffer rest x y = record {
  spelled = x.spelled ++ y.spelled;
  begins =
      ap (λ (l : List ℕ). l ++ more) x.begins ∙ append_assoc x.spelled buffer more
      ∙ ap (λ (l : List ℕ). x.spelled ++ l) y.begins ∙ sym (append_assoc x.spelled y.spelled rest);
  got = spells_append s xs ys x.spelled y.spelled x.got y.got;
  put = ap encodings (sents_append xs ys) ∙ encodings_append (sents xs) (sents ys)
      ∙ ap (λ o. both o (encodings (sents ys))) x.put ∙ ap (both (Ok wrote)) y.put;
  knows = y.knows ∙ ap (knowing config) (sym (fold-append standing_at s xs ys));
}

-- more bytes alone
pub exchanged_more : (config : Config) (s : Standing) (read wrote more : List ℕ) (es : List Event) (c : Client)
    (buffer : List ℕ)
    → AreExchanged config s read wrote es c buffer
    → AreExchanged config s (read ++ more) wrote es c (buffer ++ more)
exchanged_more config s read wrote more es c buffer x = record {
  spelled = x.spelled;
  begins = ap (λ (l : List ℕ). l ++ more) x.begins ∙ append_assoc x.spelled buffer more;
  got = x.got;
  put = x.put;
  knows = x.knows;
}

-- ---- behind a login

settled_by : (s : Standing) (m : Backend) → s.settled ≡ true → (standing_by s m).settled ≡ true
settled_by s (backend.NegotiateProtocolVersion m) is = rw is refl
settled_by s (backend.BackendKeyData m) is = rw is refl
settled_by s (backend.ReadyForQuery m) is = refl
settled_by s m is = is

settled_stays : (s : Standing) (es : List Event) → s.settled ≡ true → (fold standing_at s es).settled ≡ true
settled_stays s [] is = is
settled_stays s (Sent m ∷ es) is = settled_stays s es is
settled_stays s (Got m ∷ es) is = settled_stays (standing_by s m) es (settled_by s m is)

settled_ready : (s : Standing) (before : List Event) (ready : ReadyForQuery) (behind : List Event)
    → (fold standing_at s (before ++ Got (backend.ReadyForQuery ready) ∷ behind)).settled ≡ true
settled_ready s before ready behind =
    ap (λ (r : Standing). r.settled)
    (fold-append standing_at s before (Got (backend.ReadyForQuery ready) ∷ behind))
    ∙ settled_stays _ behind refl

pub settled_startup : (input : Input) (s : Standing) (startup behind : List Event)
    → IsStartupSegment input startup → (fold standing_at s (startup ++ behind)).settled ≡ true
settled_startup input s startup behind is =
    let g = is.2 in
    let r = g.ends in
    let front = Sent (startup_message input) ∷ (map Got g.news ++ (login_events input g.login ++ map Got r.ms)) in
    let whole : startup ≡ front ++ Got (backend.ReadyForQuery r.ready) ∷ [] =
    is.1 ∙ ap (λ (l : List Event). Sent (startup_message input) ∷ l)
    (g.are ∙ ap (λ (l : List Event). map Got g.news ++ (login_events input g.login ++ l)) r.are
    ∙ ap (λ (l : List Event). map Got g.news ++ l)
    (sym (append_assoc (login_events input g.login) (map Got r.ms)
    (Got (backend.ReadyForQuery r.ready) ∷ [])))
    ∙ sym (append_assoc (map Got g.news) (login_events input g.login ++ map Got r.ms)
    (Got (backend.ReadyForQuery r.ready) ∷ []))) in
    ap (λ (l : List Event). (fold standing_at s (l ++ behind)).settled) whole
    ∙ ap (λ (l : List Event). (fold standing_at s l).settled)
    (append_assoc front (Got (backend.ReadyForQuery r.ready) ∷ []) behind)
    ∙ settled_ready s front r.ready behind

-- what stands by a client is what it was told
pub standing_is : (config : Config) (s : Standing) (c : Client) → c ≡ knowing config s → s.settled ≡ true
    → standing_of_client c ≡ s
standing_is config s c is settled = ap standing_of_client is ∙ rw settled refl

config_is : (config : Config) (s : Standing) (c : Client) → c ≡ knowing config s → c.config ≡ config
config_is config s c is = ap (λ (x : Client). x.config) is

-- ---- one request more

events_more : (ts : List Made) (t : Made) → events_of (ts ++ t ∷ []) ≡ events_of ts ++ t.events
events_more [] t = append-nil t.events
events_more (x ∷ ts) t =
    ap (λ (l : List Event). x.events ++ l) (events_more ts t)
    ∙ sym (append_assoc x.events (events_of ts) t.events)

are_more : (ts : List Made) (t : Made) → AreMade ts → IsMade t → AreMade (ts ++ t ∷ [])
are_more [] t are is = (is, tt)
are_more (x ∷ ts) t are is = (are.0, are_more ts t are.1 is)

-- what is exchanged behind requests is exchanged from the login on
exchanged_behind : (config : Config) (nonce : List ℕ) (ts : List Made) (read wrote more out : List ℕ)
    (c info : Client) (buffer rest : List ℕ) (es : List Event)
    (s : StandsForCalls config nonce ts read wrote c buffer) →
    AreExchanged c.config (standing_of_client c) (buffer ++ more) out es info rest
    → AreExchanged config (first_standing config) (read ++ more) (wrote ++ out)
    (s.startup ++ (events_of ts ++ es)) info rest
exchanged_behind config nonce ts read wrote more out c info buffer rest es s x =
    let said = s.startup ++ events_of ts in
    let told = fold standing_at (first_standing config) said in
    let knows : c ≡ knowing config told = s.exchanged.knows in
    let stands : standing_of_client c ≡ told =
    standing_is config told c knows
    (settled_startup (login config nonce) (first_standing config) s.startup (events_of ts) s.begins) in
    let y : AreExchanged config told (buffer ++ more) out es info rest =
    subst (λ (r : Standing). AreExchanged config r (buffer ++ more) out es info rest) stands
    (subst (λ (k : Config). AreExchanged k (standing_of_client c) (buffer ++ more) out es info rest)
    (config_is config told c knows) x) in
    subst (λ (l : List Event). AreExchanged config (first_standing config) (read ++ more) (wrote ++ out) l info
    rest) (append_assoc s.startup (events_of ts) es)
    (exchanged_append config (first_standing config) read wrote more out said es c info buffer rest s.exchanged y)

one_more : (config : Config) (nonce : List ℕ) (ts : List Made) (q : Request) (read wrote more out : List ℕ)
    (c info : Client) (buffer rest : List ℕ) (es : List Event)
    → StandsForCalls config nonce ts read wrote c buffer → IsMade (made_call q es) →
    AreExchanged c.config (standing_of_client c) (buffer ++ more) out es info rest
    → StandsForCalls config nonce (ts ++ made_call q es ∷ []) (read ++ more) (wrote ++ out) info rest
one_more config nonce ts q read wrote more out c info buffer rest es s is x =
    record {
      startup = s.startup;
      begins = s.begins;
      are = are_more ts (made_call q es) s.are is;
      exchanged =
          subst (λ (l : List Event). AreExchanged config (first_standing config) (read ++ more) (wrote ++ out) l
          info rest) (ap (λ (l : List Event). s.startup ++ l) (sym (events_more ts (made_call q es))))
          (exchanged_behind config nonce ts read wrote more out c info buffer rest es s x);
    }

-- a front of one request more
one_cut : (config : Config) (nonce : List ℕ) (ts : List Made) (read wrote more out : List ℕ) (c info : Client)
    (buffer rest : List ℕ) (property : List Event → Type 0)
    → StandsForCalls config nonce ts read wrote c buffer →
    Does property c (buffer ++ more) out info rest
    → StandsCut config nonce ts property (read ++ more) (wrote ++ out) info rest
one_cut config nonce ts read wrote more out c info buffer rest property s x = record {
  startup = s.startup;
  begins = s.begins;
  are = s.are;
  events = x.0;
  front = x.1;
  exchanged = exchanged_behind config nonce ts read wrote more out c info buffer rest x.0 s x.2;
}

-- more bytes alone
pub stands_more : (config : Config) (nonce : List ℕ) (ts : List Made) (read wrote more : List ℕ) (c : Client)
    (buffer : List ℕ)
    → StandsForCalls config nonce ts read wrote c buffer
    → StandsForCalls config nonce ts (read ++ more) wrote c (buffer ++ more)
stands_more config nonce ts read wrote more c buffer s = record {
  startup = s.startup;
  begins = s.begins;
  are = s.are;
  exchanged =
      exchanged_more config (first_standing config) read wrote more (s.startup ++ events_of ts) c buffer
      s.exchanged;
}

module _ {A : Type 0} (give : A → Answer) (P : Reasons) (config : Config) (nonce : List ℕ) (ts : List Made)
    (q : Request) (read wrote more out : List ℕ) (c info : Client) (buffer rest : List ℕ)
    (s : StandsForCalls config nonce ts read wrote c buffer) where
  answered_behind : (a : Answer) → Does (IsAnswered q a) c (buffer ++ more) out info rest
      → OneMore config nonce ts q (IsAnswered q a) (read ++ more) (wrote ++ out) info rest
  answered_behind a x =
      (x.0, x.1, one_more config nonce ts q read wrote more out c info buffer rest x.0 s (inl (x.1).0) x.2)

  cut_here : (property : List Event → Type 0) → Does property c (buffer ++ more) out info rest
      → StandsCut config nonce ts property (read ++ more) (wrote ++ out) info rest
  cut_here property x = one_cut config nonce ts read wrote more out c info buffer rest property s x

  stopped : (e : ClientError) (next : BackendFront) → StopsCall q c (buffer ++ more) out e info rest next
      → StandsCut config nonce ts (IsCallFront q e) (read ++ more) (wrote ++ out) info rest
  stopped e next x = cut_here (IsCallFront q e) x.0

  unwritten : (lost : List ℕ) (e : ClientError)
      → Does (IsCallFront q e) c (buffer ++ more) (out ++ lost) info rest
      → StandsCut config nonce ts (IsCallFront q e) (read ++ more) ((wrote ++ out) ++ lost) info rest
  unwritten lost e x =
      subst (λ (w : List ℕ). StandsCut config nonce ts (IsCallFront q e) (read ++ more) w info rest)
      (sym (append_assoc wrote out lost))
      (one_cut config nonce ts read wrote more (out ++ lost) c info buffer rest (IsCallFront q e) s x)

  none_lost : (e : ClientError)
      → StandsCut config nonce ts (IsCallFront q e) (read ++ more) (wrote ++ out) info rest
      → StandsCut config nonce ts (IsCallFront q e) (read ++ more) ((wrote ++ out) ++ []) info rest
  none_lost e x =
      subst (λ (w : List ℕ). StandsCut config nonce ts (IsCallFront q e) (read ++ more) w info rest)
      (sym (append-nil (wrote ++ out))) x

  misplaced_behind : (m : Backend) (b : Bool) → CallMisplaces b P q c (buffer ++ more) out m info rest
      → MisplacedBehind b config nonce ts q (read ++ more) (wrote ++ out) info rest m
  misplaced_behind m true (why, x) = stopped (client.UnexpectedMessage m) More x
  misplaced_behind m false (left, x, next) = (
    left,
    one_cut config nonce ts read wrote more out c info buffer left
        (Opened q (IsOpenFor (kind_of q) false m)) s x,
    next,
  )

  broken_behind : (e : ClientError) → BreaksClient {A = A} P q c (buffer ++ more) out info rest (Err e)
      → BrokenBehind config nonce ts q (read ++ more) (wrote ++ out) info rest e
  broken_behind client.OutOfMemory x = tt
  broken_behind client.IoError (inl (why, e, x)) = ([], e, none_lost e (stopped e More x))
  broken_behind client.IoError (inr (lost, why, e, x)) = (lost, e, unwritten lost e x)
  broken_behind client.ReadLimit (why, e, x) = (e, stopped e More x)
  broken_behind (client.PgWireError why) (e, x) = (e, stopped e (Bad why) x)
  broken_behind client.UnexpectedEOF (why, x) = stopped client.UnexpectedEOF More x
  broken_behind (client.RemoteError e) (why, x) = stopped (client.RemoteError e) More x
  broken_behind (client.UnexpectedMessage m) x = misplaced_behind m (passes_over (kind_of q)) x
  broken_behind e x = absurd x

  pub stands_behind : (result : Result A ClientError) (broken : Bool)
      → Comes give P q c (buffer ++ more) out info rest result broken
      → StandsBehind give config nonce ts q (read ++ more) (wrote ++ out) info rest result broken
  stands_behind (Ok v) true x = absurd x
  stands_behind (Err e) true x = broken_behind e x
  stands_behind (Ok v) false x = answered_behind (give v) x
  stands_behind (Err (client.RemoteError e)) false x = answered_behind (answer.Remote e) x
  stands_behind (Err (client.UnexpectedMessage m)) false x =
      (x.0, x.1, one_more config nonce ts q read wrote more out c info buffer rest x.0 s (inr (m, x.1)) x.2)
  stands_behind (Err (client.PgWireError why)) false x =
      rw (x.1, x.2, x.3, append-nil wrote) (stands_more config nonce ts read wrote more c buffer s)
  stands_behind (Err e) false x = absurd x

-- ---- a login

pub stands_first : (config : Config) (nonce bytes sent : List ℕ) (information : ServerInformation) (info : Client)
    (rest : List ℕ)
    → LoggedIn config nonce bytes sent information info rest
    → StandsForCalls config nonce [] bytes sent (with_information information info) rest
stands_first config nonce bytes sent information info rest l = record {
  startup = l.es;
  begins = l.segment;
  are = tt;
  exchanged =
      subst (λ (es : List Event). AreExchanged config (first_standing config) bytes sent es
      (with_information information info) rest) (sym (append-nil l.es)) l.exchanged;
}

-- ---- a session

joined_is : (ts : List Made) → all_events (segments_of ts) ≡ events_of ts
joined_is [] = refl
joined_is (t ∷ ts) = ap (λ (l : List Event). t.events ++ l) (joined_is ts)

are_segments : (ts : List Made) → AreAnswered ts → AreSegments (requests_of ts) (segments_of ts)
are_segments [] are = tt
are_segments (t ∷ ts) are = (are.0, are_segments ts are.1)

pub is_session : (config : Config) (nonce : List ℕ) (ts : List Made) (read wrote : List ℕ) (c : Client)
    (buffer : List ℕ)
    → StandsForCalls config nonce ts read wrote c buffer → AreAnswered ts
    → IsSession config nonce ts read wrote c buffer
unfolding standing_of
is_session config nonce ts read wrote c buffer s are =
    let x = s.exchanged in
    let whole : s.startup ++ events_of ts ≡ all_events (s.startup ∷ segments_of ts) =
    ap (λ (l : List Event). s.startup ++ l) (sym (joined_is ts)) in
    record {
      startup = s.startup;
      transcript = (startup_same (login config nonce) (requests_of ts) s.startup s.begins, are_segments ts are);
      spelled = x.spelled;
      begins = x.begins;
      got = subst (λ (l : List Event). SpellsGot (first_standing config) l x.spelled) whole x.got;
      put = subst (λ (l : List Event). EncodesSent l wrote) whole x.put;
      knows =
          x.knows ∙ ap (λ (l : List Event). knowing config (fold standing_at (first_standing config) l)) whole;
    }
