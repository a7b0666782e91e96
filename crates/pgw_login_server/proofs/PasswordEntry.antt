-- A client is let in only behind its password.
use Rattle.std.proofs.Common.{◌≡◌, ◌⊎◌, inl, inr, Bool, true, false, ℕ, List, [], ◌∷◌, ◌++◌, Option, Some, None, Result, Ok, Err, refl, sym, ap, subst, ◌∙◌}
use Rattle.std.specs.Prelude.{ℤ, ◌≢◌, if◌then◌else◌}
use Rattle.std.specs.Str.{bytes_eq}
use Rattle.std.specs.List.{list_any, Contains}
use Rattle.std.proofs.lemmas.List.Elements.{Contains-append_left, Contains-append_right, Contains-push}
use Rattle.std.proofs.lemmas.Slice.Eq.{bytes_eq-Decides}
use Rattle.pgw_types.specs.declared.error.PgWireError.{PgWireError}
use Rattle.pgw_wire.specs.Pairs.{Held}
use Rattle.pgw_wire.specs.declared.secret_key.SecretKey.{SecretKey}
use Rattle.pgw_scram.specs.declared.password.Password.{Password as Kept}
use Rattle.pgw_startup.specs.Password.{as_password}
use Rattle.pgw_startup.specs.declared.password.Password.{Password}
use Rattle.pgw_startup.specs.declared.password.PasswordMessageFamily.{PasswordMessageFamily}
use Rattle.pgw_startup.specs.declared.startup.Startup.{Startup}
use Rattle.pgw_frontend.specs.declared.frontend.PgWireFrontendMessage.{PgWireFrontendMessage as Message}
use Rattle.pgw_frontend.specs.declared.frontend.PgWireFrontendMessage.TheVariants as frontend
use Rattle.pgw_backend.specs.declared.backend.PgWireBackendMessage.{PgWireBackendMessage as Backend}
use Rattle.pgw_backend.specs.declared.backend.PgWireBackendMessage.TheVariants as backend
use Rattle.pgw_startup.specs.declared.authentication.Authentication.TheVariants as auth
use Rattle.pgw_registry.specs.Passes.{Known}
use Rattle.pgw_registry.specs.declared.error.RegistryError.{RegistryError}
use Rattle.pgw_login.specs.Client.{LoginClient, with_metadata}
use Rattle.pgw_login.specs.Login.{Login, login_seen}
use Rattle.pgw_login.specs.Registered.{HandlePair}
use Rattle.pgw_login.specs.Acts.{Standing, Answer, Act, Then, halts, LoginStays, AnswersLogin, Marks, Sends, OrFails, LoginAwaits, AwaitsAt, awaits, is_initial}
use Rattle.pgw_login.specs.Acts as acts
use Rattle.pgw_login.specs.Opening.{Opens, saved}
use Rattle.pgw_login.specs.Finish.{Finishes}
use Rattle.pgw_login.specs.Hearing.{heard}
use Rattle.pgw_login.specs.Password.{Opener, Checker, with_kept, ChallengedBy, Challenges, wrong_password, compared, CheckedBy, ChecksPassword, PasswordOn, PasswordMeans}
use Rattle.pgw_login.specs.Cleartext.{cleartext_challenge, OpensCleartext, ComparedTo, ChecksCleartext, CleartextMeans}
use Rattle.pgw_login.specs.Md5.{md5_request, md5_with_salt, md5_challenge, OpensMd5, ChecksMd5, Md5Means}
use Rattle.pgw_login.specs.declared.password.Challenge.{Challenge}
use Rattle.pgw_login.specs.declared.handler.Heard.{Heard}
use Rattle.pgw_login.specs.declared.handler.Heard.TheVariants as of
use Rattle.pgw_login.specs.declared.client_info.PgWireConnectionState.TheVariants.{ReadyForQuery, AuthenticationInProgress}
use Rattle.pgw_login.specs.declared.state.LoginState.{LoginState}
use Rattle.pgw_login_server.specs.Server.{Stage, begins_within}
use Rattle.pgw_login_server.specs.Taken.{Taken}
use Rattle.pgw_login_server.specs.Entry.{lets_in, LetsInBy, IsNamed, IsPasswordMessage, ProvesCleartext, IsChallenged, ProvesMd5}
use Rattle.pgw_login_server.proofs.EntryActs.{not_both, then_both, Quiet, nothing_said, quiet_both, quiet_then, quiet_sends, quiet_opens, quiet_refuses, quiet_marks, root, Roots, roots_then, roots_tells, roots_awaits, roots_finishes, IsOpened, opened}
use Rattle.pgw_login_server.proofs.EntryLaws.{IsKnown, Goes, guarded, still_named, still_proven, now_proven}

-- ---- what a message is heard as

pub heard_password : (m : Message) (p : PasswordMessageFamily) → heard m ≡ of.Password p
    → m ≡ frontend.PasswordMessageFamily p
heard_password (frontend.PasswordMessageFamily q) p is =
    let same : q ≡ p = cc in ap frontend.PasswordMessageFamily same
heard_password (frontend.Startup s) p is = absurd cc
heard_password m p is = absurd cc

pub heard_startup : (m : Message) (s : Startup) → heard m ≡ of.Startup s → m ≡ frontend.Startup s
heard_startup (frontend.Startup q) s is = let same : q ≡ s = cc in ap frontend.Startup same
heard_startup (frontend.PasswordMessageFamily p) s is = absurd cc
heard_startup m s is = absurd cc

pub quiet_says : {A : Type 0} (sent : List Backend) → list_any lets_in sent ≡ false → list_any lets_in sent ≡ true
    → A
quiet_says sent none says = let both : true ≡ false = sym says ∙ none in absurd cc

-- ---- who logs in

pub named_now : (first : LoginClient) (ts : List Taken) (t : Taken) (s : Startup) (before after : Standing)
    → t.message ≡ frontend.Startup s → before.client ≡ first
    → login_seen after.client ≡ login_seen
    (with_metadata (saved before.client.metadata s.parameters) before.client)
    → IsNamed first (ts ++ t ∷ []) (login_seen after.client)
named_now first ts t s before after is same who = record {
  startup = s;
  opening = t;
  came = Contains-push ts t;
  is_startup = is;
  names = who ∙ ap (λ (c : LoginClient). login_seen (with_metadata (saved c.metadata s.parameters) c)) same;
}

not_ready : {A : Type 0} (client : LoginClient) → client.state ≡ AuthenticationInProgress
    → client.state ≡ ReadyForQuery → A
not_ready client is ready = let both : AuthenticationInProgress ≡ ReadyForQuery = sym is ∙ ready in absurd cc

pub on_and_off : {A : Type 0} (b : Bool) → b ≡ true → b ≡ false → A
on_and_off b on off = let both : true ≡ false = sym on ∙ off in absurd cc

module _ (Proves : List Taken → Taken → Type 0) (Keeps : List Taken → Login → LoginState → Type 0)
    (first : LoginClient)
  where
    -- a login began
    pub known_begun : (ts : List Taken) (t : Taken) (s : Startup) (before mid after : Standing)
        → IsKnown Proves Keeps first ts before.client before.login → t.message ≡ frontend.Startup s
        → IsOpened s before mid → login_seen after.client ≡ login_seen mid.client
        → after.login.started ≡ mid.login.started → after.client.state ≡ mid.client.state
        → Keeps (ts ++ t ∷ []) (login_seen after.client) after.login
        → IsKnown Proves Keeps first (ts ++ t ∷ []) after.client after.login
    known_begun ts t s before mid after k is o who started state keeps =
        let on : after.login.started ≡ true = started ∙ ap (λ (l : LoginState). l.started) o.login in
        record {
          fresh = λ off. on_and_off after.login.started on off;
          named = λ begun. named_now first ts t s before after is (k.fresh o.fresh) (who ∙ o.who);
          ready = λ is_ready. not_ready after.client (state ∙ o.state) is_ready;
          keeps = keeps;
        }

    -- a proof was taken, of a login that has begun
    pub known_proven : (ts : List Taken) (t : Taken) (before after : Standing)
        → IsKnown Proves Keeps first ts before.client before.login → before.login.started ≡ true
        → root after ≡ root before → Proves ts t → Keeps (ts ++ t ∷ []) (login_seen after.client) after.login
        → IsKnown Proves Keeps first (ts ++ t ∷ []) after.client after.login
    known_proven ts t before after k on same p keeps =
        let still : after.login.started ≡ true = ap (λ r. r.started) same ∙ on in
        record {
          fresh = λ off. on_and_off after.login.started still off;
          named = λ begun. subst (IsNamed first (ts ++ t ∷ [])) (sym (ap (λ r. r.who) same))
              (still_named first ts t (login_seen before.client) (k.named on));
          ready = λ is_ready. now_proven Proves ts t p;
          keeps = keeps;
        }

    -- a login that has begun went on, and the client may ask no more than before
    pub known_on : (ts : List Taken) (t : Taken) (before after : Standing)
        → IsKnown Proves Keeps first ts before.client before.login → before.login.started ≡ true
        → root after ≡ root before → after.client.state ≡ before.client.state
        → Keeps (ts ++ t ∷ []) (login_seen after.client) after.login
        → IsKnown Proves Keeps first (ts ++ t ∷ []) after.client after.login
    known_on ts t before after k on same state keeps =
        let still : after.login.started ≡ true = ap (λ r. r.started) same ∙ on in
        record {
          fresh = λ off. on_and_off after.login.started still off;
          named = λ begun. subst (IsNamed first (ts ++ t ∷ [])) (sym (ap (λ r. r.who) same))
              (still_named first ts t (login_seen before.client) (k.named on));
          ready = λ is_ready. still_proven Proves ts t (k.ready (sym state ∙ is_ready));
          keeps = keeps;
        }

    -- nothing came of it
    pub known_passed : (ts : List Taken) (t : Taken) (before after : Standing)
        → IsKnown Proves Keeps first ts before.client before.login → after ≡ before
        → (Keeps ts (login_seen before.client) before.login
        → Keeps (ts ++ t ∷ []) (login_seen before.client) before.login)
        → IsKnown Proves Keeps first (ts ++ t ∷ []) after.client after.login
    known_passed ts t before after k same keeps =
        let known : IsKnown Proves Keeps first (ts ++ t ∷ []) before.client before.login = record {
          fresh = k.fresh;
          named = λ on. still_named first ts t (login_seen before.client) (k.named on);
          ready = λ is. still_proven Proves ts t (k.ready is);
          keeps = keeps k.keeps;
        } in
        subst (λ (s : Standing). IsKnown Proves Keeps first (ts ++ t ∷ []) s.client s.login) (sym same) known

-- ---- a password

begun_where : (b c : Bool) → (if b then c else false) ≡ true → b ≡ true
begun_where true c is = refl
begun_where false c is = absurd cc

pub begun_awaits : (login : LoginState) → awaits login ≡ true → login.started ≡ true
begun_awaits login is = begun_where login.started (is_initial login.sasl) is

awaited : (b : Bool) (before after : Standing) (sent : List Backend) (answer : Answer)
    → AwaitsAt b before after sent answer → answer ≡ Ok tt → (b ≡ true) × (after ≡ before) × (sent ≡ [])
awaited true before after sent answer h ok = (refl, h.0, h.1)
awaited false before after sent answer h ok = absurd (not_both answer _ h.2 ok)

module _ (Q : Standing → Answer → Type 0) (P : LoginClient → Option Held → Type 0)
    (R : Option Known → ℤ → SecretKey → Option Known → Result (Option HandlePair) RegistryError → Type 0) where
  roots_checked : Roots (Then LoginAwaits (Then (AnswersLogin Q) (Finishes P R)))
  roots_checked = roots_then LoginAwaits (Then (AnswersLogin Q) (Finishes P R)) roots_awaits
      (roots_then (AnswersLogin Q) (Finishes P R) (roots_tells Q) (roots_finishes P R))

  -- the check comes first: nothing lets in, and it is refused, unless the password was awaited and passed
  checked_first : (before after : Standing) (sent : List Backend) (answer : Answer)
      → Then (AnswersLogin Q) (Finishes P R) before after sent answer
      → ((list_any lets_in sent ≡ false) × (answer ≡ Ok tt → ⊥)) ⊎ Q before (Ok tt)
  checked_first before after sent answer (halts b a s e h) =
      inl (nothing_said s h.1, λ ok. not_both (Err e) e refl ok)
  checked_first before after sent answer (acts.goes b mid a front back r x y) = inr x.2

  awaited_first : (before after : Standing) (sent : List Backend) (answer : Answer)
      → Then LoginAwaits (Then (AnswersLogin Q) (Finishes P R)) before after sent answer
      → ((list_any lets_in sent ≡ false) × (answer ≡ Ok tt → ⊥))
      ⊎ ((before.login.started ≡ true) × Q before (Ok tt))
  awaited_first before after sent answer (halts b a s e h) = inl
      (quiet_halt (awaits b.login) b a s e h, λ ok. not_both (Err e) e refl ok)
    where
      quiet_halt : (on : Bool) (b a : Standing) (s : List Backend) (e : PgWireError) → AwaitsAt on b a s (Err e)
          → list_any lets_in s ≡ false
      quiet_halt true b a s e h = nothing_said s h.1
      quiet_halt false b a s e h = nothing_said s h.1
  awaited_first before after sent answer (acts.goes b mid a front back r x y) =
      let on = awaited (awaits b.login) b mid front (Ok tt) x refl in
      elim (checked_first mid a back r y) [
        | inl none ↦ inl (quiet_both front back (nothing_said front on.2) none.0, none.1)
        | inr q ↦ inr (begun_awaits b.login on.0, subst (λ (s : Standing). Q s (Ok tt)) on.1 q)
      ]

-- ---- by any method

module _ (opens : Opener) where
  -- what a challenge leaves
  pub record Challenged (before after : Standing) (sent : List Backend) : Type 0 where
    pub challenge : Challenge
    pub opened : opens (login_seen before.client) (Ok challenge)
    pub client : after.client ≡ before.client
    pub login : after.login ≡ with_kept challenge.kept before.login
    pub told : sent ≡ backend.Authentication challenge.request ∷ []

  challenged_by : (challenge : Result Challenge PgWireError) (before after : Standing) (sent : List Backend)
      (answer : Answer) → opens (login_seen before.client) challenge
      → ChallengedBy challenge before after sent answer → answer ≡ Ok tt → Challenged before after sent
  challenged_by (Err e) before after sent answer o h ok = absurd (not_both answer e h.2 ok)
  challenged_by (Ok c) before after sent answer o h ok =
      let b = then_both (Marks (with_kept c.kept)) (Sends (backend.Authentication c.request ∷ [])) before after
      sent answer h ok in
      record {
        challenge = c;
        opened = o;
        client = ap (λ x. x.client) b.4.0 ∙ ap (λ x. x.client) b.3.0;
        login = ap (λ x. x.login) b.4.0 ∙ ap (λ x. x.login) b.3.0;
        told = b.5 ∙ ap (λ (l : List Backend). l ++ b.2) b.3.1 ∙ b.4.1;
      }

  challenged : (before after : Standing) (sent : List Backend) → Challenges opens before after sent (Ok tt)
      → Challenged before after sent
  challenged before after sent h = challenged_by h.0 before after sent (Ok tt) h.1 h.2 refl

  -- what a client is asked by does not let it in
  abbrev AsksFirst : Type 0
  AsksFirst = (login : Login) (c : Challenge) → opens login (Ok c)
      → list_any lets_in (backend.Authentication c.request ∷ []) ≡ false

  quiet_challenged : AsksFirst → (challenge : Result Challenge PgWireError) (before after : Standing)
      (sent : List Backend) (answer : Answer) → opens (login_seen before.client) challenge
      → ChallengedBy challenge before after sent answer → list_any lets_in sent ≡ false
  quiet_challenged asks (Err e) before after sent answer o h = quiet_refuses e before after sent answer h
  quiet_challenged asks (Ok c) before after sent answer o h =
      quiet_then (Marks (with_kept c.kept)) (Sends (backend.Authentication c.request ∷ []))
      (quiet_marks (with_kept c.kept))
      (quiet_sends (backend.Authentication c.request ∷ []) (asks (login_seen before.client) c o)) before after
      sent answer h

  quiet_challenges : AsksFirst → Quiet (Challenges opens)
  quiet_challenges asks before after sent answer h =
      quiet_challenged asks h.0 before after sent answer h.1 h.2

still_started : (kept : Option (List ℕ)) (s : LoginState) → (with_kept kept s).started ≡ s.started
still_started None s = refl
still_started (Some text) s = refl

-- a password that was taken was read
module _ (checks : Checker) where
  read_by : (m : PasswordMessageFamily) (read : Result Password PgWireError) (kept : Option (List ℕ))
      (login : Login) (answer : Answer) → as_password m ≡ read → CheckedBy checks read kept login answer
      → answer ≡ Ok tt → (text : List ℕ) × checks text kept login (Ok tt)
      × IsPasswordMessage (frontend.PasswordMessageFamily m) text
  read_by m (Err e) kept login answer is h ok = absurd (not_both answer e h ok)
  read_by m (Ok p) kept login answer is h ok =
      (p.password, subst (checks p.password kept login) ok h, (m, p, refl, is, refl))

  read_password : (m : PasswordMessageFamily) (kept : Option (List ℕ)) (login : Login)
      → ChecksPassword checks m kept login (Ok tt) → (text : List ℕ) × checks text kept login (Ok tt)
      × IsPasswordMessage (frontend.PasswordMessageFamily m) text
  read_password m kept login (inl h) = absurd (not_both (Ok tt) _ h refl)
  read_password m kept login (inr h) = read_by m (as_password m) kept login (Ok tt) refl h refl

-- what a method is to show, to let in by what it proves
record Shows (opens : Opener) (checks : Checker) (Proves : List Taken → Taken → Type 0)
    (Keeps : List Taken → Login → LoginState → Type 0) (first : LoginClient) : Type 0
  where
    pub asks : (login : Login) (c : Challenge) → opens login (Ok c)
        → list_any lets_in (backend.Authentication c.request ∷ []) ≡ false
    pub begun : (ts : List Taken) (t : Taken) (before after : Standing) (front sent : List Backend)
        → t.said ≡ front ++ sent → Challenged opens before after sent
        → Keeps (ts ++ t ∷ []) (login_seen after.client) after.login
    pub proves : (ts : List Taken) (t : Taken) (text : List ℕ) (login : Login) (state : LoginState)
        → IsPasswordMessage t.message text → IsNamed first ts login → Keeps ts login state
        → checks text state.kept login (Ok tt) → Proves ts t
    pub still : (ts : List Taken) (more : Taken) (old new : Login) (was now : LoginState) → old ≡ new
        → now.kept ≡ was.kept → Keeps ts old was → Keeps (ts ++ more ∷ []) new now

module _ (opens : Opener) (checks : Checker) (P : LoginClient → Option Held → Type 0)
    (R : Option Known → ℤ → SecretKey → Option Known → Result (Option HandlePair) RegistryError → Type 0)
    (Proves : List Taken → Taken → Type 0) (Keeps : List Taken → Login → LoginState → Type 0)
    (first : LoginClient) (shows : Shows opens checks Proves Keeps first)
  where
    password_on : (ts : List Taken) (t : Taken) (m : Message) (h : Heard) (before after : Standing)
        (sent : List Backend) (answer : Answer) → IsKnown Proves Keeps first ts before.client before.login
        → t.message ≡ m → t.said ≡ sent → heard m ≡ h → PasswordOn opens checks P R h before after sent answer
        → Goes Proves Keeps first ts t after sent answer
    password_on ts t m (of.Startup s) before after sent answer k is said hears h = record {
      says = λ says. quiet_says sent
          (quiet_then (Opens s) (Challenges opens) (quiet_opens s) (quiet_challenges opens shows.asks) before
          after sent answer h) says;
      keeps = λ ok. let b = then_both (Opens s) (Challenges opens) before after sent answer h ok in
          let c = challenged opens b.0 after b.2 b.4 in
          known_begun Proves Keeps first ts t s before b.0 after k
          (is ∙ heard_startup m s hears) (opened s before b.0 b.1 (Ok tt) b.3 refl)
          (ap (λ (x : LoginClient). login_seen x) c.client)
          (ap (λ (l : LoginState). l.started) c.login ∙ still_started c.challenge.kept b.0.login)
          (ap (λ (x : LoginClient). x.state) c.client) (shows.begun ts t b.0 after b.1 b.2 (said ∙ b.5) c);
    }
    password_on ts t m (of.Password p) before after sent answer k is said hears h =
        let Q : Standing → Answer → Type 0 =
        λ s a. ChecksPassword checks p s.login.kept (login_seen s.client) a in
        let same = roots_checked Q P R before after sent answer h in
        elim (awaited_first Q P R before after sent answer h) [
          | inl none ↦ record { says = λ says. quiet_says sent none.0 says; keeps = λ ok. absurd (none.1 ok) }
          | inr on ↦
              let read = read_password checks p before.login.kept (login_seen before.client) on.1 in
              let proves : Proves ts t = shows.proves ts t read.0 (login_seen before.client) before.login
              (subst (λ (x : Message). IsPasswordMessage x read.0) (sym (is ∙ heard_password m p hears)) read.2)
              (k.named on.0) k.keeps read.1 in
              record {
                says = λ says. proves;
                keeps = λ ok. known_proven Proves Keeps first ts t before after k on.0 same proves
                    (shows.still ts t (login_seen before.client) (login_seen after.client) before.login
                    after.login (sym (ap (λ r. r.who) same)) (ap (λ r. r.kept) same) k.keeps);
              }
        ]
    password_on ts t m of.Other before after sent answer k is said hears h = record {
      says = λ says. quiet_says sent (nothing_said sent h.1) says;
      keeps = λ ok. known_passed Proves Keeps first ts t before after k h.0
          (λ more. shows.still ts t (login_seen before.client) (login_seen before.client) before.login
          before.login refl refl more);
    }

    password_means : (ts : List Taken) (t : Taken) (m : Message) (before after : Standing) (sent : List Backend)
        (answer : Answer) → IsKnown Proves Keeps first ts before.client before.login
        → t.stage.client ≡ before.client → t.stage.login ≡ before.login → t.message ≡ m → t.said ≡ sent
        → PasswordMeans opens checks P R m before after sent answer
        → Goes Proves Keeps first ts t after sent answer
    password_means ts t m before after sent (Ok done) k c l is said h =
        password_on ts t m (heard m) before after sent (Ok done) k is said refl h
    password_means ts t m before after sent (Err e) k c l is said h =
        let g = password_on ts t m (heard m) before h.0 sent (Err e) k is said refl h.1 in
        record { says = g.says; keeps = λ ok. absurd (not_both (Err e) e refl ok) }

pub never_ready : {A : Type 0} (client : LoginClient) → client.state ≢ ReadyForQuery
    → client.state ≡ ReadyForQuery → A
never_ready client not is = absurd (not is)

-- nothing but a match is taken
taken_where : (b : Bool) (e : PgWireError) (answer : Answer) → answer ≡ (if b then Ok tt else Err e)
    → answer ≡ Ok tt
    → b ≡ true
taken_where true e answer is ok = refl
taken_where false e answer is ok = absurd (not_both answer e is ok)

matched_text : (text kept : List ℕ) (login : Login) (answer : Answer) → answer ≡ compared text login kept
    → answer ≡ Ok tt → text ≡ kept
matched_text text kept login answer is ok = (bytes_eq-Decides text kept).0
    (taken_where (bytes_eq text kept) (wrong_password login) answer is ok)

-- ---- in clear text

abbrev pub NothingMore : List Taken → Login → LoginState → Type 0
NothingMore ts login state = Unit {0}

cleartext_asks : (login : Login) (c : Challenge) → OpensCleartext login (Ok c)
    → list_any lets_in (backend.Authentication c.request ∷ []) ≡ false
cleartext_asks login c is =
    let same : c ≡ cleartext_challenge = cc in
    ap (λ (x : Challenge). list_any lets_in (backend.Authentication x.request ∷ [])) same

-- the source gave a password, which is the message's
compared_to : (A : Login → Result Kept PgWireError → Type 0) (text : List ℕ) (login : Login)
    (given : Result Kept PgWireError) (answer : Answer) → A login given → ComparedTo text login given answer
    → answer ≡ Ok tt → (kept : Kept) × A login (Ok kept) × (text ≡ kept.password)
compared_to A text login (Err e) answer a h ok = absurd (not_both answer e h ok)
compared_to A text login (Ok kept) answer a h ok = (kept, a, matched_text text kept.password login answer h ok)

cleartext_shows : (A : Login → Result Kept PgWireError → Type 0) (begin : Stage)
    → Shows OpensCleartext (ChecksCleartext A) (ProvesCleartext A begin) NothingMore begin.client
cleartext_shows A begin = record {
  asks = cleartext_asks;
  begun = λ ts t before after front sent said c. tt;
  proves = λ ts t text login state sent named keeps h.
      let c = compared_to A text login h.0 (Ok tt) h.1 h.2 refl in
      record {
        login = login;
        kept = c.0;
        named = named;
        answered = c.1;
        proof = subst (IsPasswordMessage t.message) c.2 sent;
      };
  still = λ ts more old new was now same kept keeps. tt;
}

pub cleartext_lets_in : (A : Login → Result Kept PgWireError → Type 0) (P : LoginClient → Option Held → Type 0)
    (R : Option Known → ℤ → SecretKey → Option Known → Result (Option HandlePair) RegistryError → Type 0)
    → LetsInBy (CleartextMeans A P R) (ProvesCleartext A)
cleartext_lets_in A P R bound client login given course new way =
    let begin = begins_within bound client login in
    guarded (CleartextMeans A P R) (ProvesCleartext A begin) NothingMore client
    (λ ts more who state keeps. tt)
    (password_means OpensCleartext (ChecksCleartext A) P R (ProvesCleartext A begin) NothingMore client
    (cleartext_shows A begin)) bound login given course (record {
      fresh = λ off. refl;
      named = λ on. on_and_off login.started on new.1;
      ready = λ is. never_ready client new.0 is;
      keeps = tt;
    }) way

-- ---- under MD5

abbrev md5_asked : List ℕ → List ℕ → Challenge
md5_asked salt text = record { request = auth.MD5Password salt; kept = Some text }

module _ (A : Login → Result Kept PgWireError → Type 0) where
  -- a text that is kept was answered by the source, with a salt that the client was told
  KeepsText : List Taken → Login → LoginState → Type 0
  KeepsText ts who state = (text : List ℕ) → state.kept ≡ Some text → (kept : Kept) × (kept.password ≡ text)
      × IsChallenged A ts who kept

  text_stays : (ts : List Taken) (more : Taken) (who : Login) (state : LoginState) → KeepsText ts who state
      → KeepsText (ts ++ more ∷ []) who state
  unfolding KeepsText
  text_stays ts more who state keeps text is =
      let k = keeps text is in
      let c : IsChallenged A ts who k.0 = k.2 in (
        k.0,
        k.1,
        record {
          salt = c.salt;
          challenge = c.challenge;
          came = Contains-append_left ts (more ∷ [])
              c.challenge c.came;
          told = c.told;
          answered = c.answered;
          salted = c.salted;
        },
      )

  -- where nothing of what is kept changed
  text_still : (ts : List Taken) (more : Taken) (old new : Login) (was now : LoginState) → old ≡ new
      → now.kept ≡ was.kept → KeepsText ts old was → KeepsText (ts ++ more ∷ []) new now
  unfolding KeepsText
  text_still ts more old new was now who kept keeps text is = subst
      (λ (l : Login). (k : Kept) × (k.password ≡ text) × IsChallenged A (ts ++ more ∷ []) l k) who
      (text_stays ts more old was keeps text (sym kept ∙ is))

  -- what a source gave that a client is asked by
  record Gave (c : Challenge) (login : Login) : Type 0 where
    pub kept : Kept
    pub salt : List ℕ
    pub answered : A login (Ok kept)
    pub salted : kept.salt ≡ Some salt
    pub asked : c ≡ md5_asked salt kept.password

  gave_with : (kept : Kept) (own : Option (List ℕ)) (c : Challenge) (login : Login) → kept.salt ≡ own
      → Ok c ≡ md5_with_salt own kept.password → A login (Ok kept) → Gave c login
  gave_with kept None c login is h a = absurd cc
  gave_with kept (Some own) c login is h a =
      let same : c ≡ md5_asked own kept.password = cc in
      record { kept = kept; salt = own; answered = a; salted = is; asked = same }

  gave_by : (given : Result Kept PgWireError) (c : Challenge) (login : Login) → A login given
      → Ok c ≡ md5_challenge given → Gave c login
  gave_by (Err e) c login a h = absurd cc
  gave_by (Ok kept) c login a h = gave_with kept kept.salt c login refl h a

  gave : (c : Challenge) (login : Login) → OpensMd5 A login (Ok c) → Gave c login
  gave c login (inl h) = absurd cc
  gave c login (inr h) = gave_by h.0 c login h.1 h.2

  md5_asks : (login : Login) (c : Challenge) → OpensMd5 A login (Ok c)
      → list_any lets_in (backend.Authentication c.request ∷ []) ≡ false
  md5_asks login c o =
      ap (λ (x : Challenge). list_any lets_in (backend.Authentication x.request ∷ [])) (gave c login o).asked

  keeps_challenged : (ts : List Taken) (t : Taken) (before after : Standing) (front sent : List Backend)
      → t.said ≡ front ++ sent → Challenged (OpensMd5 A) before after sent
      → KeepsText (ts ++ t ∷ []) (login_seen after.client) after.login
  unfolding KeepsText
  keeps_challenged ts t before after front sent said s text is =
      let g = gave s.challenge (login_seen before.client) s.opened in
      let mine : after.login.kept ≡ Some g.kept.password = ap (λ (l : LoginState). l.kept) s.login
      ∙ ap (λ (x : Challenge). (with_kept x.kept before.login).kept) g.asked in
      let both : ◌≡◌ {A = Option (List ℕ)} (Some g.kept.password) (Some text) = sym mine ∙ is in
      let same : g.kept.password ≡ text = cc in
      let asked : sent ≡ md5_request g.salt ∷ [] = s.told
      ∙ ap (λ (x : Challenge). backend.Authentication x.request ∷ []) g.asked in (
        g.kept,
        same,
        record {
          salt = g.salt;
          challenge = t;
          came = Contains-push ts t;
          told = subst (λ (l : List Backend). Contains l (md5_request g.salt))
              (sym (said ∙ ap (λ (l : List Backend). front ++ l) asked)) (Contains-push front (md5_request g.salt));
          answered = subst (λ (c : LoginClient). A (login_seen c) (Ok g.kept)) (sym s.client) g.answered;
          salted = g.salted;
        },
      )

  matched_to : (text : List ℕ) (kept : Option (List ℕ)) (login : Login) (answer : Answer)
      → ChecksMd5 text kept login answer → answer ≡ Ok tt → kept ≡ Some text
  matched_to text None login answer h ok = absurd (not_both answer _ h ok)
  matched_to text (Some kept) login answer h ok = ap (λ (l : List ℕ). Some l)
      (sym (matched_text text kept login answer h ok))

  proves_md5 : (begin : Stage) (ts : List Taken) (t : Taken) (text : List ℕ) (login : Login) (state : LoginState)
      → IsPasswordMessage t.message text → IsNamed begin.client ts login → KeepsText ts login state
      → ChecksMd5 text state.kept login (Ok tt) → ProvesMd5 A begin ts t
  unfolding KeepsText
  proves_md5 begin ts t text login state sent named keeps h =
      let k = keeps text (matched_to text state.kept login (Ok tt) h refl) in
      record {
        login = login;
        kept = k.0;
        named = named;
        challenged = k.2;
        proof = subst (IsPasswordMessage t.message) (sym k.1) sent;
      }

  md5_shows : (begin : Stage)
      → Shows (OpensMd5 A) ChecksMd5 (ProvesMd5 A begin) KeepsText begin.client
  md5_shows begin = record {
    asks = md5_asks;
    begun = keeps_challenged;
    proves = proves_md5 begin;
    still = text_still;
  }

pub md5_lets_in : (A : Login → Result Kept PgWireError → Type 0) (P : LoginClient → Option Held → Type 0)
    (R : Option Known → ℤ → SecretKey → Option Known → Result (Option HandlePair) RegistryError → Type 0)
    → LetsInBy (Md5Means A P R) (ProvesMd5 A)
unfolding KeepsText
md5_lets_in A P R bound client login given course new way =
    let begin = begins_within bound client login in
    guarded (Md5Means A P R) (ProvesMd5 A begin) (KeepsText A) client (text_stays A)
    (password_means (OpensMd5 A) ChecksMd5 P R (ProvesMd5 A begin) (KeepsText A) client (md5_shows A begin))
    bound login given course (record {
      fresh = λ off. refl;
      named = λ on. on_and_off login.started on new.1;
      ready = λ is. never_ready client new.0 is;
      keeps = λ text is. let both : ◌≡◌ {A = Option (List ℕ)} None (Some text) = sym new.3 ∙ is in absurd cc;
    }) way
