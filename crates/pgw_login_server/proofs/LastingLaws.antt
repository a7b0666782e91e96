-- Handlers keep a finished login.
use Rattle.std.proofs.Common.{◌≡◌, inl, inr, Bool, true, false, List, [], ◌∷◌, Option, Result, Ok, Err, refl, sym, ap, subst, ◌∙◌, drop, ℕ}
use Rattle.pgw_types.specs.declared.error.PgWireError.{PgWireError}
use Rattle.pgw_wire.specs.Pairs.{Held}
use Rattle.std.specs.Prelude.{ℤ, is_some}
use Rattle.pgw_wire.specs.declared.secret_key.SecretKey.{SecretKey}
use Rattle.pgw_startup.specs.declared.startup.Startup.{Startup}
use Rattle.pgw_frontend.specs.declared.frontend.PgWireFrontendMessage.{PgWireFrontendMessage as Message}
use Rattle.pgw_frontend.specs.declared.frontend.PgWireFrontendMessage.TheVariants as frontend
use Rattle.pgw_backend.specs.declared.backend.PgWireBackendMessage.{PgWireBackendMessage as Backend}
use Rattle.pgw_registry.specs.Passes.{Known}
use Rattle.pgw_registry.specs.declared.error.RegistryError.{RegistryError}
use Rattle.pgw_registry.specs.declared.error.RegistryError.TheVariants as registry
use Rattle.pgw_machine.specs.Course.{Course, Waits, Over, Move, On, Ends}
use Rattle.pgw_machine.specs.Play.{Leads, waits, stops, breaks, ends, goes, course_behind}
use Rattle.pgw_login.specs.Client.{LoginClient, with_state}
use Rattle.pgw_login.specs.Login.{Login}
use Rattle.pgw_login.specs.Registered.{HandlePair}
use Rattle.pgw_login.specs.Acts.{Standing, standing_in_login, Answer, Then, halts, LoginRefuses, LoginStays, AnswersLogin, Sets, Marks, Sends, OrFails, OrNoMemory, StartsLogin, StartsLoginAt, LoginAwaits, AwaitsAt, awaits, with_sasl}
use Rattle.pgw_login.specs.Acts as acts
use Rattle.pgw_login.specs.Opening.{BeginsLogin, Opens, Negotiates, Saves}
use Rattle.pgw_login.specs.Finish.{Draws, Entered, Enrolls, EnrollsAt, AcceptsLogin, Introduces, introduction, login_ready, Readies, FinishesAuthentication, Finishes}
use Rattle.pgw_login.specs.Password.{Opener, Checker, Challenges, PasswordOn, PasswordMeans}
use Rattle.pgw_login.specs.declared.password.Challenge.{Challenge}
use Rattle.pgw_login.specs.Noop.{NoopOn, NoopMeans}
use Rattle.pgw_login.specs.Hearing.{heard}
use Rattle.pgw_login.specs.declared.handler.Heard.{Heard}
use Rattle.pgw_login.specs.declared.handler.Heard.TheVariants as of
use Rattle.pgw_login.specs.declared.client_info.PgWireConnectionState.TheVariants.{ReadyForQuery}
use Rattle.pgw_login.specs.declared.state.SASLState.TheVariants.{Finished}
use Rattle.pgw_login_server.specs.Lasting.{IsReady, KeepsReady, StaysReady}
use Rattle.pgw_login_server.specs.Server.{Stage, ServerEnding, stage_after, Handles, Steps, serving}

-- what answered is no refusal
pub no_error : (answer : Answer) (e : PgWireError) → answer ≡ Err e → answer ≡ Ok tt → ⊥
no_error answer e is ok = let both = sym is ∙ ok in absurd cc

-- ---- acts that keep that a login has begun, that end with a client that may ask, and that no begun login does

Keeps : (Standing → Standing → List Backend → Answer → Type 0) → Type 0
Keeps act =
    (before stage_after : Standing) (sent : List Backend) (answer : Answer) → act before stage_after sent answer
    → answer ≡ Ok tt → before.login.started ≡ true → stage_after.login.started ≡ true

Readied : (Standing → Standing → List Backend → Answer → Type 0) → Type 0
Readied act =
    (before stage_after : Standing) (sent : List Backend) (answer : Answer) → act before stage_after sent answer
    → answer ≡ Ok tt → stage_after.client.state ≡ ReadyForQuery

Never : (Standing → Standing → List Backend → Answer → Type 0) → Type 0
Never act =
    (before stage_after : Standing) (sent : List Backend) (answer : Answer) → act before stage_after sent answer
    → answer ≡ Ok tt → before.login.started ≡ true → ⊥

keeps_then : (first next : Standing → Standing → List Backend → Answer → Type 0) → Keeps first → Keeps next
    → Keeps (Then first next)
unfolding Keeps
keeps_then first next hf hn before stage_after sent answer (halts b a s e h) ok on =
    absurd (no_error (Err e) e refl ok)
keeps_then first next hf hn before stage_after sent answer (acts.goes b mid a front back r x y) ok on =
    hn mid a back r y ok (hf b mid front (Ok tt) x refl on)

never_then : (first next : Standing → Standing → List Backend → Answer → Type 0) → Never first
    → Never (Then first next)
unfolding Never
never_then first next hf before stage_after sent answer (halts b a s e h) ok on = no_error (Err e) e refl ok
never_then first next hf before stage_after sent answer (acts.goes b mid a front back r x y) ok on =
    hf b mid front (Ok tt) x refl on

readied_then : (first next : Standing → Standing → List Backend → Answer → Type 0) → Readied next
    → Readied (Then first next)
unfolding Readied
readied_then first next hn before stage_after sent answer (halts b a s e h) ok =
    absurd (no_error (Err e) e refl ok)
readied_then first next hn before stage_after sent answer (acts.goes b mid a front back r x y) ok =
    hn mid a back r y ok

-- ---- the acts

keeps_awaits_at : (b : Bool) → Keeps (AwaitsAt b)
unfolding Keeps
keeps_awaits_at true before stage_after sent answer h ok on = ap (λ s. s.login.started) h.0 ∙ on
keeps_awaits_at false before stage_after sent answer h ok on = absurd (no_error answer _ h.2 ok)

keeps_awaits : Keeps LoginAwaits
unfolding Keeps
keeps_awaits before stage_after sent answer h ok on =
    keeps_awaits_at (awaits before.login) before stage_after sent answer h ok on

keeps_tells : (P : Standing → Answer → Type 0) → Keeps (AnswersLogin P)
unfolding Keeps
keeps_tells P before stage_after sent answer h ok on = ap (λ s. s.login.started) h.0 ∙ on

keeps_sets : (f : LoginClient → LoginClient) → Keeps (Sets f)
unfolding Keeps
keeps_sets f before stage_after sent answer h ok on = ap (λ s. s.login.started) h.0 ∙ on

keeps_finished : Keeps (Marks (with_sasl Finished))
unfolding Keeps
keeps_finished before stage_after sent answer h ok on = ap (λ s. s.login.started) h.0 ∙ on

keeps_sends : (due : List Backend) → Keeps (Sends due)
unfolding Keeps
keeps_sends due before stage_after sent (Ok done) h ok on = ap (λ s. s.login.started) h.0 ∙ on
keeps_sends due before stage_after sent (Err e) h ok on = absurd (no_error (Err e) e refl ok)

keeps_draws : Keeps Draws
unfolding Keeps
keeps_draws before stage_after sent (Ok done) h ok on = ap (λ s. s.login.started) h.1.3 ∙ on
keeps_draws before stage_after sent (Err e) h ok on = absurd (no_error (Err e) e refl ok)

entered_keeps : (got : Result (Option HandlePair) RegistryError) (pass : Option Known)
    (before stage_after : Standing) (answer : Answer)
    → Entered got pass before stage_after answer → answer ≡ Ok tt → before.login.started ≡ true
    → stage_after.login.started ≡ true
entered_keeps (Ok pair) pass before stage_after answer h ok on = ap (λ s. s.login.started) h.0 ∙ on
entered_keeps (Err registry.Gone) pass before stage_after answer h ok on = absurd h
entered_keeps (Err registry.Exhausted) pass before stage_after answer h ok on = absurd (no_error answer _ h.1 ok)
entered_keeps (Err registry.OutOfMemory) pass before stage_after answer h ok on =
    absurd (no_error answer _ h.1 ok)

module _ (R : Option Known → ℤ → SecretKey → Option Known → Result (Option HandlePair) RegistryError → Type 0)
  where
    keeps_enrolls_at : (b : Bool) → Keeps (EnrollsAt b R)
    unfolding Keeps
    keeps_enrolls_at true before stage_after sent answer h ok on = ap (λ s. s.login.started) h.0 ∙ on
    keeps_enrolls_at false before stage_after sent answer h ok on =
        entered_keeps h.1.1 h.1.0 before stage_after answer h.1.3 ok on

    keeps_enrolls : Keeps (Enrolls R)
    unfolding Keeps
    keeps_enrolls before stage_after sent answer h ok on =
        keeps_enrolls_at (is_some before.login.registered) before stage_after sent answer h ok on

    keeps_accepts : Keeps (AcceptsLogin R)
    keeps_accepts = keeps_then Draws (Enrolls R) keeps_draws keeps_enrolls

module _ (P : LoginClient → Option Held → Type 0) where
  keeps_introduces : Keeps (Introduces P)
  unfolding Keeps
  keeps_introduces before stage_after sent answer (inl h) ok on = absurd (no_error answer _ h.2 ok)
  keeps_introduces before stage_after sent answer (inr h) ok on =
      keeps_sends (introduction before.client h.0) before stage_after sent answer h.2 ok on

keeps_readies : (m : Backend) → Keeps (Readies m)
keeps_readies m =
    keeps_then (Sends (m ∷ [])) (Sets (with_state ReadyForQuery)) (keeps_sends (m ∷ []))
    (keeps_sets (with_state ReadyForQuery))

readied_sets : Readied (Sets (with_state ReadyForQuery))
unfolding Readied
readied_sets before stage_after sent answer h ok = ap (λ s. s.client.state) h.0

readied_readies : (m : Backend) → Readied (Readies m)
readied_readies m = readied_then (Sends (m ∷ [])) (Sets (with_state ReadyForQuery)) readied_sets

-- the mark behind it changes no client
readied_marked : (first : Standing → Standing → List Backend → Answer → Type 0) → Readied first
    → Readied (Then first (Marks (with_sasl Finished)))
unfolding Readied
readied_marked first hf before stage_after sent answer (halts b a s e h) ok = absurd (no_error (Err e) e refl ok)
readied_marked first hf before stage_after sent answer (acts.goes b mid a front back r x y) ok =
    ap (λ s. s.client.state) y.0 ∙ hf b mid front (Ok tt) x refl

module _ (P : LoginClient → Option Held → Type 0)
    (R : Option Known → ℤ → SecretKey → Option Known → Result (Option HandlePair) RegistryError → Type 0) where
  keeps_finishes : Keeps (Finishes P R)
  keeps_finishes =
      keeps_then (AcceptsLogin R) (Then (FinishesAuthentication P) (Marks (with_sasl Finished))) (keeps_accepts R)
      (keeps_then (FinishesAuthentication P) (Marks (with_sasl Finished))
      (keeps_then (Introduces P) (Readies login_ready) (keeps_introduces P) (keeps_readies login_ready))
      keeps_finished)

  readied_finishes : Readied (Finishes P R)
  readied_finishes = readied_then (AcceptsLogin R) (Then (FinishesAuthentication P) (Marks (with_sasl Finished)))
      (readied_marked (FinishesAuthentication P)
      (readied_then (Introduces P) (Readies login_ready) (readied_readies login_ready)))

never_starts_at : (b : Bool) (before stage_after : Standing) (sent : List Backend) (answer : Answer)
    → StartsLoginAt b before stage_after sent answer → answer ≡ Ok tt → b ≡ true → ⊥
never_starts_at true before stage_after sent answer h ok on = no_error answer _ h.2 ok
never_starts_at false before stage_after sent answer h ok on = absurd cc

never_begins : (s : Startup) → Never (BeginsLogin s)
unfolding Never
never_begins s =
    never_then StartsLogin (Then (Negotiates s) (Saves s))
    (λ before stage_after sent answer h ok on. never_starts_at before.login.started before stage_after sent
    answer h ok on)

-- ---- the handlers

-- a password that is taken finishes the login anew
finishes_again : (first : Standing → Standing → List Backend → Answer → Type 0)
    (check : Standing → Answer → Type 0) (P : LoginClient → Option Held → Type 0)
    (R : Option Known → ℤ → SecretKey → Option Known → Result (Option HandlePair) RegistryError → Type 0)
    (before stage_after : Standing) (sent : List Backend)
    → Keeps first → IsReady before.client before.login
    → Then first (Then (AnswersLogin check) (Finishes P R)) before stage_after sent (Ok tt)
    → IsReady stage_after.client stage_after.login
unfolding Keeps Readied
finishes_again first check P R before stage_after sent hf is h = (
  readied_then first (Then (AnswersLogin check) (Finishes P R))
      (readied_then (AnswersLogin check) (Finishes P R) (readied_finishes P R)) before stage_after sent (Ok tt) h
      refl,
  keeps_then first (Then (AnswersLogin check) (Finishes P R)) hf
      (keeps_then (AnswersLogin check) (Finishes P R) (keeps_tells check) (keeps_finishes P R)) before stage_after
      sent (Ok tt) h refl is.1,
)

pub passed : (before stage_after : Standing) (sent : List Backend) → IsReady before.client before.login
    → LoginStays before stage_after sent (Ok tt) → IsReady stage_after.client stage_after.login
passed before stage_after sent is h = (ap (λ s. s.client.state) h.0 ∙ is.0, ap (λ s. s.login.started) h.0 ∙ is.1)

-- as passed, in words that other handlers can cite
pub finishes_ready : (P : LoginClient → Option Held → Type 0)
    (R : Option Known → ℤ → SecretKey → Option Known → Result (Option HandlePair) RegistryError → Type 0)
    (before stage_after : Standing) (sent : List Backend) (answer : Answer)
    → Finishes P R before stage_after sent answer → answer ≡ Ok tt → IsReady before.client before.login
    → IsReady stage_after.client stage_after.login
unfolding Keeps Readied
finishes_ready P R before stage_after sent answer h ok is = (
  readied_finishes P R before stage_after sent answer h ok,
  keeps_finishes P R before stage_after sent answer h
      ok is.1,
)

pub opens_once : (s : Startup) (next : Standing → Standing → List Backend → Answer → Type 0)
    (before stage_after : Standing) (sent : List Backend)
    → Then (Opens s) next before stage_after sent (Ok tt) → before.login.started ≡ true → ⊥
unfolding Never
opens_once s next before stage_after sent h on =
    never_then (Opens s) next (never_then (BeginsLogin s) _ (never_begins s)) before stage_after sent (Ok tt) h
    refl on

module _ (opens : Opener) (checks : Checker) (P : LoginClient → Option Held → Type 0)
    (R : Option Known → ℤ → SecretKey → Option Known → Result (Option HandlePair) RegistryError → Type 0) where
  password_on : (m : Heard) (before stage_after : Standing) (sent : List Backend)
      → IsReady before.client before.login → PasswordOn opens checks P R m before stage_after sent (Ok tt)
      → IsReady stage_after.client stage_after.login
  unfolding Never
  password_on (of.Startup s) before stage_after sent is h =
      absurd (never_then (Opens s) (Challenges opens) (never_then (BeginsLogin s) _ (never_begins s)) before
      stage_after sent (Ok tt) h refl is.1)
  password_on (of.Password m) before stage_after sent is h =
      finishes_again LoginAwaits _ P R before stage_after sent keeps_awaits is h
  password_on of.Other before stage_after sent is h = passed before stage_after sent is h

  pub password_keeps : KeepsReady (PasswordMeans opens checks P R)
  password_keeps m before stage_after sent is h = password_on (heard m) before stage_after sent is h

module _ (posts : Message → Standing → Standing → List Backend → Answer → Type 0)
    (R : Option Known → ℤ → SecretKey → Option Known → Result (Option HandlePair) RegistryError → Type 0) where
  noop_on : (m : Heard) (before stage_after : Standing) (sent : List Backend) → IsReady before.client before.login
      → NoopOn posts R m before stage_after sent (Ok tt) → IsReady stage_after.client stage_after.login
  unfolding Never
  noop_on (of.Startup s) before stage_after sent is h =
      absurd (never_then (BeginsLogin s) _ (never_begins s) before stage_after sent (Ok tt) h refl is.1)
  noop_on (of.Password m) before stage_after sent is h = passed before stage_after sent is h
  noop_on of.Other before stage_after sent is h = passed before stage_after sent is h

  pub noop_keeps : KeepsReady (NoopMeans posts R)
  noop_keeps m before stage_after sent is h = noop_on (heard m) before stage_after sent is h

-- ---- a core

abbrev stage_in : Move Stage ServerEnding → Stage → Stage
stage_in (On stage out) other = stage
stage_in (Ends ending out) other = other

module _ (means : Message → Standing → Standing → List Backend → Answer → Type 0) (keeps : KeepsReady means) where
  handled_ready : (from to : Stage) (m : Message) (out : List ℕ) → IsReady from.client from.login
      → Handles means from m (On to out) → IsReady to.client to.login
  handled_ready from to m out is (s, sent, Ok done, put, h, told, move, calm) =
      let same : to ≡ stage_after s true from = ap (λ k. stage_in k to) move in
      subst (λ (k : Stage). IsReady k.client k.login) (sym same)
      (keeps m (standing_in_login from.client from.login 0) s sent is h)
  handled_ready from to m out is (s, sent, Err e, put, h, told, move, calm) = absurd cc

  step_ready : (from to : Stage) (m : Message) (out : List ℕ) → IsReady from.client from.login
      → Steps means from m (On to out) → IsReady to.client to.login
  step_ready from to (frontend.SslNegotiation n) out is h =
      let same : to ≡ from = ap (λ k. stage_in k to) h in
      subst (λ (k : Stage). IsReady k.client k.login) (sym same) is
  step_ready from to (frontend.CancelRequest r) out is h = absurd cc
  step_ready from to m out is h = handled_ready from to m out is h

  behind_ready : (out : List ℕ) (course : Course Stage ServerEnding) → StaysReady course
      → StaysReady (course_behind out course)
  behind_ready out (Waits stage sent pending) h = h
  behind_ready out (Over ending sent) h = tt

  pub stays_ready : (from : Stage) (bytes : List ℕ) (course : Course Stage ServerEnding)
      → IsReady from.client from.login → Leads (serving means) from bytes course → StaysReady course
  stays_ready from bytes course is (waits s bs more) = is
  stays_ready from bytes course is (stops s bs why ending read refuses) = tt
  stays_ready from bytes course is (breaks s bs ending b) = tt
  stays_ready from bytes course is (ends s bs m len ending out read step) = tt
  stays_ready from bytes course is (goes s next bs m len out c read step rest) =
      behind_ready out c (stays_ready next (drop len bs) c (step_ready s next m out is step) rest)
