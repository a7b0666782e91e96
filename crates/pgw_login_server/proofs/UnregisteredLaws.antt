-- A login that is registered nowhere stays so.
use Rattle.std.proofs.Common.{◌≡◌, inl, inr, ℕ, Bool, true, false, List, [], ◌∷◌, drop, Option, None, Some, Result, Ok, Err, refl, sym, ap, subst, ◌∙◌}
use Rattle.std.specs.Prelude.{is_some}
use Rattle.pgw_types.specs.declared.error.PgWireError.{PgWireError}
use Rattle.pgw_types.specs.declared.context.ProtocolVersion.{ProtocolVersion}
use Rattle.pgw_wire.specs.Pairs.{Held}
use Rattle.pgw_startup.specs.declared.startup.Startup.{Startup}
use Rattle.pgw_frontend.specs.declared.frontend.PgWireFrontendMessage.{PgWireFrontendMessage as Message}
use Rattle.pgw_frontend.specs.declared.frontend.PgWireFrontendMessage.TheVariants as frontend
use Rattle.pgw_backend.specs.declared.backend.PgWireBackendMessage.{PgWireBackendMessage as Backend}
use Rattle.pgw_registry.specs.Passes.{Known}
use Rattle.pgw_registry.specs.declared.error.RegistryError.{RegistryError}
use Rattle.pgw_registry.specs.declared.error.RegistryError.TheVariants as registry
use Rattle.pgw_machine.specs.Course.{Move, On, Ends, Course, Waits, Over}
use Rattle.pgw_machine.specs.Play.{Leads, waits, stops, breaks, ends, goes, course_behind}
use Rattle.pgw_login.specs.Client.{LoginClient}
use Rattle.pgw_login.specs.Login.{Login}
use Rattle.pgw_login.specs.Registered.{HandlePair}
use Rattle.pgw_login.specs.Acts.{Standing, standing_in_login, Answer, Act, Then, halts, goes as then_goes, LoginRefuses, LoginStays, OrNoMemory, AnswersLogin, Sets, Marks, Sends, StartsLogin, StartsFrom, StartsLoginAt, is_initial, LoginAwaits, AwaitsAt, awaits, OrFails}
use Rattle.pgw_login.specs.Finish.{Draws, Enrolls, EnrollsAt, Entered, AcceptsLogin, Introduces, Readies, login_ready, FinishesAuthentication, Finishes}
use Rattle.pgw_login.specs.Hearing.{heard}
use Rattle.pgw_login.specs.Opening.{Opens, BeginsLogin, Negotiates, LoginSettlesVersion, negotiation, Saves, offered_messages}
use Rattle.pgw_login.specs.Password.{Opener, Checker, with_kept, ChallengedBy, Challenges, PasswordOn, PasswordMeans}
use Rattle.pgw_login.specs.declared.password.Challenge.{Challenge}
use Rattle.pgw_login.specs.Noop.{IntroducesBy, NoopOn, NoopMeans}
use Rattle.pgw_login.specs.Provider.{default_provider}
use Rattle.pgw_login.specs.declared.handler.Heard.{Heard}
use Rattle.pgw_login.specs.declared.handler.Heard.TheVariants as of
use Rattle.pgw_login.specs.declared.state.LoginState.{LoginState}
use Rattle.pgw_login_server.specs.Server.{Stage, ServerEnding, answer_move, Handles, Steps, serving}
use Rattle.pgw_login_server.specs.Taken.{Acts}
use Rattle.pgw_login_server.specs.Unregistered.{Nowhere, login_at, StaysUnregistered}

-- what a login has of a registry
pub record Tied : Type 0 where
  pub registered : Option HandlePair
  pub pass : Option Known

abbrev pub tied : LoginState → Tied
tied s = record { registered = s.registered; pass = s.pass }

-- an act of a login that is registered nowhere ties it to none
abbrev pub Unties : Act → Type 0
Unties act = (before after : Standing) (sent : List Backend) (answer : Answer) → act before after sent answer
    → before.login.registered ≡ None → tied after.login ≡ tied before.login

stays : {before after : Standing} → after ≡ before → tied after.login ≡ tied before.login
stays same = ap (λ (x : Standing). tied x.login) same

pub unties_refuses : (e : PgWireError) → Unties (LoginRefuses e)
unties_refuses e before after sent answer h is = stays h.0

pub unties_passes : Unties LoginStays
unties_passes before after sent answer h is = stays h.0

pub unties_tells : (P : Standing → Answer → Type 0) → Unties (AnswersLogin P)
unties_tells P before after sent answer h is = stays h.0

pub unties_sets : (f : LoginClient → LoginClient) → Unties (Sets f)
unties_sets f before after sent answer h is = ap (λ (x : Standing). tied x.login) h.0

pub unties_marks : (f : LoginState → LoginState) → ((s : LoginState) → tied (f s) ≡ tied s) → Unties (Marks f)
unties_marks f same before after sent answer h is = ap (λ (x : Standing). tied x.login) h.0 ∙ same before.login

pub unties_sends : (due : List Backend) → Unties (Sends due)
unties_sends due before after sent (Ok done) h is = stays h.0
unties_sends due before after sent (Err e) h is = ap (λ (x : Standing). tied x.login) h.3

pub unties_memory : (act : Act) → Unties act → Unties (OrNoMemory act)
unties_memory act keeps before after sent answer (inl h) is = stays h.0
unties_memory act keeps before after sent answer (inr h) is = keeps before after sent answer h is

pub unties_then : (first next : Act) → Unties first → Unties next → Unties (Then first next)
unties_then first next a b before after sent answer (halts x y s e h) is = a x y s (Err e) h is
unties_then first next a b before after sent answer (then_goes x mid y front back r h k) is =
    let one = a x mid front (Ok tt) h is in
    b mid y back r k (ap (λ (t : Tied). t.registered) one ∙ is) ∙ one

-- ---- the startup message

starts_from : (b : Bool) → Unties (StartsFrom b)
starts_from true before after sent answer h is = ap (λ (x : Standing). tied x.login) h.0
starts_from false before after sent answer h is = stays h.0

starts_at : (b : Bool) → Unties (StartsLoginAt b)
starts_at true before after sent answer h is = stays h.0
starts_at false before after sent answer h is =
    starts_from (is_initial before.login.sasl) before after sent answer h is

settles : (r : Result (ProtocolVersion × Option Backend) PgWireError) → Unties (LoginSettlesVersion r)
settles (Err e) before after sent answer h is = stays h.0
settles (Ok (version, offered)) before after sent answer h is =
    unties_then (Sends (offered_messages offered)) (Sets _) (unties_sends (offered_messages offered))
    (unties_sets _) before after sent answer
    h is

unties_begins : (s : Startup) → Unties (BeginsLogin s)
unties_begins s =
    unties_then StartsLogin (Then (Negotiates s) (Saves s)) (λ before. starts_at before.login.started before)
    (unties_then (Negotiates s) (Saves s) (settles (negotiation s)) (unties_memory (Sets _) (unties_sets _)))

pub unties_opens : (s : Startup) → Unties (Opens s)
unties_opens s = unties_then (BeginsLogin s) (Sets _) (unties_begins s) (unties_sets _)

awaits_at : (b : Bool) → Unties (AwaitsAt b)
awaits_at true before after sent answer h is = stays h.0
awaits_at false before after sent answer h is = stays h.0

unties_awaits : Unties LoginAwaits
unties_awaits before = awaits_at (awaits before.login) before

-- ---- the end of a login

draws : Unties Draws
draws before after sent (Ok done) h is = ap (λ (x : Standing). tied x.login) h.1.3
draws before after sent (Err e) h is = ap (λ (x : Standing). tied x.login) h.1

entered : (got : Result (Option HandlePair) RegistryError) (pass : Option Known) (before after : Standing)
    (answer : Answer)
    → pass ≡ before.login.pass → got ≡ Ok None → Entered got pass before after answer
    → before.login.registered ≡ None
    → tied after.login ≡ tied before.login
entered (Ok pair) pass before after answer own same h is =
    let none : pair ≡ None = cc in
    ap (λ (x : Standing). tied x.login) h.0
    ∙ ap (λ (p : Option Known). record { registered = pair; pass = p }) own
    ∙ ap (λ (r : Option HandlePair). record { registered = r; pass = before.login.pass }) (none ∙ sym is)
entered (Err registry.Gone) pass before after answer own same h is = absurd h
entered (Err registry.Exhausted) pass before after answer own same h is = absurd cc
entered (Err registry.OutOfMemory) pass before after answer own same h is = absurd cc

enrolls_at : (b : Bool) → Unties (EnrollsAt b Nowhere)
enrolls_at true before after sent answer h is = stays h.0
enrolls_at false before after sent answer (none, (pass, got, how, into)) is = entered got pass before after answer
    how.0 how.1 into is

pub unties_accepts : Unties (AcceptsLogin Nowhere)
unties_accepts = unties_then Draws (Enrolls Nowhere) draws
    (λ before. enrolls_at (is_some before.login.registered) before)

module _ (P : LoginClient → Option Held → Type 0) where
  pub unties_introduces : Unties (Introduces P)
  unties_introduces before after sent answer (inl h) is = stays h.0
  unties_introduces before after sent answer (inr (parameters, given, h)) is =
      unties_sends _ before after sent answer
      h is

  pub unties_finishes : Unties (Finishes P Nowhere)
  unties_finishes =
      unties_then (AcceptsLogin Nowhere) _ unties_accepts
      (unties_then (FinishesAuthentication P) (Marks _)
      (unties_then (Introduces P) (Readies login_ready) unties_introduces
      (unties_then (Sends (login_ready ∷ [])) (Sets _) (unties_sends (login_ready ∷ [])) (unties_sets _)))
      (unties_marks _ (λ s. refl)))

-- ---- the handlers

pub unties_or_fails : (act : Act) → Unties act → Unties (OrFails act)
unties_or_fails act keeps before after sent (Ok done) h is = keeps before after sent (Ok done) h is
unties_or_fails act keeps before after sent (Err e) h is =
    ap (λ (x : Standing). tied x.login) h.2 ∙ keeps before h.0 sent (Err e) h.1 is

unties_kept : (kept : Option (List ℕ)) (s : LoginState) → tied (with_kept kept s) ≡ tied s
unties_kept None s = refl
unties_kept (Some text) s = refl

unties_challenged : (challenge : Result Challenge PgWireError) → Unties (ChallengedBy challenge)
unties_challenged (Err e) = unties_refuses e
unties_challenged (Ok c) = unties_then (Marks (with_kept c.kept)) (Sends _)
    (unties_marks (with_kept c.kept) (unties_kept c.kept)) (unties_sends _)

module _ (opens : Opener) (checks : Checker) (P : LoginClient → Option Held → Type 0) where
  password_on : (m : Heard) → Unties (PasswordOn opens checks P Nowhere m)
  password_on (of.Startup s) = unties_then (Opens s) (Challenges opens) (unties_opens s)
      (λ before after sent answer h is. unties_challenged h.0 before after sent answer h.2 is)
  password_on (of.Password m) =
      unties_then LoginAwaits _ unties_awaits (unties_then (AnswersLogin _) (Finishes P Nowhere) (unties_tells _)
      (unties_finishes P))
  password_on of.Other = unties_passes

noop_on : (m : Heard) → Unties (NoopOn (λ m. LoginStays) Nowhere m)
noop_on (of.Startup s) =
    unties_then (BeginsLogin s) _ (unties_begins s)
    (unties_then (AcceptsLogin Nowhere) _ unties_accepts
    (unties_then (IntroducesBy default_provider) _ (unties_introduces _)
    (unties_then LoginStays _ unties_passes
    (unties_then (Readies login_ready) (Marks _)
    (unties_then (Sends (login_ready ∷ [])) (Sets _) (unties_sends (login_ready ∷ []))
    (unties_sets _)) (unties_marks _ (λ s. refl))))))
noop_on (of.Password m) = unties_passes
noop_on of.Other = unties_passes

-- ---- a core

module _ (means : Acts) (keeps : (m : Message) → Unties (means m)) where
  MoveTied : Tied → Move Stage ServerEnding → Type 0
  MoveTied t (On stage out) = tied stage.login ≡ t
  MoveTied t (Ends ending out) = tied ending.stage.login ≡ t

  moved_tied : (answer : Answer) (to : Standing) (stage : Stage) (out : List ℕ) (t : Tied) → tied to.login ≡ t
      → MoveTied t (answer_move answer to stage out)
  unfolding MoveTied
  moved_tied (Ok done) to stage out t is = is
  moved_tied (Err e) to stage out t is = is

  handled_tied : (stage : Stage) (m : Message) (move : Move Stage ServerEnding) → Handles means stage m move
      → stage.login.registered ≡ None → MoveTied (tied stage.login) move
  handled_tied stage m move (to, sent, answer, out, h, put, same, calm) is =
      subst (MoveTied (tied stage.login)) (sym same)
      (moved_tied answer to stage out (tied stage.login)
      (keeps m (standing_in_login stage.client stage.login 0) to sent answer h is))

  step_tied : (stage : Stage) (m : Message) (move : Move Stage ServerEnding) → Steps means stage m move
      → stage.login.registered ≡ None → MoveTied (tied stage.login) move
  unfolding MoveTied
  step_tied stage (frontend.SslNegotiation n) move h is = subst (MoveTied (tied stage.login)) (sym h) refl
  step_tied stage (frontend.CancelRequest r) move h is = subst (MoveTied (tied stage.login)) (sym h) refl
  step_tied stage m move h is = handled_tied stage m move h is

  behind_tied : (out : List ℕ) (c : Course Stage ServerEnding) → login_at (course_behind out c) ≡ login_at c
  behind_tied out (Waits s o p) = refl
  behind_tied out (Over e o) = refl

  leads_tied : (stage : Stage) (bytes : List ℕ) (c : Course Stage ServerEnding) → stage.login.registered ≡ None
      → Leads (serving means) stage bytes c → tied (login_at c) ≡ tied stage.login
  unfolding MoveTied
  leads_tied stage bytes c is (waits s bs more) = refl
  leads_tied stage bytes c is (stops s bs why ending bad refuses) =
      ap (λ (x : ServerEnding). tied x.stage.login) refuses
  leads_tied stage bytes c is (breaks s bs ending b) = ap (λ (x : ServerEnding). tied x.stage.login) b
  leads_tied stage bytes c is (ends s bs m len ending out whole step) = step_tied s m (Ends ending out) step is
  leads_tied stage bytes c is (goes s next bs m len out c' whole step on) =
      let one = step_tied s m (On next out) step is in
      ap tied (behind_tied out c')
      ∙ leads_tied next (drop len bs) c' (ap (λ (t : Tied). t.registered) one ∙ is) on
      ∙ one

  pub stays_unregistered : StaysUnregistered means
  stays_unregistered begin given course is way =
      let t = leads_tied begin given course is way in
      (ap (λ (x : Tied). x.registered) t ∙ is, ap (λ (x : Tied). x.pass) t)

pub password_unties : (opens : Opener) (checks : Checker) (P : LoginClient → Option Held → Type 0)
    → StaysUnregistered (PasswordMeans opens checks P Nowhere)
password_unties opens checks P = stays_unregistered (PasswordMeans opens checks P Nowhere)
    (λ m. unties_or_fails _ (password_on opens checks P (heard m)))

pub noop_unties : StaysUnregistered (NoopMeans (λ m. LoginStays) Nowhere)
noop_unties =
    stays_unregistered (NoopMeans (λ m. LoginStays) Nowhere) (λ m. unties_or_fails _ (noop_on (heard m)))
