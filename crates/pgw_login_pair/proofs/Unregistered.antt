-- The server's connection is registered nowhere.
use Rattle.std.proofs.Common.{◌≡◌, inl, inr, ℕ, Bool, true, false, List, [], ◌∷◌, drop, Option, None, Result, Ok, Err, refl, sym, ap, subst, ◌∙◌}
use Rattle.std.specs.Prelude.{is_some}
use Rattle.pgw_types.specs.declared.error.PgWireError.{PgWireError}
use Rattle.pgw_types.specs.declared.context.ProtocolVersion.{ProtocolVersion}
use Rattle.pgw_startup.specs.declared.startup.Startup.{Startup}
use Rattle.pgw_backend.specs.declared.backend.PgWireBackendMessage.{PgWireBackendMessage as Backend}
use Rattle.pgw_frontend.specs.declared.frontend.PgWireFrontendMessage.{PgWireFrontendMessage as Frontend}
use Rattle.pgw_frontend.specs.declared.frontend.PgWireFrontendMessage.TheVariants as frontend
use Rattle.pgw_machine.specs.Course.{Move, On, Ends, Course, Waits, Over}
use Rattle.pgw_machine.specs.Play.{Leads, waits, stops, breaks, ends, goes, course_behind}
use Rattle.pgw_registry.specs.Passes.{Known}
use Rattle.pgw_registry.specs.declared.error.RegistryError.{RegistryError}
use Rattle.pgw_registry.specs.declared.error.RegistryError.TheVariants as registry
use Rattle.pgw_login.specs.Client.{LoginClient}
use Rattle.pgw_login.specs.Registered.{HandlePair}
use Rattle.pgw_login.specs.Acts.{Standing, standing_in_login, Answer, Then, halts, goes as then_goes, LoginRefuses, LoginStays, OrNoMemory, Sets, Marks, Sends, StartsLogin, StartsFrom, StartsLoginAt, is_initial, with_sasl}
use Rattle.pgw_login.specs.Finish.{Draws, Enrolls, EnrollsAt, Entered, AcceptsLogin, Introduces, Readies, login_ready, FinishesAuthentication, Finishes}
use Rattle.pgw_login.specs.Hearing.{heard}
use Rattle.pgw_login.specs.Opening.{Opens, BeginsLogin, Negotiates, LoginSettlesVersion, negotiation, Saves, offered_messages}
use Rattle.pgw_login.specs.declared.handler.Heard.{Heard}
use Rattle.pgw_login.specs.declared.handler.Heard.TheVariants as of
use Rattle.pgw_login.specs.declared.state.LoginState.{LoginState}
use Rattle.pgw_login_sasl.specs.Replies.{Reply}
use Rattle.pgw_login_sasl.specs.Sasl.{Offers, SaslOn, RespondsBy, EndsSaslLogin as EndsSasl, sasl_messages as replied}
use Rattle.pgw_login_sasl.specs.Turns.{is_finished}
use Rattle.pgw_login_server.specs.Server.{Stage, ServerEnding, Handles, Steps, stage_after, answer_move, serving}
use Rattle.pgw_login_pair.specs.declared.parties.PairInput.{PairInput}
use Rattle.pgw_login_pair.specs.Server.{Means, methods, ScramAnswers, NoOauth, Provided, Unregistered}
use Rattle.pgw_login_pair.proofs.Acts.{Act}

abbrev pub IsNowhere : LoginState → Type 0
IsNowhere login = login.registered ≡ None

-- an act of a login that is registered nowhere leaves it so
abbrev Keeps : Act → Type 0
Keeps act =
    (before stage_after : Standing) (sent : List Backend) (answer : Answer) → act before stage_after sent answer
    → IsNowhere before.login → IsNowhere stage_after.login

stays : {before stage_after : Standing} → stage_after ≡ before → IsNowhere before.login
    → IsNowhere stage_after.login
stays same is = ap (λ (x : Standing). (x.login).registered) same ∙ is

refuses_keeps : (e : PgWireError) → Keeps (LoginRefuses e)
refuses_keeps e before stage_after sent answer h is = stays h.0 is

passes_keeps : Keeps LoginStays
passes_keeps before stage_after sent answer h is = stays h.0 is

sets_keeps : (f : LoginClient → LoginClient) → Keeps (Sets f)
sets_keeps f before stage_after sent answer h is = ap (λ (x : Standing). (x.login).registered) h.0 ∙ is

marks_keeps : (f : LoginState → LoginState) → ((s : LoginState) → (f s).registered ≡ s.registered)
    → Keeps (Marks f)
marks_keeps f same before stage_after sent answer h is =
    ap (λ (x : Standing). (x.login).registered) h.0 ∙ same before.login ∙ is

sends_keeps : (due : List Backend) → Keeps (Sends due)
sends_keeps due before stage_after sent (Ok done) h is = stays h.0 is
sends_keeps due before stage_after sent (Err e) h is = ap (λ (x : Standing). (x.login).registered) h.3 ∙ is

or_memory_keeps : (act : Act) → Keeps act → Keeps (OrNoMemory act)
or_memory_keeps act keeps before stage_after sent answer (inl h) is = stays h.0 is
or_memory_keeps act keeps before stage_after sent answer (inr h) is = keeps before stage_after sent answer h is

then_keeps : (first next : Act) → Keeps first → Keeps next → Keeps (Then first next)
then_keeps first next a b before stage_after sent answer (halts x y s e h) is = a x y s (Err e) h is
then_keeps first next a b before stage_after sent answer (then_goes x mid y front back r h k) is =
    b mid y back r k (a x mid front (Ok tt) h is)

-- ---- the startup message

starts_from_keeps : (b : Bool) → Keeps (StartsFrom b)
starts_from_keeps true before stage_after sent answer h is = ap (λ (x : Standing). (x.login).registered) h.0 ∙ is
starts_from_keeps false before stage_after sent answer h is = stays h.0 is

starts_at_keeps : (b : Bool) → Keeps (StartsLoginAt b)
starts_at_keeps true before stage_after sent answer h is = stays h.0 is
starts_at_keeps false before stage_after sent answer h is =
    starts_from_keeps (is_initial (before.login).sasl) before stage_after sent answer h is

settles_keeps : (r : Result (ProtocolVersion × Option Backend) PgWireError) → Keeps (LoginSettlesVersion r)
settles_keeps (Err e) before stage_after sent answer h is = stays h.0 is
settles_keeps (Ok (version, offered)) before stage_after sent answer h is =
    then_keeps (Sends (offered_messages offered)) (Sets _) (sends_keeps (offered_messages offered)) (sets_keeps _)
    before stage_after sent answer h is

opens_keeps : (s : Startup) → Keeps (Opens s)
opens_keeps s = then_keeps (BeginsLogin s) (Sets _)
    (then_keeps StartsLogin (Then (Negotiates s) (Saves s))
    (λ before. starts_at_keeps (before.login).started before)
    (then_keeps (Negotiates s) (Saves s) (settles_keeps (negotiation s))
    (or_memory_keeps (Sets _) (sets_keeps _))))
    (sets_keeps _)

-- ---- the end of a login

draws_keeps : Keeps Draws
draws_keeps before stage_after sent (Ok done) h is = ap (λ (x : Standing). (x.login).registered) h.1.3 ∙ is
draws_keeps before stage_after sent (Err e) h is = ap (λ (x : Standing). (x.login).registered) h.1 ∙ is

entered_keeps : (got : Result (Option HandlePair) RegistryError) (pass : Option Known)
    (before stage_after : Standing) (answer : Answer)
    → got ≡ Ok None → Entered got pass before stage_after answer → IsNowhere stage_after.login
entered_keeps (Ok pair) pass before stage_after answer same h =
    ap (λ (x : Standing). (x.login).registered) h.0 ∙ pair_is same
  where
    pair_is : {p q : Option HandlePair} → ◌≡◌ {A = Result (Option HandlePair) RegistryError} (Ok p) (Ok q) → p ≡ q
    pair_is e = cc
entered_keeps (Err registry.Gone) pass before stage_after answer same h = absurd h
entered_keeps (Err registry.Exhausted) pass before stage_after answer same h = absurd cc
entered_keeps (Err registry.OutOfMemory) pass before stage_after answer same h = absurd cc

enrolls_keeps : (b : Bool) → Keeps (EnrollsAt b Unregistered)
enrolls_keeps true before stage_after sent answer h is = stays h.0 is
enrolls_keeps false before stage_after sent answer (none, (pass, got, how, entered)) is =
    entered_keeps got pass before stage_after answer how.1 entered

accepts_keeps : Keeps (AcceptsLogin Unregistered)
accepts_keeps =
    then_keeps Draws (Enrolls Unregistered) draws_keeps
    (λ before. enrolls_keeps (is_some (before.login).registered) before)

introduces_keeps : Keeps (Introduces Provided)
introduces_keeps before stage_after sent answer (inl h) is = stays h.0 is
introduces_keeps before stage_after sent answer (inr (parameters, given, h)) is =
    sends_keeps _ before stage_after sent answer h is

finishes_keeps : Keeps (Finishes Provided Unregistered)
finishes_keeps =
    then_keeps (AcceptsLogin Unregistered) _ accepts_keeps
    (then_keeps (FinishesAuthentication Provided) (Marks _)
    (then_keeps (Introduces Provided) (Readies login_ready) introduces_keeps
    (then_keeps (Sends (login_ready ∷ [])) (Sets _) (sends_keeps (login_ready ∷ [])) (sets_keeps _)))
    (marks_keeps _ (λ s. refl)))

-- ---- a password message

ends_keeps : (b : Bool) → Keeps (EndsSasl Provided Unregistered b)
ends_keeps false = passes_keeps
ends_keeps true = finishes_keeps

responds_keeps : (reply : Reply) → Keeps (RespondsBy Provided Unregistered reply)
responds_keeps (Err e) = refuses_keeps e
responds_keeps (Ok (reply, next)) =
    then_keeps (Sends (replied reply)) _ (sends_keeps (replied reply))
    (then_keeps (Marks (with_sasl next)) _ (marks_keeps (with_sasl next) (λ s. refl))
    (ends_keeps (is_finished next)))

module _ (input : PairInput) where
  hears_keeps : (m : Heard) → Keeps (SaslOn (methods input) (ScramAnswers input) NoOauth Provided Unregistered m)
  hears_keeps (of.Startup s) =
      then_keeps (Opens s) (Offers (methods input)) (opens_keeps s) (or_memory_keeps (Sends _) (sends_keeps _))
  hears_keeps (of.Password m) = λ before now sent answer h is. responds_keeps h.0 before now sent answer h.2 is
  hears_keeps of.Other = passes_keeps

  means_keeps : (m : Frontend) → Keeps (Means input m)
  means_keeps m before stage_after sent (Ok done) h is =
      hears_keeps (heard m) before stage_after sent (Ok done) h is
  means_keeps m before stage_after sent (Err e) h is =
      ap (λ (x : Standing). (x.login).registered) h.2 ∙ hears_keeps (heard m) before h.0 sent (Err e) h.1 is

  -- ---- a core

  abbrev IsNowhereAt : Course Stage ServerEnding → Type 0
  IsNowhereAt (Waits stage out pending) = IsNowhere stage.login
  IsNowhereAt (Over ending out) = IsNowhere (ending.stage).login

  move_nowhere : Move Stage ServerEnding → Type 0
  move_nowhere (On stage out) = IsNowhere stage.login
  move_nowhere (Ends ending out) = IsNowhere (ending.stage).login

  moved_nowhere : (answer : Answer) (to : Standing) (stage : Stage) (out : List ℕ) → IsNowhere to.login
      → move_nowhere (answer_move answer to stage out)
  unfolding move_nowhere
  moved_nowhere (Ok done) to stage out is = is
  moved_nowhere (Err e) to stage out is = is

  handled_nowhere : (stage : Stage) (m : Frontend) (move : Move Stage ServerEnding)
      → Handles (Means input) stage m move → IsNowhere stage.login → move_nowhere move
  handled_nowhere stage m move (to, sent, answer, out, h, put, same, calm) is =
      subst move_nowhere (sym same)
      (moved_nowhere answer to stage out
      (means_keeps m (standing_in_login stage.client stage.login 0) to sent answer h is))

  step_nowhere : (stage : Stage) (m : Frontend) (move : Move Stage ServerEnding)
      → Steps (Means input) stage m move → IsNowhere stage.login → move_nowhere move
  unfolding move_nowhere
  step_nowhere stage (frontend.SslNegotiation n) move h is = subst move_nowhere (sym h) is
  step_nowhere stage (frontend.CancelRequest r) move h is = subst move_nowhere (sym h) is
  step_nowhere stage m move h is = handled_nowhere stage m move h is

  behind_nowhere : (out : List ℕ) (c : Course Stage ServerEnding) → IsNowhereAt c
      → IsNowhereAt (course_behind out c)
  behind_nowhere out (Waits s o p) is = is
  behind_nowhere out (Over e o) is = is

  pub leads_nowhere : (stage : Stage) (bytes : List ℕ) (c : Course Stage ServerEnding) → IsNowhere stage.login
      → Leads (serving (Means input)) stage bytes c → IsNowhereAt c
  unfolding move_nowhere
  leads_nowhere stage bytes c is (waits s bs more) = is
  leads_nowhere stage bytes c is (stops s bs why ending bad refuses) =
      ap (λ (x : ServerEnding). ((x.stage).login).registered) refuses ∙ is
  leads_nowhere stage bytes c is (breaks s bs ending b) =
      ap (λ (x : ServerEnding). ((x.stage).login).registered) b ∙ is
  leads_nowhere stage bytes c is (ends s bs m len ending out whole step) =
      step_nowhere s m (Ends ending out) step is
  leads_nowhere stage bytes c is (goes s next bs m len out c' whole step on) =
      behind_nowhere out c' (leads_nowhere next (drop len bs) c' (step_nowhere s m (On next out) step is) on)
