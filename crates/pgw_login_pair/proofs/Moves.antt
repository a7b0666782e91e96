-- A machine each of whose acts is one of another leads just where that one may lead.
use Rattle.std.proofs.Common.{◌≡◌, List, [], ℕ, ◌++◌, drop, None, refl, sym, ap, subst, ◌∙◌}
use Rattle.std.proofs.lemmas.List.{append-nil}
use Rattle.atomic_table.specs.Seated.{TableId}
use Rattle.pgw_frontend.specs.declared.frontend.PgWireFrontendMessage.{PgWireFrontendMessage as Frontend}
use Rattle.pgw_frontend.specs.declared.frontend.PgWireFrontendMessage.TheVariants as frontend
use Rattle.pgw_machine.specs.Course.{Move, On, Ends, Course, Waits, Over}
use Rattle.pgw_machine.specs.Play.{Leads, waits, stops, breaks, ends, goes, Continues}
use Rattle.pgw_backend.specs.declared.backend.PgWireBackendMessage.{PgWireBackendMessage as Backend}
use Rattle.pgw_login.specs.Acts.{Answer, Standing, standing_in_login}
use Rattle.pgw_login_server.specs.Server.{Stage, ServerEnding, Handles, Steps, serving}
use Rattle.pgw_login_server.specs.Stands.{IsAt}
use Rattle.pgw_login_server.specs.Taken.{Acts}
use Rattle.pgw_login_server.specs.declared.connection.ServerCore.{ServerCore}
use Rattle.pgw_login_pair.specs.declared.parties.PairInput.{PairInput}
use Rattle.pgw_login_sasl.specs.Sasl.{SaslMeans}
use Rattle.pgw_login_pair.specs.Server.{Means, methods, NoOauth, Provided, ScramAnswers, Unregistered}
use Rattle.pgw_login_pair.specs.Sides.{AreActs, IsFrom}
use Rattle.pgw_login_pair.specs.World.{first_stage}
use Rattle.pgw_login_pair.proofs.Unregistered.{leads_nowhere}

module _ (means others : Acts) (are : AreActs means others) where
  handles_as : (stage : Stage) (m : Frontend) (move : Move Stage ServerEnding) → Handles means stage m move
      → Handles others stage m move
  handles_as stage m move (to, sent, answer, out, h, put, same, calm) = (
    to,
    sent,
    answer,
    out,
    are m (standing_in_login stage.client stage.login 0) to sent answer h,
    put,
    same,
    calm,
  )

  steps_as : (stage : Stage) (m : Frontend) (move : Move Stage ServerEnding) → Steps means stage m move
      → Steps others stage m move
  steps_as stage (frontend.SslNegotiation n) move h = h
  steps_as stage (frontend.CancelRequest r) move h = h
  steps_as stage m move h = handles_as stage m move h

  pub leads_as : (stage : Stage) (bytes : List ℕ) (course : Course Stage ServerEnding)
      → Leads (serving means) stage bytes course → Leads (serving others) stage bytes course
  leads_as stage bytes course (waits s bs more) = waits s bs more
  leads_as stage bytes course (stops s bs why ending bad refuses) = stops s bs why ending bad refuses
  leads_as stage bytes course (breaks s bs ending b) = breaks s bs ending b
  leads_as stage bytes course (ends s bs m len ending out whole step) =
      ends s bs m len ending out whole (steps_as s m (Ends ending out) step)
  leads_as stage bytes course (goes s next bs m len out c whole step on) =
      goes s next bs m len out c whole (steps_as s m (On next out) step) (leads_as next (drop len bs) c on)

  pub continues_as : (course : Course Stage ServerEnding) (piece : List ℕ) (there : Course Stage ServerEnding)
      → Continues (serving means) course piece there → Continues (serving others) course piece there
  continues_as (Waits s out pending) piece there (c, leads, is) = (c, leads_as s (pending ++ piece) c leads, is)
  continues_as (Over e out) piece there is = is

-- ---- a core that is registered nowhere

nowhere_at : {H : Type 0} (input : PairInput) (core : ServerCore H) (generator : TableId) (given put : List ℕ)
    (course : Course Stage ServerEnding)
    → Leads (serving (Means input)) (first_stage generator input) given course → IsAt core put course
    → (core.login).registered ≡ None
nowhere_at input core generator given put (Waits s out pending) leads at =
    ap (λ (x : Stage). (x.login).registered) (sym at.1)
    ∙ leads_nowhere input (first_stage generator input) given (Waits s out pending) refl leads
nowhere_at input core generator given put (Over e out) leads at =
    ap (λ (x : Stage). (x.login).registered) (sym at.1)
    ∙ leads_nowhere input (first_stage generator input) given (Over e out) refl leads

pub nowhere : {H : Type 0} (input : PairInput) (core : ServerCore H) (generator : TableId) (means : Acts)
    → AreActs means (Means input) → IsFrom means (first_stage generator input) core
    → (core.login).registered ≡ None
nowhere input core generator means are (given, put, (course, leads, at)) =
    nowhere_at input core generator given put course
    (leads_as means (Means input) are (first_stage generator input) given course leads) at

-- ---- the handler's acts

-- SCRAM alone is offered
pub scram_alone : (input : PairInput) (m : Frontend) (before after : Standing) (sent : List Backend)
    (answer : Answer)
    → SaslMeans (methods input ++ []) (ScramAnswers input) NoOauth Provided Unregistered m before after sent
    answer
    → Means input m before after sent answer
scram_alone input m before after sent answer h =
    subst (λ (ms : List (List ℕ)). SaslMeans ms (ScramAnswers input) NoOauth Provided Unregistered m before after
    sent answer) (append-nil (methods input)) h
