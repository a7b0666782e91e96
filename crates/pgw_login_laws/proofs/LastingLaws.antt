-- The handler for SASL keeps a finished login.
use Rattle.std.proofs.Common.{◌≡◌, Bool, true, false, List, Option, Result, Ok, Err, refl, ap, ◌∙◌, ℕ}
use Rattle.std.specs.Prelude.{ℤ}
use Rattle.pgw_wire.specs.Pairs.{Held}
use Rattle.pgw_wire.specs.declared.secret_key.SecretKey.{SecretKey}
use Rattle.pgw_startup.specs.declared.password.PasswordMessageFamily.{PasswordMessageFamily}
use Rattle.pgw_backend.specs.declared.backend.PgWireBackendMessage.{PgWireBackendMessage as Backend}
use Rattle.pgw_registry.specs.Passes.{Known}
use Rattle.pgw_registry.specs.declared.error.RegistryError.{RegistryError}
use Rattle.pgw_login.specs.Client.{LoginClient}
use Rattle.pgw_login.specs.Login.{Login}
use Rattle.pgw_login.specs.Registered.{HandlePair}
use Rattle.pgw_login.specs.Acts.{Standing, Answer, Then, halts, Marks, Sends, with_sasl}
use Rattle.pgw_login.specs.Acts as acts
use Rattle.pgw_login.specs.Hearing.{heard}
use Rattle.pgw_login.specs.declared.handler.Heard.{Heard}
use Rattle.pgw_login.specs.declared.handler.Heard.TheVariants as of
use Rattle.pgw_login.specs.declared.state.SASLState.{SASLState}
use Rattle.pgw_login_server.specs.Lasting.{IsReady, KeepsReady}
use Rattle.pgw_login_server.proofs.LastingLaws.{no_error, passed, finishes_ready, opens_once}
use Rattle.pgw_login_sasl.specs.Replies.{Reply}
use Rattle.pgw_login_sasl.specs.Turns.{is_finished}
use Rattle.pgw_login_sasl.specs.Sasl.{Offers, sasl_messages, EndsSaslLogin, RespondsBy, SaslOn, SaslMeans}

-- acts that leave a client which may ask so
Stays : (Standing → Standing → List Backend → Answer → Type 0) → Type 0
Stays act =
    (before after : Standing) (sent : List Backend) (answer : Answer) → act before after sent answer
    → answer ≡ Ok tt → IsReady before.client before.login → IsReady after.client after.login

stays_then : (first next : Standing → Standing → List Backend → Answer → Type 0) → Stays first → Stays next
    → Stays (Then first next)
unfolding Stays
stays_then first next hf hn before after sent answer (halts b a s e h) ok is = absurd (no_error (Err e) e refl ok)
stays_then first next hf hn before after sent answer (acts.goes b mid a front back r x y) ok is =
    hn mid a back r y ok (hf b mid front (Ok tt) x refl is)

stays_sends : (due : List Backend) → Stays (Sends due)
unfolding Stays
stays_sends due before after sent (Ok done) h ok is =
    (ap (λ s. s.client.state) h.0 ∙ is.0, ap (λ s. s.login.started) h.0 ∙ is.1)
stays_sends due before after sent (Err e) h ok is = absurd (no_error (Err e) e refl ok)

stays_marked : (next : SASLState) → Stays (Marks (with_sasl next))
unfolding Stays
stays_marked next before after sent answer h ok is =
    (ap (λ s. s.client.state) h.0 ∙ is.0, ap (λ s. s.login.started) h.0 ∙ is.1)

module _ (P : LoginClient → Option Held → Type 0)
    (R : Option Known → ℤ → SecretKey → Option Known → Result (Option HandlePair) RegistryError → Type 0) where
  stays_ends : (b : Bool) → Stays (EndsSaslLogin P R b)
  unfolding Stays
  stays_ends false before after sent answer h ok is =
      (ap (λ s. s.client.state) h.0 ∙ is.0, ap (λ s. s.login.started) h.0 ∙ is.1)
  stays_ends true before after sent answer h ok is = finishes_ready P R before after sent answer h ok is

  stays_responds : (reply : Reply) → Stays (RespondsBy P R reply)
  unfolding Stays
  stays_responds (Err e) before after sent answer h ok is = absurd (no_error answer _ h.2 ok)
  stays_responds (Ok (reply, next)) before after sent answer h ok is =
      stays_then (Sends (sasl_messages reply))
      (Then (Marks (with_sasl next)) (EndsSaslLogin P R (is_finished next)))
      (stays_sends (sasl_messages reply))
      (stays_then (Marks (with_sasl next)) (EndsSaslLogin P R (is_finished next)) (stays_marked next)
      (stays_ends (is_finished next))) before after sent answer h ok is

module _ (methods : List (List ℕ)) (S O : Login → PasswordMessageFamily → List ℕ → SASLState → Reply → Type 0)
    (P : LoginClient → Option Held → Type 0)
    (R : Option Known → ℤ → SecretKey → Option Known → Result (Option HandlePair) RegistryError → Type 0)
  where
    sasl_on : (m : Heard) (before after : Standing) (sent : List Backend) → IsReady before.client before.login
        → SaslOn methods S O P R m before after sent (Ok tt) → IsReady after.client after.login
    unfolding Stays
    sasl_on (of.Startup s) before after sent is h = absurd (opens_once s (Offers methods) before after sent h is.1)
    sasl_on (of.Password m) before after sent is h = stays_responds P R h.0 before after sent (Ok tt) h.2 refl is
    sasl_on of.Other before after sent is h = passed before after sent is h

    pub sasl_keeps : KeepsReady (SaslMeans methods S O P R)
    sasl_keeps m before after sent is h = sasl_on (heard m) before after sent is h
