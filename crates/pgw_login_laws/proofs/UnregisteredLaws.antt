-- A login by SASL that is registered nowhere stays so.
use Rattle.std.proofs.Common.{Bool, true, false, ℕ, List, Option, Result, Ok, Err, refl}
use Rattle.pgw_types.specs.declared.error.PgWireError.{PgWireError}
use Rattle.pgw_wire.specs.Pairs.{Held}
use Rattle.pgw_startup.specs.declared.password.PasswordMessageFamily.{PasswordMessageFamily}
use Rattle.pgw_login.specs.Client.{LoginClient}
use Rattle.pgw_login.specs.Login.{Login}
use Rattle.pgw_login.specs.Acts.{Marks, Sends, with_sasl}
use Rattle.pgw_login.specs.Opening.{Opens}
use Rattle.pgw_login.specs.Hearing.{heard}
use Rattle.pgw_login.specs.declared.handler.Heard.{Heard}
use Rattle.pgw_login.specs.declared.handler.Heard.TheVariants as of
use Rattle.pgw_login.specs.declared.state.SASLState.{SASLState}
use Rattle.pgw_login_server.specs.Unregistered.{Nowhere, StaysUnregistered}
use Rattle.pgw_login_server.proofs.UnregisteredLaws.{Unties, unties_refuses, unties_passes, unties_marks, unties_sends, unties_memory, unties_then, unties_opens, unties_finishes, unties_or_fails, stays_unregistered}
use Rattle.pgw_login_sasl.specs.Replies.{Reply}
use Rattle.pgw_login_sasl.specs.Sasl.{Offers, sasl_messages, EndsSaslLogin, RespondsBy, SaslOn, SaslMeans}
use Rattle.pgw_login_sasl.specs.Turns.{is_finished}

module _ (methods : List (List ℕ)) (S O : Login → PasswordMessageFamily → List ℕ → SASLState → Reply → Type 0)
    (P : LoginClient → Option Held → Type 0) where
  ends_unties : (b : Bool) → Unties (EndsSaslLogin P Nowhere b)
  ends_unties false = unties_passes
  ends_unties true = unties_finishes P

  responds_unties : (reply : Reply) → Unties (RespondsBy P Nowhere reply)
  responds_unties (Err e) = unties_refuses e
  responds_unties (Ok (reply, next)) =
      unties_then (Sends (sasl_messages reply)) _ (unties_sends (sasl_messages reply))
      (unties_then (Marks (with_sasl next)) _ (unties_marks (with_sasl next) (λ s. refl))
      (ends_unties (is_finished next)))

  sasl_on : (m : Heard) → Unties (SaslOn methods S O P Nowhere m)
  sasl_on (of.Startup s) =
      unties_then (Opens s) (Offers methods) (unties_opens s) (unties_memory (Sends _) (unties_sends _))
  sasl_on (of.Password m) = λ before after sent answer h is. responds_unties h.0 before after sent answer h.2 is
  sasl_on of.Other = unties_passes

  pub sasl_unties : StaysUnregistered (SaslMeans methods S O P Nowhere)
  sasl_unties = stays_unregistered (SaslMeans methods S O P Nowhere) (λ m. unties_or_fails _ (sasl_on (heard m)))
