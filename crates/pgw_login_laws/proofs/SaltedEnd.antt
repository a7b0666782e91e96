-- An end of SCRAM over salted passwords.
use Rattle.std.proofs.Common.{◌≡◌, inl, inr, ℕ, List, Option, Some, None, Result, Ok, Err, refl, sym, subst}
use Rattle.pgw_types.specs.declared.error.PgWireError.{PgWireError}
use Rattle.pgw_startup.specs.declared.authentication.Authentication.{Authentication}
use Rattle.pgw_startup.specs.declared.password.PasswordMessageFamily.TheVariants as family
use Rattle.pgw_startup.specs.declared.sasl.SASLInitialResponse.{SASLInitialResponse}
use Rattle.pgw_startup.specs.declared.sasl.SASLResponse.{SASLResponse}
use Rattle.pgw_scram.specs.Server.{accepted}
use Rattle.pgw_scram.specs.declared.password.Password.{Password as Kept}
use Rattle.pgw_scram.specs.declared.server.ScramServerAuth.{ScramServerAuth}
use Rattle.pgw_scram.specs.declared.server.ScramServerAuthWaitingForClientFinal.{ScramServerAuthWaitingForClientFinal as WaitingForClientFinal}
use Rattle.pgw_login.specs.Login.{Login}
use Rattle.pgw_login.specs.declared.state.SASLState.{SASLState}
use Rattle.pgw_login.specs.declared.state.SASLState.TheVariants as state
use Rattle.pgw_login_server.specs.Entry.{Source}
use Rattle.pgw_login_sasl.specs.Scram.{offered_under, first_reply, FirstWith, FirstOn, FirstReplies, final_reply, ScramReplies}
use Rattle.pgw_login_laws.specs.Entry.{GivesSalted, TakesSalted}
use Rattle.pgw_login_laws.proofs.Ends.{Apart, CameFirst, none_given, gave, CameFurther, none_taken, taken, IsEnd}

abbrev pub waits : WaitingForClientFinal → SASLState
waits waiting = state.ScramServerFirstSent waiting

pub salted_apart : Apart waits
salted_apart = record {
  one = λ a b is. cc;
  sent = λ a. refl;
  goes_on = λ a. refl;
}

module _ (A : Source) (server : ScramServerAuth) where
  module _ (login : Login) (name nonce : List ℕ) (payload : Option (List ℕ)) where
    Came : Result (Authentication × SASLState) PgWireError → Type 0
    Came replied = CameFirst waits (GivesSalted A server login name) nonce payload replied

    refused : (e : PgWireError) (replied : Result (Authentication × SASLState) PgWireError) → replied ≡ Err e
        → Came replied
    unfolding Came
    refused e replied is =
        subst (CameFirst waits (GivesSalted A server login name) nonce payload) (sym is) (none_given e)

    by_offer : (first : List ℕ) (kept : Kept) (o : Result (List ℕ × WaitingForClientFinal) PgWireError)
        (replied : Result (Authentication × SASLState) PgWireError) → payload ≡ Some first → A login (Ok kept)
        → offered_under name server first kept nonce ≡ o → replied ≡ first_reply o → Came replied
    unfolding Came
    by_offer first kept (Err e) replied has a offers is = refused e replied is
    by_offer first kept (Ok (offer, waiting)) replied has a offers is =
        subst (CameFirst waits (GivesSalted A server login name) nonce payload) (sym is)
        (gave first offer waiting has (record { kept = kept; answered = a; offers = offers }))

    by_source : (first : List ℕ) (got : Result Kept PgWireError)
        (replied : Result (Authentication × SASLState) PgWireError) → payload ≡ Some first → A login got
        → FirstWith got server name first nonce replied → Came replied
    unfolding Came
    by_source first (Err e) replied has a is = refused e replied is
    by_source first (Ok kept) replied has a is =
        by_offer first kept (offered_under name server first kept nonce) replied has a refl is

    by_payload : (p : Option (List ℕ)) (replied : Result (Authentication × SASLState) PgWireError) → payload ≡ p
        → FirstOn A server login name p nonce replied → Came replied
    unfolding Came
    by_payload None replied has is = refused _ replied is
    by_payload (Some first) replied has is = by_source first is.0 replied has is.1 is.2

  first_came : (login : Login) (read : SASLInitialResponse) (nonce : List ℕ)
      (replied : Result (Authentication × SASLState) PgWireError)
      → FirstReplies A server login (family.SASLInitialResponse read) nonce replied
      → CameFirst waits (GivesSalted A server login read.auth_method) nonce read.payload replied
  unfolding Came
  first_came login read nonce replied (inl short) =
      refused login read.auth_method nonce read.payload _ replied short
  first_came login read nonce replied (inr h) =
      by_payload login read.auth_method nonce read.payload read.payload replied refl h

  not_taken : (at : SASLState) (payload : List ℕ) (e : PgWireError)
      (replied : Result (Authentication × SASLState) PgWireError) → replied ≡ Err e
      → CameFurther waits TakesSalted at payload replied
  not_taken at payload e replied is = subst (CameFurther waits TakesSalted at payload) (sym is) (none_taken e)

  by_verdict : (waiting : WaitingForClientFinal) (payload : List ℕ) (r : Result (List ℕ) PgWireError)
      (replied : Result (Authentication × SASLState) PgWireError) → accepted waiting payload ≡ r
      → replied ≡ final_reply r → CameFurther waits TakesSalted (waits waiting) payload replied
  by_verdict waiting payload (Err e) replied has is = not_taken (waits waiting) payload e replied is
  by_verdict waiting payload (Ok verifier) replied has is =
      subst (CameFurther waits TakesSalted (waits waiting) payload) (sym is) (taken waiting verifier refl has)

  further_came : (login : Login) (read : SASLResponse) (nonce : List ℕ) (at : SASLState)
      (replied : Result (Authentication × SASLState) PgWireError)
      → ScramReplies A server login (family.SASLResponse read) nonce at replied
      → CameFurther waits TakesSalted at read.payload replied
  further_came login read nonce state.Initial replied h = not_taken _ read.payload _ replied h
  further_came login read nonce state.ScramClientFirstReceived replied (inl h) =
      not_taken _ read.payload _ replied h
  further_came login read nonce state.ScramClientFirstReceived replied (inr h) =
      not_taken _ read.payload _ replied h
  further_came login read nonce (state.ScramServerFirstSent waiting) replied (inl h) =
      not_taken _ read.payload _ replied h
  further_came login read nonce (state.ScramServerFirstSent waiting) replied (inr h) =
      by_verdict waiting read.payload (accepted waiting read.payload) replied refl h
  further_came login read nonce (state.StoredServerFirstSent waiting) replied h =
      not_taken _ read.payload _ replied h
  further_came login read nonce state.OauthStateInit replied h = not_taken _ read.payload _ replied h
  further_came login read nonce state.OauthStateError replied h = not_taken _ read.payload _ replied h
  further_came login read nonce state.Finished replied h = not_taken _ read.payload _ replied h
  further_came login read nonce state.Failed replied h = not_taken _ read.payload _ replied h

  pub salted_end : IsEnd (ScramReplies A server) (GivesSalted A server) TakesSalted waits
  salted_end = record { first = first_came; further = further_came }
