-- What a server answers to client-first.
use Rattle.std.specs.Prelude.{if◌then◌else◌}
use Rattle.std.proofs.Common.{◌≡◌, ◌⊎◌, inl, inr, ℕ, Bool, true, false, List, [], ◌∷◌, ◌++◌, Option, Some, Result, Ok, Err, refl, sym, ap, subst, ◌∙◌}
use Rattle.pgw_types.specs.declared.error.PgWireError.{PgWireError}
use Rattle.pgw_types.specs.declared.error.PgWireError.TheVariants.{OutOfMemory, InvalidScramMessage}
use Rattle.pgw_types.specs.declared.error.ScramMessageFault.TheVariants.{ChannelBinding}
use Rattle.pgw_startup.specs.Password.{initial_response_of}
use Rattle.pgw_startup.specs.declared.authentication.Authentication.{Authentication}
use Rattle.pgw_startup.specs.declared.authentication.Authentication.TheVariants as auth
use Rattle.pgw_startup.specs.declared.password.PasswordMessageFamily.TheVariants as family
use Rattle.pgw_startup.specs.declared.sasl.SASLInitialResponse.{SASLInitialResponse}
use Rattle.pgw_backend.specs.Backend.{backend_encoding}
use Rattle.pgw_backend.specs.declared.backend.PgWireBackendMessage.{PgWireBackendMessage as Backend}
use Rattle.pgw_backend.specs.declared.backend.PgWireBackendMessage.TheVariants as backend
use Rattle.pgw_frontend.specs.declared.frontend.PgWireFrontendMessage.TheVariants as frontend
use Rattle.pgw_scram.specs.declared.binding.ClientBinding.{ClientBinding}
use Rattle.pgw_scram.specs.declared.binding.ClientBinding.TheVariants as binding
use Rattle.pgw_scram.specs.declared.server.ScramServerAuthWaitingForClientFinal.{ScramServerAuthWaitingForClientFinal as WaitingForClientFinal}
use Rattle.pgw_scram.specs.Readers.{read_client_first}
use Rattle.pgw_scram.specs.Server.{scram_offer, scram_offer_as, offered_to}
use Rattle.pgw_scram.specs.declared.messages.ClientFirst.{ClientFirst}
use Rattle.pgw_types.specs.declared.error.ScramMessageFault.{ScramMessageFault}
use Rattle.pgw_login.specs.Login.{Login, login_seen}
use Rattle.pgw_login.specs.Acts.{Standing, Then, Marks, LoginStays, Sends, with_sasl}
use Rattle.pgw_login.specs.declared.state.LoginState.{LoginState}
use Rattle.pgw_login.specs.declared.state.SASLState.{SASLState}
use Rattle.pgw_login.specs.declared.state.SASLState.TheVariants.{Initial, ScramClientFirstReceived, ScramServerFirstSent}
use Rattle.pgw_login_sasl.specs.Replies.{Reply}
use Rattle.pgw_login_sasl.specs.Scram.{FirstOn, FirstWith, first_reply, and_some, is_misnamed, offered_by}
use Rattle.std.proofs.lemmas.List.{append-nil}
use Rattle.pgw_login_sasl.specs.Methods.{sasl_method as scram_method}
use Rattle.pgw_login_sasl.specs.Turns.{sasl_stage, turned, entered, named_by as named_as}
use Rattle.pgw_login_sasl.specs.declared.methods.Method.{Method}
use Rattle.pgw_login_sasl.specs.declared.methods.Method.TheVariants.{Scram}
use Rattle.pgw_session.specs.Logins.{method_of}
use Rattle.pgw_login_pair.specs.declared.parties.PairInput.{PairInput}
use Rattle.pgw_login_sasl.specs.Sasl.{Replied, By, ByTurn, RespondsBy}
use Rattle.pgw_login_pair.specs.World.{client_login}
use Rattle.pgw_login_pair.specs.Server.{scram_end, AnswersStored, ScramAnswers, NoOauth, Provided, Unregistered, Means}
use Rattle.pgw_login_pair.proofs.Acts.{Act, then_ok, then_err, sent_err, ok_is_no_error, err_is, no_front, nothing}

-- the method's name, and client-first as its message is read
abbrev pub method : PairInput → List ℕ
method input = method_of (client_login input).binding

abbrev pub first_body : PairInput → List ℕ → SASLInitialResponse
first_body input text = record { auth_method = method input; payload = Some text }

abbrev pub continue_with : List ℕ → Backend
continue_with first = backend.Authentication (auth.SASLContinue first)

-- the name goes with the header of client-first
abbrev pub IsNamed : PairInput → List ℕ → Type 0
IsNamed input text =
    (opening : ClientFirst) → read_client_first text ≡ Ok opening
    → is_misnamed (method input) opening.header ≡ false

-- so the method's step is SCRAM's own
named_by : (input : PairInput) (nonce : List ℕ) (r : Result ClientFirst ScramMessageFault)
    → ((opening : ClientFirst) → r ≡ Ok opening → is_misnamed (method input) opening.header ≡ false)
    → offered_by (method input) (scram_end input) r input.stored nonce ≡ scram_offer_as (scram_end input) r
    input.stored nonce
named_by input nonce (Err why) named = refl
named_by input nonce (Ok parts) named =
    ap (λ (b : Bool). if b then Err (InvalidScramMessage ChannelBinding) else offered_to (scram_end input) parts
    input.stored nonce) (named parts refl)

-- it is SCRAM
is_scram : (b : ClientBinding) → scram_method (method_of b) ≡ Some Scram
is_scram binding.None = refl
is_scram binding.NotOffered = refl
is_scram (binding.EndPoint hash) = refl

-- the login awaits it
pub record AwaitsFirst (login : LoginState) : Type 0 where
  pub started : login.started ≡ true
  pub sasl : login.sasl ≡ Initial

module _ (input : PairInput) (login : LoginState) (text : List ℕ) (is_named : IsNamed input text) where
  answers_first : (who : Login) (replied : Result (Authentication × SASLState) PgWireError)
      → FirstOn (AnswersStored input.stored) (scram_end input) who (method input) (Some text) login.nonce replied
      → (replied ≡ Err OutOfMemory)
      ⊎ (replied ≡ first_reply (scram_offer (scram_end input) text input.stored login.nonce))
  answers_first who replied (given, inl is, with) =
      inr (subst (λ g. FirstWith g (scram_end input) (method input) text login.nonce replied) is with
      ∙ ap first_reply (named_by input login.nonce (read_client_first text) is_named))
  answers_first who replied (given, inr is, with) =
      inl (subst (λ g. FirstWith g (scram_end input) (method input) text login.nonce replied) is with)

  scram_first : (who : Login) (reply : Reply)
      → ScramAnswers input who (family.SASLInitialResponse (first_body input text)) login.nonce
      (ScramClientFirstReceived) reply
      → (reply ≡ Err OutOfMemory)
      ⊎ (reply ≡ and_some (first_reply (scram_offer (scram_end input) text input.stored login.nonce)))
  scram_first who reply (replied, inl none, is) = inl (is ∙ ap and_some none)
  scram_first who reply (replied, inr on, is) =
      elim (answers_first who replied on) [ inl k ↦ inl (is ∙ ap and_some k) | inr k ↦ inr (is ∙ ap and_some k) ]

  turned_first : (body : List ℕ) → AwaitsFirst login → initial_response_of body ≡ Ok (first_body input text)
      → turned (sasl_stage login.started login.sasl) (family.Raw body) ≡ Ok
      (Scram, family.SASLInitialResponse (first_body input text))
  turned_first body awaits reads =
      rw (awaits.started, awaits.sasl, reads)
      (ap (λ (o : Option Method). named_as o (first_body input text)) (is_scram (client_login input).binding))

  pub replied_first : (who : Login) (body : List ℕ) (reply : Reply) → AwaitsFirst login
      → initial_response_of body ≡ Ok (first_body input text)
      → Replied (ScramAnswers input) NoOauth who login (family.Raw body) reply
      → (reply ≡ Err OutOfMemory)
      ⊎ (reply ≡ and_some (first_reply (scram_offer (scram_end input) text input.stored login.nonce)))
  replied_first who body reply awaits reads (inl none) = inl none
  replied_first who body reply awaits reads (inr by) =
      let turn : By (ScramAnswers input) NoOauth who Scram (family.SASLInitialResponse (first_body input text))
      login.nonce (entered Scram login.sasl) reply =
      subst (λ r. ByTurn (ScramAnswers input) NoOauth who login r reply) (turned_first body awaits reads) by in
      scram_first who reply
      (subst (λ s. ScramAnswers input who (family.SASLInitialResponse (first_body input text)) login.nonce
      (entered Scram s) reply) awaits.sasl turn)

-- ---- what comes of the reply

abbrev Then1 : List ℕ → WaitingForClientFinal → Act
Then1 first waiting =
    RespondsBy Provided Unregistered (Ok (Some (auth.SASLContinue first), ScramServerFirstSent waiting))

first_sent : (first : List ℕ) (waiting : WaitingForClientFinal) (before after : Standing) (sent : List Backend)
    → Then1 first waiting before after sent (Ok tt)
    → (after ≡ record before { login = with_sasl (ScramServerFirstSent waiting) before.login })
    × (sent ≡ continue_with first ∷ [])
first_sent first waiting before after sent h =
    let a =
    then_ok (Sends (continue_with first ∷ []))
    (Then (Marks (with_sasl (ScramServerFirstSent waiting))) LoginStays) before after sent (Ok tt) h refl
    in
    let b =
    then_ok (Marks (with_sasl (ScramServerFirstSent waiting))) LoginStays a.mid after a.back (Ok tt) a.two
    refl in (
      b.two.0 ∙ b.one.0
          ∙ ap (λ (x : Standing). record x { login = with_sasl (ScramServerFirstSent waiting) x.login }) a.one.0,
      a.all ∙ ap (λ (l : List Backend). a.front ++ l) (b.all ∙ nothing b.front b.back b.one.1 b.two.1)
          ∙ append-nil a.front ∙ a.one.1,
    )

first_unsent : (first : List ℕ) (waiting : WaitingForClientFinal) (before after : Standing) (sent : List Backend)
    (e : PgWireError)
    → before.faults ≡ 0 → after.faults ≡ 0 → (e ≡ OutOfMemory → ⊥) → Then1 first waiting before after sent (Err e)
    → (sent ≡ []) × (backend_encoding (continue_with first) ≡ Err e)
first_unsent first waiting before after sent e calm still ne h =
    elim (then_err (Sends (continue_with first ∷ []))
    (Then (Marks (with_sasl (ScramServerFirstSent waiting))) LoginStays) before after sent (Err e) e h refl) [
      | inl k ↦
          let s = sent_err (continue_with first ∷ []) before after sent e calm still k in
          let o = one_of sent s.0 s.1 s.2 in
          (o.0, ap backend_encoding o.1 ∙ s.4 ne)
      | inr w ↦ elim (then_err (Marks (with_sasl (ScramServerFirstSent waiting))) LoginStays w.mid after w.back
          (Err e) e w.two refl) [
            | inl k ↦ absurd (ok_is_no_error {e = e} refl k.2)
            | inr v ↦ absurd (ok_is_no_error {e = e} refl v.two.2)
          ]
    ]
  where
    one_of : (front : List Backend) (x : Backend) (rest : List Backend)
        → continue_with first ∷ [] ≡ front ++ x ∷ rest → (front ≡ []) × (continue_with first ≡ x)
    one_of [] x rest cut = (refl, cc)
    one_of (y ∷ front) x rest cut = absurd (no_front front x rest (cc))

-- ---- the message

-- how it is replied to
pub data Offered (input : PairInput) (text nonce : List ℕ) : Type 0 where
  refused : (e : PgWireError) → scram_offer (scram_end input) text input.stored nonce ≡ Err e
      → Offered input text nonce
  sent : (first : List ℕ) → (waiting : WaitingForClientFinal)
      → scram_offer (scram_end input) text input.stored nonce ≡ Ok (first, waiting) → Offered input text nonce

pub offers : (input : PairInput) (text nonce : List ℕ) → Offered input text nonce
offers input text nonce = go (scram_offer (scram_end input) text input.stored nonce) refl
  where
    go : (r : Result (List ℕ × WaitingForClientFinal) PgWireError)
        → scram_offer (scram_end input) text input.stored nonce ≡ r → Offered input text nonce
    go (Err e) is = refused e is
    go (Ok (first, waiting)) is = sent first waiting is

pub first_ok : (input : PairInput) (body text : List ℕ) (is_named : IsNamed input text) (before after : Standing)
    (out : List Backend)
    → AwaitsFirst before.login → initial_response_of body ≡ Ok (first_body input text)
    → Means input (frontend.PasswordMessageFamily (family.Raw body)) before after out (Ok tt)
    → (first : List ℕ) × (waiting : WaitingForClientFinal)
    × (scram_offer (scram_end input) text input.stored (before.login).nonce ≡ Ok (first, waiting))
    × (after ≡ record before { login = with_sasl (ScramServerFirstSent waiting) before.login })
    × (out ≡ continue_with first ∷ [])
first_ok input body text is_named before after out awaits reads (reply, replied, responds) =
    elim (replied_first input before.login text is_named (login_seen before.client) body reply awaits reads
    replied) [
      | inl none ↦ absurd (ok_is_no_error {e = OutOfMemory} refl
          (sym (subst (λ r. RespondsBy Provided Unregistered r before after out (Ok tt)) none responds).2 ∙ refl))
      | inr is ↦
          let made = subst (λ r. RespondsBy Provided Unregistered r before after out (Ok tt)) is responds in
          elim (offers input text (before.login).nonce) [
            | refused e o ↦ absurd
                (ok_is_no_error {e = e} refl
                (sym (subst (λ r. RespondsBy Provided Unregistered (and_some (first_reply r)) before after out
                (Ok tt)) o made).2))
            | sent first waiting o ↦
                let s =
                first_sent first waiting before after out
                (subst (λ r. RespondsBy Provided Unregistered (and_some (first_reply r)) before after out
                (Ok tt)) o made) in
                (first, waiting, o, s.0, s.1)
          ]
    ]

pub first_err : (input : PairInput) (body text : List ℕ) (is_named : IsNamed input text) (before after : Standing)
    (out : List Backend) (e : PgWireError)
    → AwaitsFirst before.login → initial_response_of body ≡ Ok (first_body input text)
    → before.faults ≡ 0 → after.faults ≡ 0 → (e ≡ OutOfMemory → ⊥)
    → Means input (frontend.PasswordMessageFamily (family.Raw body)) before after out (Err e)
    → (out ≡ [])
    × ((scram_offer (scram_end input) text input.stored (before.login).nonce ≡ Err e) ⊎
    ((first : List ℕ) × (waiting : WaitingForClientFinal) ×
    (scram_offer (scram_end input) text input.stored (before.login).nonce ≡ Ok (first, waiting))
    × (backend_encoding (continue_with first) ≡ Err e)))
first_err input body text is_named before after out e awaits reads calm still ne
    (mid, (reply, replied, responds), failed) =
    let quiet : mid.faults ≡ 0 = ap (λ (x : Standing). x.faults) (sym failed) ∙ still in
    elim (replied_first input before.login text is_named (login_seen before.client) body reply awaits reads
    replied) [
      | inl none ↦ absurd (ne (err_is (subst (λ r. RespondsBy Provided Unregistered r before mid out (Err e)) none
          responds).2))
      | inr is ↦
          let made = subst (λ r. RespondsBy Provided Unregistered r before mid out (Err e)) is responds in
          elim (offers input text (before.login).nonce) [
            | refused d o ↦
                let r =
                subst (λ r. RespondsBy Provided Unregistered (and_some (first_reply r)) before mid out
                (Err e)) o made in
                (r.1, inl (o ∙ ap Err (sym (err_is r.2))))
            | sent first waiting o ↦
                let s =
                first_unsent first waiting before mid out e calm quiet ne
                (subst (λ r. RespondsBy Provided Unregistered (and_some (first_reply r)) before mid out
                (Err e)) o made) in
                (s.0, inr (first, waiting, o, s.1))
          ]
    ]
