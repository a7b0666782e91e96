-- A client is let in by SASL only behind its proof, or its token.
use Rattle.std.proofs.Common.{◌≡◌, ◌⊎◌, inl, inr, Bool, true, false, ℕ, List, [], ◌∷◌, ◌++◌, Option, Some, None, Result, Ok, Err, refl, sym, ap, subst, ◌∙◌}
use Rattle.std.specs.Prelude.{ℤ, if◌then◌else◌}
use Rattle.std.specs.List.{list_any}
use Rattle.std.proofs.lemmas.List.{append-nil}
use Rattle.std.proofs.lemmas.List.Elements.{Contains-append_left, Contains-push}
use Rattle.pgw_types.specs.declared.error.PgWireError.{PgWireError}
use Rattle.pgw_types.specs.declared.error.PgWireError.TheVariants.{OAuthAuthenticationFailed}
use Rattle.pgw_types.specs.declared.error.OauthRefusal.TheVariants as refusal
use Rattle.pgw_wire.specs.Pairs.{Held}
use Rattle.pgw_wire.specs.Reading.{lossy}
use Rattle.pgw_wire.specs.declared.secret_key.SecretKey.{SecretKey}
use Rattle.pgw_startup.specs.Password.{as_initial_response, as_response}
use Rattle.pgw_startup.specs.declared.authentication.Authentication.{Authentication}
use Rattle.pgw_startup.specs.declared.authentication.Authentication.TheVariants as auth
use Rattle.pgw_startup.specs.declared.password.PasswordMessageFamily.{PasswordMessageFamily}
use Rattle.pgw_startup.specs.declared.password.PasswordMessageFamily.TheVariants as family
use Rattle.pgw_startup.specs.declared.sasl.SASLInitialResponse.{SASLInitialResponse}
use Rattle.pgw_startup.specs.declared.sasl.SASLResponse.{SASLResponse}
use Rattle.pgw_scram.specs.declared.server.ScramServerAuth.{ScramServerAuth}
use Rattle.pgw_backend.specs.declared.backend.PgWireBackendMessage.{PgWireBackendMessage as Backend}
use Rattle.pgw_backend.specs.declared.backend.PgWireBackendMessage.TheVariants as backend
use Rattle.pgw_frontend.specs.declared.frontend.PgWireFrontendMessage.{PgWireFrontendMessage as Message}
use Rattle.pgw_frontend.specs.declared.frontend.PgWireFrontendMessage.TheVariants as frontend
use Rattle.pgw_registry.specs.Passes.{Known}
use Rattle.pgw_registry.specs.declared.error.RegistryError.{RegistryError}
use Rattle.pgw_login.specs.Client.{LoginClient}
use Rattle.pgw_login.specs.Login.{Login, login_seen}
use Rattle.pgw_login.specs.Registered.{HandlePair}
use Rattle.pgw_login.specs.Acts.{Standing, Answer, Act, Then, LoginRefuses, LoginStays, Marks, Sends, with_sasl, with_started}
use Rattle.pgw_login.specs.Opening.{Opens}
use Rattle.pgw_login.specs.Finish.{AcceptsLogin, FinishesAuthentication, Finishes}
use Rattle.pgw_login.specs.Hearing.{heard}
use Rattle.pgw_login.specs.declared.handler.Heard.{Heard}
use Rattle.pgw_login.specs.declared.handler.Heard.TheVariants as of
use Rattle.pgw_login.specs.declared.state.LoginState.{LoginState}
use Rattle.pgw_login.specs.declared.state.SASLState.{SASLState}
use Rattle.pgw_login.specs.declared.state.SASLState.TheVariants as state
use Rattle.pgw_login_server.specs.Server.{Stage, begins_within}
use Rattle.pgw_login_server.specs.Taken.{Taken}
use Rattle.pgw_login_server.specs.Entry.{lets_in, LetsInBy, IsNamed}
use Rattle.pgw_login_server.proofs.EntryActs.{not_both, then_both, Quiet, nothing_said, quiet_then, quiet_sends, quiet_passes, quiet_opens, quiet_memory, quiet_marks, Roots, roots_then, roots_sends, roots_marked, roots_passes, roots_finishes, opened}
use Rattle.pgw_login_server.proofs.EntryLaws.{IsKnown, Goes, guarded}
use Rattle.pgw_login_server.proofs.PasswordEntry.{heard_password, heard_startup, quiet_says, on_and_off, never_ready, known_begun, known_proven, known_on, known_passed}
use Rattle.pgw_login_sasl.specs.Methods.{sasl_method}
use Rattle.pgw_login_sasl.specs.Oauth.{token_of, judged, Judged, oauth_reply, ByToken, ByData}
use Rattle.pgw_login_sasl.specs.Replies.{Reply}
use Rattle.pgw_login_sasl.specs.Scram.{and_some, ByScram}
use Rattle.pgw_login_sasl.specs.Sasl.{sasl_request, Offers, ByOauth, By, ByTurn, Replied, EndsSaslLogin, RespondsBy, SaslOn, SaslMeans}
use Rattle.pgw_login_sasl.specs.Turns.{sasl_stage, named_by, named_method, further, turned, sasl_start, entered}
use Rattle.pgw_login_laws.specs.Entry.{IsInitial, HasMethodName, IsFurther, IsOffered, ProvesScram, ProvesToken, ProvesByScram, ProvesByToken, ProvesSasl}
use Rattle.pgw_login_laws.proofs.Ends.{is_sent, Apart, CameFirst, none_given, gave, CameFurther, none_taken, taken, IsEnd}
use Rattle.pgw_login_sasl.specs.declared.methods.Method.{Method}
use Rattle.pgw_login_sasl.specs.declared.methods.Method.TheVariants.{Scram, OauthBearer}
use Rattle.pgw_login_sasl.specs.declared.oauth.Oauth.{Oauth}
use Rattle.pgw_login_sasl.specs.declared.scram.ScramAuth.{ScramAuth}
use Rattle.pgw_login_sasl.specs.declared.turn.Stage.TheVariants as turn
use Rattle.pgw_login_sasl.specs.declared.validator.ValidatorModuleResult.{ValidatorModuleResult}

module _ {S X W : Type 0} {D : X → Type 0} (E : S → ScramServerAuth → Login → PasswordMessageFamily → List ℕ
    → SASLState → Result (Authentication × SASLState) PgWireError → Type 0)
    (G : ScramAuth S → Login → List ℕ → List ℕ → List ℕ → List ℕ → W → Type 0)
    (T : W → List ℕ → List ℕ → Type 0) (waits : W → SASLState) (apart : Apart waits)
    (ends : (sc : ScramAuth S) → IsEnd (E sc.auth_db sc.authenticator) (G sc) T waits)
    (scram : Option (ScramAuth S)) (V : Oauth X D → List ℕ → List ℕ → List ℕ → List ℕ
    → Result ValidatorModuleResult PgWireError → Type 0) (oauth : Option (Oauth X D)) where
  -- what proves an exchange
  abbrev Shows : ScramAuth S → Stage → List Taken → Taken → Type 0
  Shows sc begin earlier t = ProvesScram (G sc) T begin earlier t

  -- ---- what a method replies, and by what

  -- by this token
  record Bears (o : Oauth X D) (login : Login) (payload : List ℕ) : Type 0 where
    pub user : List ℕ
    pub token : List ℕ
    pub verdict : ValidatorModuleResult
    pub has_user : login.user ≡ Some user
    pub has_token : token_of (lossy payload) ≡ Ok (Some token)
    pub judged : V o token user o.issuer o.scope (Ok verdict)
    pub authorized : verdict.authorized ≡ true

  data Meant (login : Login) (nonce : List ℕ) (sasl : SASLState) (message : Message) : Reply → Type 0 where
    refuses : (e : PgWireError) → Meant login nonce sasl message (Err e)
    offers : (sc : ScramAuth S) → (name first offer : List ℕ) → (waiting : W) → scram ≡ Some sc
        → IsInitial message Scram first → HasMethodName message name → G sc login name first nonce offer waiting
        → Meant login nonce sasl message (Ok (Some (auth.SASLContinue offer), waits waiting))
    accepts : (waiting : W) → (final verifier : List ℕ) → sasl ≡ waits waiting → IsFurther message final
        → T waiting final verifier
        → Meant login nonce sasl message (Ok (Some (auth.SASLFinal verifier), state.Finished))
    asks : (text : List ℕ)
        → Meant login nonce sasl message (Ok (Some (auth.SASLContinue text), state.OauthStateInit))
    tells : (text : List ℕ)
        → Meant login nonce sasl message (Ok (Some (auth.SASLContinue text), state.OauthStateError))
    bears : (o : Oauth X D) → (payload : List ℕ) → oauth ≡ Some o → IsInitial message OauthBearer payload
        ⊎ IsFurther message payload → Bears o login payload
        → Meant login nonce sasl message (Ok (None, state.Finished))

  module _ (login : Login) (nonce : List ℕ) (sasl : SASLState) (message : Message) where
    abbrev Means : Reply → Type 0
    Means reply = Meant login nonce sasl message reply

    refused : (e : PgWireError) (reply : Reply) → reply ≡ Err e → Means reply
    refused e reply is = subst (Meant login nonce sasl message) (sym is) (refuses e)

    -- ---- SCRAM

    first_came : (sc : ScramAuth S) (read : SASLInitialResponse)
        (replied : Result (Authentication × SASLState) PgWireError) (reply : Reply) → scram ≡ Some sc
        → ((first : List ℕ) → read.payload ≡ Some first → IsInitial message Scram first)
        → HasMethodName message read.auth_method
        → CameFirst waits (G sc login read.auth_method) nonce read.payload replied → reply ≡ and_some replied
        → Means reply
    first_came sc read replied reply set is under (none_given e) same = refused e reply same
    first_came sc read replied reply set is under (gave first offer waiting has gives) same =
        subst (Meant login nonce sasl message) (sym same)
        (offers sc read.auth_method first offer waiting set (is first has) under gives)

    scram_first : (is_set : Option (ScramAuth S)) (read : SASLInitialResponse) (reply : Reply) → scram ≡ is_set
        → ((first : List ℕ) → read.payload ≡ Some first → IsInitial message Scram first)
        → HasMethodName message read.auth_method
        → ByScram E is_set login (family.SASLInitialResponse read) nonce state.ScramClientFirstReceived reply
        → Means reply
    scram_first None read reply set is under (inl h) = refused _ reply h
    scram_first None read reply set is under (inr h) = refused _ reply h
    scram_first (Some sc) read reply set is under h = first_came sc read h.0 reply set is under
        ((ends sc).first login read nonce h.0 h.1) h.2

    further_came : (read : SASLResponse) (at : SASLState)
        (replied : Result (Authentication × SASLState) PgWireError)
        (reply : Reply) → sasl ≡ at → IsFurther message read.payload → CameFurther waits T at read.payload replied
        → reply ≡ and_some replied → Means reply
    further_came read at replied reply here is (none_taken e) same = refused e reply same
    further_came read at replied reply here is (taken waiting verifier by takes) same =
        subst (Meant login nonce sasl message) (sym same)
        (accepts waiting read.payload verifier (here ∙ by) is takes)

    scram_further : (is_set : Option (ScramAuth S)) (read : SASLResponse) (at : SASLState) (reply : Reply)
        → sasl ≡ at
        → IsFurther message read.payload → ByScram E is_set login (family.SASLResponse read) nonce at reply
        → Means reply
    scram_further None read at reply here is (inl h) = refused _ reply h
    scram_further None read at reply here is (inr h) = refused _ reply h
    scram_further (Some sc) read at reply here is h = further_came read at h.0 reply here is
        ((ends sc).further login read nonce at h.0 h.1) h.2

    -- ---- OAUTHBEARER

    authorized_where : (b : Bool) (e : PgWireError) (answer : Answer) → answer ≡ (if b then Ok tt else Err e)
        → answer ≡ Ok tt → b ≡ true
    authorized_where true e answer is ok = refl
    authorized_where false e answer is ok = absurd (not_both answer e is ok)

    bears_found : (o : Oauth X D) (payload token user : List ℕ) (found : Result ValidatorModuleResult PgWireError)
        (answer : Answer) → login.user ≡ Some user → token_of (lossy payload) ≡ Ok (Some token)
        → V o token user o.issuer o.scope found → answer ≡ judged found → answer ≡ Ok tt → Bears o login payload
    bears_found o payload token user (Err e) answer has_user has_token v h ok = absurd (not_both answer e h ok)
    bears_found o payload token user (Ok verdict) answer has_user has_token v h ok = record {
      user = user;
      token = token;
      verdict = verdict;
      has_user = has_user;
      has_token = has_token;
      judged = v;
      authorized = authorized_where verdict.authorized (OAuthAuthenticationFailed refusal.Refused) answer h ok;
    }

    bears_judged : (o : Oauth X D) (payload token : List ℕ) (user : Option (List ℕ)) (answer : Answer)
        → login.user ≡ user → token_of (lossy payload) ≡ Ok (Some token)
        → Judged (V o) o.issuer o.scope token user answer → answer ≡ Ok tt → Bears o login payload
    bears_judged o payload token None answer has_user has_token h ok = absurd (not_both answer _ h ok)
    bears_judged o payload token (Some user) answer has_user has_token h ok = bears_found o payload token user h.0
        answer has_user has_token h.1 h.2 ok

    by_verdict : (o : Oauth X D) (payload token : List ℕ) (verdict : Answer) (reply : Reply) → oauth ≡ Some o
        → IsInitial message OauthBearer payload ⊎ IsFurther message payload
        → token_of (lossy payload) ≡ Ok (Some token) → Judged (V o) o.issuer o.scope token login.user verdict
        → reply ≡ oauth_reply verdict → Means reply
    by_verdict o payload token (Err e) reply set is has_token h same = refused e reply same
    by_verdict o payload token (Ok done) reply set is has_token h same = subst (Meant login nonce sasl message)
        (sym same) (bears o payload set is
        (bears_judged o payload token login.user (Ok done) refl has_token h refl))

    by_token : (o : Oauth X D) (payload : List ℕ) (t : Result (Option (List ℕ)) PgWireError) (reply : Reply)
        → oauth ≡ Some o → IsInitial message OauthBearer payload ⊎ IsFurther message payload
        → token_of (lossy payload) ≡ t → ByToken (V o) o.issuer o.scope login.user t reply → Means reply
    by_token o payload (Err e) reply set is has h = refused e reply h
    by_token o payload (Ok None) reply set is has h = subst (Meant login nonce sasl message) (sym h.2) (tells h.0)
    by_token o payload (Ok (Some token)) reply set is has h =
        by_verdict o payload token h.0 reply set is has h.1 h.2

    by_data : (o : Oauth X D) (payload : Option (List ℕ)) (reply : Reply) → oauth ≡ Some o
        → ((p : List ℕ) → payload ≡ Some p → IsInitial message OauthBearer p ⊎ IsFurther message p)
        → ByData (V o) o.issuer o.scope login.user (Ok payload) reply → Means reply
    by_data o None reply set is h = subst (Meant login nonce sasl message) (sym h) (asks [])
    by_data o (Some payload) reply set is h =
        by_token o payload (token_of (lossy payload)) reply set (is payload refl)
        refl h

    oauth_first : (is_set : Option (Oauth X D)) (read : SASLInitialResponse) (reply : Reply) → oauth ≡ is_set
        → ((p : List ℕ) → read.payload ≡ Some p → IsInitial message OauthBearer p)
        → ByOauth is_set V login (family.SASLInitialResponse read) nonce state.OauthStateInit reply → Means reply
    oauth_first None read reply set is (inl h) = refused _ reply h
    oauth_first None read reply set is (inr h) = refused _ reply h
    oauth_first (Some o) read reply set is (inl h) = refused _ reply h
    oauth_first (Some o) read reply set is (inr h) = by_data o read.payload reply set (λ p has. inl (is p has)) h

    oauth_further : (is_set : Option (Oauth X D)) (read : SASLResponse) (reply : Reply) → oauth ≡ is_set
        → IsFurther message read.payload
        → ByOauth is_set V login (family.SASLResponse read) nonce state.OauthStateInit
        reply → Means reply
    oauth_further None read reply set is (inl h) = refused _ reply h
    oauth_further None read reply set is (inr h) = refused _ reply h
    oauth_further (Some o) read reply set is (inl h) = refused _ reply h
    oauth_further (Some o) read reply set is (inr h) =
        by_data o (Some read.payload) reply set (λ p has. let same : read.payload ≡ p = cc in inr
        (subst (IsFurther message) same is)) h

    ended_refuses : (b : Bool) (one other : PgWireError) (reply : Reply)
        → reply ≡ (if b then Err one else Err other)
        → Means reply
    ended_refuses true one other reply h = refused one reply h
    ended_refuses false one other reply h = refused other reply h

    oauth_ends : (is_set : Option (Oauth X D)) (read : SASLResponse) (reply : Reply)
        → ByOauth is_set V login (family.SASLResponse read) nonce state.OauthStateError reply → Means reply
    oauth_ends None read reply (inl h) = refused _ reply h
    oauth_ends None read reply (inr h) = refused _ reply h
    oauth_ends (Some o) read reply (inl h) = refused _ reply h
    oauth_ends (Some o) read reply (inr h) = ended_refuses _ _ _ reply h

    -- ---- the turn

    by_first : (p : PasswordMessageFamily) (read : SASLInitialResponse) (method : Method) (reply : Reply)
        → message ≡ frontend.PasswordMessageFamily p → as_initial_response p ≡ Ok read
        → sasl_method read.auth_method ≡ Some method
        → By (ByScram E scram) (ByOauth oauth V) login method (family.SASLInitialResponse read) nonce
        (sasl_start method)
        reply → Means reply
    by_first p read Scram reply is reads named_method h = scram_first scram read reply refl (λ first has. (
      p,
      read,
      is,
      reads,
      named_method,
      has,
    )) (p, read, is, reads, refl) h
    by_first p read OauthBearer reply is reads named_method h =
        oauth_first oauth read reply refl (λ payload has. (
          p,
          read,
          is,
          reads,
          named_method,
          has,
        )) h

    -- a further message, in each state
    by_further : (p : PasswordMessageFamily) (read : SASLResponse) (at : SASLState) (method : Method)
        (reply : Reply)
        → message ≡ frontend.PasswordMessageFamily p → as_response p ≡ Ok read → sasl ≡ at
        → sasl_stage true at ≡ turn.Further method → By (ByScram E scram) (ByOauth oauth V) login method
        (family.SASLResponse read) nonce (entered method at)
        reply → Means reply
    by_further p read state.Initial method reply is reads here stage h = absurd cc
    by_further p read state.ScramClientFirstReceived Scram reply is reads here stage h =
        scram_further scram read state.ScramClientFirstReceived reply here (p, read, is, reads, refl) h
    by_further p read state.ScramClientFirstReceived OauthBearer reply is reads here stage h = absurd cc
    by_further p read (state.ScramServerFirstSent waiting) Scram reply is reads here stage h =
        scram_further scram read (state.ScramServerFirstSent waiting) reply here (p, read, is, reads, refl) h
    by_further p read (state.ScramServerFirstSent waiting) OauthBearer reply is reads here stage h = absurd cc
    by_further p read (state.StoredServerFirstSent waiting) Scram reply is reads here stage h =
        scram_further scram read (state.StoredServerFirstSent waiting) reply here (p, read, is, reads, refl) h
    by_further p read (state.StoredServerFirstSent waiting) OauthBearer reply is reads here stage h = absurd cc
    by_further p read state.OauthStateInit Scram reply is reads here stage h = absurd cc
    by_further p read state.OauthStateInit OauthBearer reply is reads here stage h =
        oauth_further oauth read reply
        refl (p, read, is, reads, refl) h
    by_further p read state.OauthStateError Scram reply is reads here stage h = absurd cc
    by_further p read state.OauthStateError OauthBearer reply is reads here stage h =
        oauth_ends oauth read reply h
    by_further p read state.Finished method reply is reads here stage h = absurd cc
    by_further p read state.Failed method reply is reads here stage h = absurd cc

  module _ (login : Login) (st : LoginState) (message : Message) (p : PasswordMessageFamily)
      (is : message ≡ frontend.PasswordMessageFamily p) where
    abbrev Turns : Reply → Type 0
    Turns reply = Meant login st.nonce st.sasl message reply

    turned_named : (read : SASLInitialResponse) (named_method : Option Method) (reply : Reply)
        → as_initial_response p ≡ Ok read → sasl_method read.auth_method ≡ named_method → st.sasl ≡ state.Initial
        → ByTurn (ByScram E scram) (ByOauth oauth V) login st (named_by named_method read) reply → Turns reply
    turned_named read None reply reads named_method here h = refused login st.nonce st.sasl message _ reply h
    turned_named read (Some method) reply reads named_method here h =
        by_first login st.nonce st.sasl message p read method reply is reads named_method
        (subst (λ (s : SASLState). By (ByScram E scram) (ByOauth oauth V) login method
        (family.SASLInitialResponse read) st.nonce (entered method s) reply) here h)

    turned_first : (r : Result SASLInitialResponse PgWireError) (reply : Reply) → as_initial_response p ≡ r
        → st.sasl ≡ state.Initial → ByTurn (ByScram E scram) (ByOauth oauth V) login st (named_method r) reply
        → Turns reply
    turned_first (Err e) reply reads here h = refused login st.nonce st.sasl message e reply h
    turned_first (Ok read) reply reads here h =
        turned_named read (sasl_method read.auth_method) reply reads refl here h

    turned_further : (at : SASLState) (method : Method) (r : Result SASLResponse PgWireError) (reply : Reply)
        → as_response p ≡ r → st.sasl ≡ at → sasl_stage true at ≡ turn.Further method
        → ByTurn (ByScram E scram) (ByOauth oauth V) login st (further method r) reply → Turns reply
    turned_further at method (Err e) reply reads here stage h = refused login st.nonce st.sasl message e reply h
    turned_further at method (Ok read) reply reads here stage h =
        by_further login st.nonce st.sasl message p read at method reply is reads here stage
        (subst (λ (s : SASLState). By (ByScram E scram) (ByOauth oauth V) login method (family.SASLResponse read)
        st.nonce (entered method s) reply) here h)

    turned_at : (started : Bool) (at : SASLState) (reply : Reply) → st.started ≡ started → st.sasl ≡ at
        → ByTurn (ByScram E scram) (ByOauth oauth V) login st (turned (sasl_stage started at) p) reply
        → Turns reply
    turned_at false at reply on here h = refused login st.nonce st.sasl message _ reply h
    turned_at true state.Initial reply on here h = turned_first (as_initial_response p) reply refl here h
    turned_at true state.ScramClientFirstReceived reply on here h =
        turned_further state.ScramClientFirstReceived Scram
        (as_response p) reply refl here refl h
    turned_at true (state.ScramServerFirstSent waiting) reply on here h = turned_further
        (state.ScramServerFirstSent waiting) Scram (as_response p) reply refl here refl h
    turned_at true (state.StoredServerFirstSent waiting) reply on here h = turned_further
        (state.StoredServerFirstSent waiting) Scram (as_response p) reply refl here refl h
    turned_at true state.OauthStateInit reply on here h = turned_further state.OauthStateInit OauthBearer
        (as_response p) reply refl here refl h
    turned_at true state.OauthStateError reply on here h = turned_further state.OauthStateError OauthBearer
        (as_response p) reply refl here refl h
    turned_at true state.Finished reply on here h = refused login st.nonce st.sasl message _ reply h
    turned_at true state.Failed reply on here h = refused login st.nonce st.sasl message _ reply h

    -- a login that has not begun refuses
    begun_or_refused : (started : Bool) (at : SASLState) (reply : Reply)
        → ByTurn (ByScram E scram) (ByOauth oauth V) login st (turned (sasl_stage started at) p) reply
        → ((e : PgWireError) × (reply ≡ Err e)) ⊎ (started ≡ true)
    begun_or_refused false at reply h = inl (_, h)
    begun_or_refused true at reply h = inr refl

    means_replied : (reply : Reply) → Replied (ByScram E scram) (ByOauth oauth V) login st p reply → Turns reply
    means_replied reply (inl h) = refused login st.nonce st.sasl message _ reply h
    means_replied reply (inr h) = turned_at st.started st.sasl reply refl refl h

    begun_replied : (reply : Reply) → Replied (ByScram E scram) (ByOauth oauth V) login st p reply
        → ((e : PgWireError) × (reply ≡ Err e)) ⊎ (st.started ≡ true)
    begun_replied reply (inl h) = inl (_, h)
    begun_replied reply (inr h) = begun_or_refused st.started st.sasl reply h

  -- ---- what is kept on the way

  -- a state in which nothing is waited for
  abbrev Rests : SASLState → Type 0
  Rests at = (waiting : W) → at ≡ waits waiting → ⊥

  not_sent : (at : SASLState) → is_sent at ≡ false → Rests at
  not_sent at off waiting is =
      let both : true ≡ false = sym (apart.sent waiting) ∙ ap is_sent (sym is) ∙ off in
      absurd cc

  -- the exchange draws on the login's own nonce, and where it waits for client-final, server-first was offered
  IsOfferedBy : (is_set : Option (ScramAuth S)) → List ℕ → List Taken → Login → W → Type 0
  IsOfferedBy None nonce ts who waiting = ⊥
  IsOfferedBy (Some sc) nonce ts who waiting = IsOffered (G sc) nonce ts who waiting

  record KeepsOffer (nonce : List ℕ) (ts : List Taken) (who : Login) (st : LoginState) : Type 0 where
    pub own : st.nonce ≡ nonce
    pub rests : st.started ≡ false → Rests st.sasl
    pub offered : (waiting : W) → st.sasl ≡ waits waiting → IsOfferedBy scram nonce ts who waiting

  offered_on : (is_set : Option (ScramAuth S)) (nonce : List ℕ) (ts : List Taken) (more : Taken) (who : Login)
      (waiting : W) → IsOfferedBy is_set nonce ts who waiting
      → IsOfferedBy is_set nonce (ts ++ more ∷ []) who waiting
  unfolding IsOfferedBy
  offered_on None nonce ts more who waiting o = absurd o
  offered_on (Some sc) nonce ts more who waiting o = record {
    asked = o.asked;
    name = o.name;
    client_first = o.client_first;
    server_first = o.server_first;
    came = Contains-append_left ts (more ∷ []) o.asked o.came;
    first = o.first;
    under = o.under;
    gives = o.gives;
    told = o.told;
  }

  offer_stays : (nonce : List ℕ) (ts : List Taken) (more : Taken) (who : Login) (st : LoginState)
      → KeepsOffer nonce ts who st → KeepsOffer nonce (ts ++ more ∷ []) who st
  offer_stays nonce ts more who st k = record {
    own = k.own;
    rests = k.rests;
    offered = λ waiting is. offered_on scram
        nonce ts more who waiting (k.offered waiting is);
  }

  offer_rests : (nonce : List ℕ) (ts : List Taken) (who : Login) (st : LoginState) → st.nonce ≡ nonce
      → Rests st.sasl
      → KeepsOffer nonce ts who st
  offer_rests nonce ts who st own rests = record {
    own = own;
    rests = λ off. rests;
    offered = λ waiting is. absurd
        (rests waiting is);
  }

  proves_scram : (is_set : Option (ScramAuth S)) (begin : Stage) (ts : List Taken) (t : Taken) (login : Login)
      (waiting : W) (final verifier : List ℕ) → IsNamed begin.client ts login
      → IsOfferedBy is_set begin.login.nonce ts login waiting → IsFurther t.message final
      → T waiting final verifier → ProvesByScram Shows is_set begin ts t
  unfolding IsOfferedBy
  proves_scram None begin ts t login waiting final verifier named_method o is takes = absurd o
  proves_scram (Some sc) begin ts t login waiting final verifier named_method o is takes = record {
    login = login;
    waiting = waiting;
    client_final = final;
    server_final = verifier;
    named = named_method;
    offered = o;
    proof = is;
    takes = takes;
  }

  proves_token : (is_set : Option (Oauth X D)) (o : Oauth X D) (begin : Stage) (ts : List Taken) (t : Taken)
      (login : Login) (payload : List ℕ) → is_set ≡ Some o → IsNamed begin.client ts login
      → IsInitial t.message OauthBearer payload ⊎ IsFurther t.message payload → Bears o login payload
      → ProvesByToken V is_set begin ts t
  proves_token None o begin ts t login payload set named_method is b = absurd cc
  proves_token (Some other) o begin ts t login payload set named_method is b =
      let same : o ≡ other = cc in
      subst (λ (x : Oauth X D). ProvesToken (V x) x.issuer x.scope begin ts t) same
      (record {
        login = login;
        user = b.user;
        payload = payload;
        token = b.token;
        verdict = b.verdict;
        named = named_method;
        has_user = b.has_user;
        proof = is;
        has_token = b.has_token;
        judged = b.judged;
        authorized = b.authorized;
      })

  offers_now : (is_set : Option (ScramAuth S)) (sc : ScramAuth S) (nonce : List ℕ) (ts : List Taken) (t : Taken)
      (login : Login) (name first offer : List ℕ) (waiting : W) → is_set ≡ Some sc
      → IsInitial t.message Scram first
      → HasMethodName t.message name → G sc login name first nonce offer waiting
      → t.said ≡ backend.Authentication (auth.SASLContinue offer) ∷ []
      → IsOfferedBy is_set nonce (ts ++ t ∷ []) login waiting
  unfolding IsOfferedBy
  offers_now None sc nonce ts t login name first offer waiting set is under gives said = absurd cc
  offers_now (Some other) sc nonce ts t login name first offer waiting set is under gives said =
      let same : sc ≡ other = cc in
      subst (λ (x : ScramAuth S). IsOffered (G x) nonce (ts ++ t ∷ []) login waiting) same
      (record {
        asked = t;
        name = name;
        client_first = first;
        server_first = offer;
        came = Contains-push ts t;
        first = is;
        under = under;
        gives = gives;
        told = said;
      })

  module _ (P : LoginClient → Option Held → Type 0) (R : Option Known → ℤ → SecretKey → Option Known
      → Result (Option HandlePair) RegistryError → Type 0) (begin : Stage) where
    abbrev Proves : List Taken → Taken → Type 0
    Proves ts t = ProvesSasl Shows scram V oauth begin ts t

    abbrev Keeps : List Taken → Login → LoginState → Type 0
    Keeps ts who st = KeepsOffer begin.login.nonce ts who st

    abbrev Knows : List Taken → Standing → Type 0
    Knows ts s =
        IsKnown (ProvesSasl Shows scram V oauth begin) (KeepsOffer begin.login.nonce) begin.client ts s.client
        s.login

    abbrev GoesOn : List Taken → Taken → Standing → List Backend → Answer → Type 0
    GoesOn ts t after sent answer =
        Goes (ProvesSasl Shows scram V oauth begin) (KeepsOffer begin.login.nonce) begin.client
        ts t after sent answer

    -- ---- a reply that goes on

    abbrev On : List Backend → SASLState → Act
    On due next = Then (Sends due) (Then (Marks (with_sasl next)) LoginStays)

    quiet_on : (due : List Backend) (next : SASLState) → list_any lets_in due ≡ false → Quiet (On due next)
    quiet_on due next none =
        quiet_then (Sends due) (Then (Marks (with_sasl next)) LoginStays) (quiet_sends due none)
        (quiet_then (Marks (with_sasl next)) LoginStays (quiet_marks (with_sasl next)) quiet_passes)

    roots_on : (due : List Backend) (next : SASLState) → Roots (On due next)
    roots_on due next = roots_then (Sends due) (Then (Marks (with_sasl next)) LoginStays) (roots_sends due)
        (roots_then (Marks (with_sasl next)) LoginStays (roots_marked next) roots_passes)

    went_on : (due : List Backend) (next : SASLState) (before after : Standing) (sent : List Backend)
        (answer : Answer)
        → On due next before after sent answer → answer ≡ Ok tt → (after.client.state ≡ before.client.state)
        × (after.login.sasl ≡ next) × (sent ≡ due)
    went_on due next before after sent answer h ok =
        let b = then_both (Sends due) (Then (Marks (with_sasl next)) LoginStays) before after sent answer h ok in
        let c = then_both (Marks (with_sasl next)) LoginStays b.0 after b.2 (Ok tt) b.4 refl in
        let back : b.2 ≡ [] = c.5 ∙ ap (λ (l : List Backend). l ++ c.2) c.3.1 ∙ c.4.1 in (
          ap (λ (s : Standing). s.client.state) (c.4.0 ∙ c.3.0) ∙ ap (λ (s : Standing). s.client.state) b.3.0,
          ap (λ (s : Standing). s.login.sasl) (c.4.0 ∙ c.3.0),
          b.5 ∙ ap (λ (l : List Backend). l ++ b.2) b.3.1 ∙ ap (λ (l : List Backend). due ++ l) back
              ∙ append-nil due,
        )

    goes_on : (ts : List Taken) (t : Taken) (before after : Standing) (due sent : List Backend) (next : SASLState)
        (answer : Answer) → Knows ts before → before.login.started ≡ true → list_any lets_in due ≡ false
        → On due next before after sent answer → (sent ≡ due → after.login.nonce ≡ begin.login.nonce
        → after.login.sasl ≡ next
        → login_seen after.client ≡ login_seen before.client
        → Keeps (ts ++ t ∷ []) (login_seen after.client) after.login) → GoesOn ts t after sent answer
    goes_on ts t before after due sent next answer k on none h keeps =
        let same = roots_on due next before after sent answer h in
        record {
          says = λ says. quiet_says sent (quiet_on due next none before after sent answer h) says;
          keeps = λ ok. let w = went_on due next before after sent answer h ok in
              known_on (ProvesSasl Shows scram V oauth begin) (KeepsOffer begin.login.nonce) begin.client ts t
              before after
              k on same w.0 (keeps w.2 (ap (λ r. r.nonce) same ∙ k.keeps.own) w.1 (ap (λ r. r.who) same));
        }

    -- ---- a reply that lets in

    abbrev Lets : List Backend → Act
    Lets due = Then (Sends due) (Then (Marks (with_sasl state.Finished)) (Finishes P R))

    roots_lets : (due : List Backend) → Roots (Lets due)
    roots_lets due =
        roots_then (Sends due) (Then (Marks (with_sasl state.Finished)) (Finishes P R)) (roots_sends due)
        (roots_then (Marks (with_sasl state.Finished)) (Finishes P R) (roots_marked state.Finished)
        (roots_finishes P R))

    finished_at : (before after : Standing) (sent : List Backend) (answer : Answer)
        → Finishes P R before after sent answer → answer ≡ Ok tt → after.login.sasl ≡ state.Finished
    finished_at before after sent answer h ok =
        let b =
        then_both (AcceptsLogin R) (Then (FinishesAuthentication P) (Marks (with_sasl state.Finished))) before
        after
        sent answer h ok in
        let c =
        then_both (FinishesAuthentication P) (Marks (with_sasl state.Finished)) b.0 after b.2 (Ok tt) b.4 refl
        in
        ap (λ (s : Standing). s.login.sasl) c.4.0

    let_at : (due : List Backend) (before after : Standing) (sent : List Backend) (answer : Answer)
        → Lets due before after sent answer → answer ≡ Ok tt → after.login.sasl ≡ state.Finished
    let_at due before after sent answer h ok =
        let b =
        then_both (Sends due) (Then (Marks (with_sasl state.Finished)) (Finishes P R)) before after sent
        answer
        h ok in
        let c = then_both (Marks (with_sasl state.Finished)) (Finishes P R) b.0 after b.2 (Ok tt) b.4 refl in
        finished_at c.0 after c.2 (Ok tt) c.4 refl

    lets : (ts : List Taken) (t : Taken) (before after : Standing) (due sent : List Backend) (answer : Answer)
        → Knows ts before → before.login.started ≡ true → Proves ts t → Lets due before after sent answer
        → GoesOn ts t after sent answer
    lets ts t before after due sent answer k on proof h =
        let same = roots_lets due before after sent answer h in
        record {
          says = λ says. proof;
          keeps =
              λ ok. known_proven (ProvesSasl Shows scram V oauth begin) (KeepsOffer begin.login.nonce)
              begin.client ts
              t before after k on same proof
              (offer_rests begin.login.nonce (ts ++ t ∷ []) (login_seen after.client)
              after.login (ap (λ r. r.nonce)
              same ∙ k.keeps.own) (not_sent after.login.sasl (ap is_sent (let_at due before after sent answer h ok))));
        }

    -- ---- a password message

    responds : (ts : List Taken) (t : Taken) (before after : Standing) (sent : List Backend) (answer : Answer)
        (reply : Reply) → Knows ts before → before.login.started ≡ true → t.said ≡ sent
        → Meant (login_seen before.client) before.login.nonce before.login.sasl t.message reply
        → RespondsBy P R reply before after sent answer → GoesOn ts t after sent answer
    responds ts t before after sent answer reply k on said (refuses e) h = record {
      says = λ says. quiet_says sent (nothing_said sent h.1) says;
      keeps = λ ok. absurd
          (not_both answer e h.2 ok);
    }
    responds ts t before after sent answer reply k on said (offers sc name first offer waiting set is under gives)
        h =
        let due : List Backend = backend.Authentication (auth.SASLContinue offer) ∷ [] in
        let act : On due (waits waiting) before after sent answer = subst (λ (b : Bool). Then (Sends due)
        (Then (Marks (with_sasl (waits waiting))) (EndsSaslLogin P R b)) before after sent answer)
        (apart.goes_on waiting) h in
        goes_on ts t before after due sent (waits waiting) answer k on refl act (λ all own at who. record {
          own = own;
          rests = λ off. absurd (on_and_off after.login.started
              (ap (λ r. r.started) (roots_on due (waits waiting) before after sent answer act) ∙ on) off);
          offered = λ other is_other. let same : waiting ≡ other = apart.one waiting other (sym at ∙ is_other) in
              let by_own : G sc (login_seen before.client) name first begin.login.nonce offer waiting = subst
              (λ (n : List ℕ). G sc (login_seen before.client) name first n offer waiting) k.keeps.own gives in
              let mine : IsOfferedBy scram begin.login.nonce (ts ++ t ∷ []) (login_seen before.client) waiting =
              offers_now scram sc begin.login.nonce ts t (login_seen before.client) name first offer waiting set
              is
              under by_own (said ∙ all) in
              subst (IsOfferedBy scram begin.login.nonce (ts ++ t ∷ []) (login_seen after.client)) same
              (subst (λ (l : Login). IsOfferedBy scram begin.login.nonce (ts ++ t ∷ []) l waiting) (sym who)
              mine);
        })
    responds ts t before after sent answer reply k on said (accepts waiting final verifier at is takes) h =
        lets ts t before after (backend.Authentication (auth.SASLFinal verifier) ∷ []) sent answer k on
        (inl (proves_scram scram begin ts t (login_seen before.client) waiting final verifier (k.named on)
        (k.keeps.offered waiting at) is takes)) h
    responds ts t before after sent answer reply k on said (asks text) h =
        goes_on ts t before after (backend.Authentication (auth.SASLContinue text) ∷ []) sent state.OauthStateInit
        answer k on refl h (λ all own at who. offer_rests begin.login.nonce (ts ++ t ∷ [])
        (login_seen after.client) after.login own (not_sent after.login.sasl (ap is_sent at)))
    responds ts t before after sent answer reply k on said (tells text) h =
        goes_on ts t before after (backend.Authentication (auth.SASLContinue text) ∷ []) sent
        state.OauthStateError
        answer k on refl h (λ all own at who. offer_rests begin.login.nonce (ts ++ t ∷ [])
        (login_seen after.client) after.login own (not_sent after.login.sasl (ap is_sent at)))
    responds ts t before after sent answer reply k on said (bears o payload set is b) h =
        lets ts t before after [] sent answer k on
        (inr (proves_token oauth o begin ts t (login_seen before.client) payload set (k.named on) is b)) h

    refused_reply : (ts : List Taken) (t : Taken) (before after : Standing) (sent : List Backend)
        (answer : Answer)
        (reply : Reply) (e : PgWireError) → reply ≡ Err e → RespondsBy P R reply before after sent answer
        → GoesOn ts t after sent answer
    refused_reply ts t before after sent answer reply e is h =
        let r : LoginRefuses e before after sent answer =
        subst (λ (x : Reply). RespondsBy P R x before after sent answer)
        is h in
        record {
          says = λ says. quiet_says sent (nothing_said sent r.1) says;
          keeps = λ ok. absurd
              (not_both answer e r.2 ok);
        }

    sasl_on : (methods : List (List ℕ)) (ts : List Taken) (t : Taken) (m : Message) (h : Heard)
        (before after : Standing) (sent : List Backend) (answer : Answer) → Knows ts before → t.message ≡ m
        → t.said ≡ sent → heard m ≡ h → SaslOn methods (ByScram E scram) (ByOauth oauth V) P R h before after sent
        answer → GoesOn ts t after sent answer
    sasl_on methods ts t m (of.Startup s) before after sent answer k is said hears h = record {
      says = λ says. quiet_says sent (quiet_then (Opens s) (Offers methods) (quiet_opens s)
          (quiet_memory (Sends (sasl_request methods ∷ [])) (quiet_sends (sasl_request methods ∷ []) refl)) before
          after sent answer h) says;
      keeps = λ ok. let b = then_both (Opens s) (Offers methods) before after sent answer h ok in
          let o = opened s before b.0 b.1 (Ok tt) b.3 refl in
          let same : after ≡ b.0 = offered_to methods b.0 after b.2 (Ok tt) b.4 refl in
          let login : after.login ≡ with_started before.login = ap (λ x. x.login) same ∙ o.login in
          known_begun (ProvesSasl Shows scram V oauth begin) (KeepsOffer begin.login.nonce) begin.client ts t s
          before b.0
          after k (is ∙ heard_startup m s hears) o (ap (λ x. login_seen x.client) same)
          (ap (λ x. x.login.started) same) (ap (λ x. x.client.state) same)
          (offer_rests begin.login.nonce (ts ++ t ∷ []) (login_seen after.client) after.login
          (ap (λ (l : LoginState). l.nonce) login ∙ k.keeps.own)
          (λ waiting other. k.keeps.rests o.fresh waiting (sym (ap (λ (l : LoginState). l.sasl) login) ∙ other)));
    }
      where
        offered_to : (methods : List (List ℕ)) (before after : Standing) (sent : List Backend) (answer : Answer)
            → Offers methods before after sent answer → answer ≡ Ok tt → after ≡ before
        offered_to methods before after sent answer (inl h) ok = absurd (not_both answer _ h.2 ok)
        offered_to methods before after sent (Ok done) (inr h) ok = h.0
        offered_to methods before after sent (Err e) (inr h) ok = absurd (not_both (Err e) e refl ok)
    sasl_on methods ts t m (of.Password p) before after sent answer k is said hears h =
        let message : t.message ≡ frontend.PasswordMessageFamily p = is ∙ heard_password m p hears in
        elim (begun_replied (login_seen before.client) before.login t.message p message h.0 h.1) [
          | inl none ↦ refused_reply ts t before after sent answer h.0 none.0 none.1 h.2
          | inr on ↦ responds ts t before after sent answer h.0 k on said
              (means_replied (login_seen before.client) before.login t.message p message h.0 h.1) h.2
        ]
    sasl_on methods ts t m of.Other before after sent answer k is said hears h = record {
      says = λ says. quiet_says sent (nothing_said sent h.1) says;
      keeps =
          λ ok. known_passed (ProvesSasl Shows scram V oauth begin) (KeepsOffer begin.login.nonce) begin.client ts
          t
          before after k h.0 (λ more. offer_stays begin.login.nonce ts t (login_seen before.client) before.login more);
    }

    sasl_means : (methods : List (List ℕ)) (ts : List Taken) (t : Taken) (m : Message) (before after : Standing)
        (sent : List Backend) (answer : Answer) → Knows ts before → t.stage.client ≡ before.client
        → t.stage.login ≡ before.login → t.message ≡ m → t.said ≡ sent
        → SaslMeans methods (ByScram E scram) (ByOauth oauth V) P R m before after sent answer
        → GoesOn ts t after sent answer
    sasl_means methods ts t m before after sent (Ok done) k c l is said h =
        sasl_on methods ts t m (heard m) before
        after sent (Ok done) k is said refl h
    sasl_means methods ts t m before after sent (Err e) k c l is said h =
        let g = sasl_on methods ts t m (heard m) before h.0 sent (Err e) k is said refl h.1 in
        record { says = g.says; keeps = λ ok. absurd (not_both (Err e) e refl ok) }

  pub sasl_lets_in : (methods : List (List ℕ)) (P : LoginClient → Option Held → Type 0)
      (R : Option Known → ℤ → SecretKey → Option Known → Result (Option HandlePair) RegistryError → Type 0)
      → LetsInBy (SaslMeans methods (ByScram E scram) (ByOauth oauth V) P R) (ProvesSasl Shows scram V oauth)
  sasl_lets_in methods P R bound client login given course new way =
      guarded (SaslMeans methods (ByScram E scram) (ByOauth oauth V) P R)
      (ProvesSasl Shows scram V oauth (begins_within bound client login)) (KeepsOffer login.nonce) client
      (offer_stays login.nonce)
      (sasl_means P R (begins_within bound client login) methods) bound login given course (record {
        fresh = λ off. refl;
        named = λ on. on_and_off login.started on new.1;
        ready = λ is. never_ready client new.0 is;
        keeps =
            offer_rests login.nonce [] (login_seen client) login refl (not_sent login.sasl (ap is_sent new.2));
      }) way
