-- A session's login is bound to the client's own hash where it can be, and where it must be.
use Rattle.std.proofs.Common.{◌≡◌, ◌≢◌, ℕ, Bool, true, false, List, [], ◌∷◌, ◌++◌, map, codes, Option, Some, None, is_some, option_map, Result, Ok, Err, refl, sym, ap, ◌∙◌, subst}
use Rattle.std.specs.Prelude.{◌&&◌}
use Rattle.std.proofs.lemmas.List.{append-nil}
use Rattle.pgw_types.specs.declared.error.ScramMessageFault.{ScramMessageFault}
use Rattle.pgw_types.specs.declared.scram_error.ScramClientError.{ScramClientError}
use Rattle.pgw_startup.specs.declared.authentication.Authentication.TheVariants as authentication
use Rattle.pgw_startup.specs.declared.password.PasswordMessageFamily.TheVariants as family
use Rattle.pgw_backend.specs.declared.backend.PgWireBackendMessage.{PgWireBackendMessage as Backend}
use Rattle.pgw_backend.specs.declared.backend.PgWireBackendMessage.TheVariants as backend
use Rattle.pgw_backend.specs.declared.client_error.PgWireClientError.{PgWireClientError as ClientError}
use Rattle.pgw_backend.specs.ClientError.{of_scram}
use Rattle.pgw_frontend.specs.declared.frontend.PgWireFrontendMessage.{PgWireFrontendMessage as Frontend}
use Rattle.pgw_frontend.specs.declared.frontend.PgWireFrontendMessage.TheVariants as frontend
use Rattle.pgw_config.specs.declared.config.ChannelBinding.TheVariants as channel_binding
use Rattle.pgw_scram.specs.declared.binding.ClientBinding.{ClientBinding}
use Rattle.pgw_scram.specs.declared.messages.ServerFirst.{ServerFirst}
use Rattle.pgw_scram.specs.Answers.{unless_so, first_of}
use Rattle.pgw_scram.specs.Base64.{salt_of}
use Rattle.pgw_scram.specs.Exchange.{client_first, client_final}
use Rattle.pgw_scram.specs.Readers.{read_server_first}
use Rattle.pgw_scram.specs.Refusals.{parts_refusal, begins_with}
use Rattle.pgw_session.specs.Bound.{LogsInBound, LetsNoneIn, bound_exchange, binding_first, binding_last}
use Rattle.pgw_session.specs.Events.{Event, Sent, Got, sents}
use Rattle.pgw_session.specs.Input.{Input}
use Rattle.pgw_session.specs.Logins.{SessionLogin, Unasked, Cleartext, Md5, Scram, login_events, must_bind, is_required, takes_by, takes_method, offers, method_of, scram_login, first_message, final_message, IsAccepted}
use Rattle.pgw_session.specs.Segments.{AreAll, IsGreeting, IsStartupSegment, IsUpToReady, is_early, is_news, startup_message}
use Rattle.pgw_session.proofs.Hears.{sents_append}
use Rattle.pgw_session.proofs.Events.{sents_gots}
use Rattle.pgw_session.proofs.LoginTexts.{binds, bound_final, names_end}

-- ---- a SCRAM login that was accepted

accepted_first : (nonce : List ℕ) (r : Result ServerFirst ScramMessageFault)
    → option_map of_scram (parts_refusal nonce r) ≡ None
    → (parts : ServerFirst) × (r ≡ Ok parts) × (salt : List ℕ) × (salt_of parts.salt ≡ Some salt)
accepted_first nonce (Err why) is = cc
accepted_first nonce (Ok parts) is =
    let s = has_salt (begins_with parts.nonce nonce) (salt_of parts.salt) _ _ is in (parts, refl, s.0, s.1)
  where
    has_salt : (b : Bool) (o : Option (List ℕ)) (x y : ScramClientError)
        → option_map of_scram (first_of (unless_so b x) (unless_so (is_some o) y)) ≡ None
        → (salt : List ℕ) × (o ≡ Some salt)
    has_salt b (Some salt) x y is = (salt, refl)
    has_salt true None x y is = cc
    has_salt false None x y is = cc

scram_bound : (input : Input) (hash : List ℕ) (methods : List (List ℕ)) (first final : List ℕ)
    (before behind es : List Event)
    → (input.config).certificate_hash ≡ Some hash → (input.config).channel_binding ≢ channel_binding.Disable
    → offers (codes "SCRAM-SHA-256-PLUS") methods ≡ true → IsAccepted input (Scram methods first final)
    → es ≡ before ++ (login_events input (Scram methods first final) ++ behind)
    → sents before ≡ startup_message input ∷ [] → sents behind ≡ [] → LogsInBound input hash before es
scram_bound input hash methods first final before behind es own allowed offered accepted are alone quiet =
    let login = scram_login input methods in
    let a = accepted_first login.nonce (read_server_first first) accepted.1 in
    let is = binds input methods hash own allowed offered in
    let exchanged =
    are ∙ ap (λ (b : ClientBinding). before ++
    (Got (backend.Authentication (authentication.SASL methods)) ∷ Sent
    (frontend.PasswordMessageFamily
    (family.SASLInitialResponse
    (record { auth_method = method_of b; payload = Some (client_first login) })))
    ∷ Got (backend.Authentication (authentication.SASLContinue first)) ∷ Sent (final_message login first) ∷ Got
    (backend.Authentication (authentication.SASLFinal final)) ∷ behind)) is in
    record {
      methods = methods;
      opening = client_first login;
      first = first;
      last = client_final login first;
      final = final;
      parts = a.0;
      behind = behind;
      are = exchanged;
      begins = names_end login hash is;
      read = a.1;
      bound = bound_final input methods hash first a.2 a.0 own allowed offered a.1 a.3;
      sends = ap sents exchanged
          ∙ sents_append before
          (bound_exchange methods (client_first login) first (client_final login first) final ++ behind)
          ∙ ap (λ (l : List Frontend). l ++ binding_first (client_first login) ∷ binding_last
          (client_final login first) ∷ sents behind) alone
          ∙ ap (λ (l : List Frontend). startup_message input ∷ binding_first (client_first login) ∷ binding_last
          (client_final login first) ∷ l) quiet;
    }

-- what is sent before the login block, and behind it
alone_in : (input : Input) (news : List Backend)
    → sents (Sent (startup_message input) ∷ map Got news) ≡ startup_message input ∷ []
alone_in input news = ap (λ (l : List Frontend). startup_message input ∷ l) (sents_gots [] news)

quiet_to : (es : List Event) → IsUpToReady is_news es → sents es ≡ []
quiet_to es r =
    ap sents r.are ∙ sents_append (map Got r.ms) (Got (backend.ReadyForQuery r.ready) ∷ [])
    ∙ ap (λ (l : List Frontend). l ++ []) (sents_gots [] r.ms)

-- ---- where a login must be bound

none_in : (news : List Backend) → AreAll (is_early true) news → LetsNoneIn (map Got news)
none_in [] all = tt
none_in (backend.Authentication authentication.Ok ∷ news) all = let e = all.0 in absurd cc
none_in (backend.Authentication a ∷ news) all = let e = all.0 in absurd cc
none_in (backend.ReadyForQuery m ∷ news) all = let e = all.0 in absurd cc
none_in (m ∷ news) all = none_in news all.1

taken_if : (b : Bool) (x : ClientError) (o : Option ClientError) → first_of (unless_so b x) o ≡ None → b ≡ true
taken_if true x o is = refl
taken_if false x o is = absurd cc

both_so : (o : Option (List ℕ)) (b : Bool) → (is_some o && b) ≡ true
    → ((hash : List ℕ) × (o ≡ Some hash)) × (b ≡ true)
both_so None b is = absurd cc
both_so (Some hash) b is = ((hash, refl), is)

pub required : (input : Input) (es : List Event) → (input.config).channel_binding ≡ channel_binding.Require
    → IsStartupSegment input es
    → (hash : List ℕ) × ((input.config).certificate_hash ≡ Some hash) × (before : List Event) × LetsNoneIn before
    × LogsInBound input hash before es
required input es is s = go g.login g.are g.accepted
  where
    g : IsGreeting input s.0
    g = s.2

    must : must_bind input ≡ true
    must = ap is_required is

    allowed : (input.config).channel_binding ≢ channel_binding.Disable
    allowed off = let e : channel_binding.Require ≡ channel_binding.Disable = sym is ∙ off in cc

    before : List Event
    before = Sent (startup_message input) ∷ map Got g.news

    go : (login : SessionLogin) → s.0 ≡ map Got g.news ++ (login_events input login ++ g.rest)
        → IsAccepted input login
        → (hash : List ℕ) × ((input.config).certificate_hash ≡ Some hash) × (before : List Event)
        × LetsNoneIn before × LogsInBound input hash before es
    go Unasked are accepted = absurd (let e : true ≡ false = sym must ∙ accepted in cc)
    go Cleartext are accepted = absurd (let e : true ≡ false = sym must ∙ accepted in cc)
    go (Md5 salt) are accepted = absurd (let e : true ≡ false = sym must ∙ accepted in cc)
    go (Scram methods first final) are accepted =
        let taken : takes_method input methods ≡ true = taken_if (takes_method input methods) _ _ accepted.0 in
        let b = both_so (input.config).certificate_hash (offers (codes "SCRAM-SHA-256-PLUS") methods)
        (ap (λ mode. takes_by mode (is_some (input.config).certificate_hash)
        (offers (codes "SCRAM-SHA-256-PLUS") methods) (offers (codes "SCRAM-SHA-256") methods)) (sym is)
        ∙ taken) in (
          b.0.0,
          b.0.1,
          before,
          none_in g.news (subst (λ x. AreAll (is_early x) g.news) must g.all),
          scram_bound input b.0.0 methods first final before g.rest es b.0.1 allowed b.1 accepted (s.1
              ∙ ap (λ (l : List Event). Sent (startup_message input) ∷ l) are) (alone_in input g.news)
              (quiet_to g.rest g.ends),
        )

-- ---- where a login can be bound

-- a request to log in by one of some methods
abbrev asks : Event → Bool
asks (Got (backend.Authentication (authentication.SASL methods))) = true
asks e = false

abbrev AsksNone : List Event → Type 0
AsksNone [] = Unit {0}
AsksNone (e ∷ es) = (asks e ≡ false) × AsksNone es

skip : (xs ys before later : List Event) (e : Event) → AsksNone xs → asks e ≡ true
    → xs ++ ys ≡ before ++ e ∷ later → (mid : List Event) × (before ≡ xs ++ mid) × (ys ≡ mid ++ e ∷ later)
skip [] ys before later e none is are = (before, refl, are)
skip (x ∷ xs) ys [] later e none is are = absurd (let same : x ≡ e = cc in let one = none.0 in cc)
skip (x ∷ xs) ys (y ∷ before) later e none is are =
    let same : y ≡ x = cc in
    let rest : xs ++ ys ≡ before ++ e ∷ later = cc in
    let r = skip xs ys before later e none.1 is rest in
    (r.0, ap (λ (l : List Event). y ∷ l) r.1 ∙ ap (λ (z : Event). z ∷ (xs ++ r.0)) same, r.2)

nowhere : (xs before later : List Event) (e : Event) → AsksNone xs → asks e ≡ true → xs ≡ before ++ e ∷ later → ⊥
nowhere [] [] later e none is are = cc
nowhere [] (y ∷ before) later e none is are = cc
nowhere (x ∷ xs) [] later e none is are = let same : x ≡ e = cc in let one = none.0 in cc
nowhere (x ∷ xs) (y ∷ before) later e none is are = nowhere xs before later e none.1 is (cc)

news_asks : (m : Backend) → is_news m ≡ true → asks (Got m) ≡ false
news_asks (backend.Authentication authentication.Ok) is = refl
news_asks (backend.Authentication a) is = absurd cc
news_asks m is = refl

early_asks : (b : Bool) (m : Backend) → is_early b m ≡ true → asks (Got m) ≡ false
early_asks b (backend.Authentication authentication.Ok) is = refl
early_asks b (backend.Authentication a) is = absurd cc
early_asks b m is = refl

early_none : (b : Bool) (news : List Backend) → AreAll (is_early b) news → AsksNone (map Got news)
early_none b [] all = tt
early_none b (m ∷ news) all = (early_asks b m all.0, early_none b news all.1)

ready_none : (es : List Event) → IsUpToReady is_news es → AsksNone es
ready_none es r = subst AsksNone (sym r.are) (go r.ms r.all)
  where
    go : (ms : List Backend) → AreAll is_news ms
        → AsksNone (map Got ms ++ Got (backend.ReadyForQuery r.ready) ∷ [])
    go [] all = (refl, tt)
    go (m ∷ ms) all = (news_asks m all.0, go ms all.1)

-- a SCRAM login behind the request for it
abbrev behind_asked : Input → List (List ℕ) → List ℕ → List ℕ → List Event
behind_asked input methods first final =
    Sent (first_message (scram_login input methods)) ∷ Got
    (backend.Authentication (authentication.SASLContinue first)) ∷ Sent
    (final_message (scram_login input methods) first) ∷ Got
    (backend.Authentication (authentication.SASLFinal final)) ∷ []

pub offered : (input : Input) (es before later : List Event) (methods : List (List ℕ)) (hash : List ℕ)
    → IsStartupSegment input es → (input.config).certificate_hash ≡ Some hash
    → (input.config).channel_binding ≢ channel_binding.Disable
    → es ≡ before ++ Got (backend.Authentication (authentication.SASL methods)) ∷ later
    → offers (codes "SCRAM-SHA-256-PLUS") methods ≡ true → LogsInBound input hash before es
offered input es before later methods hash s own allowed asked offer = go g.login g.accepted k.0 k.1 k.2
  where
    g : IsGreeting input s.0
    g = s.2

    e : Event
    e = Got (backend.Authentication (authentication.SASL methods))

    front : List Event
    front = Sent (startup_message input) ∷ map Got g.news

    whole : es ≡ front ++ (login_events input g.login ++ g.rest)
    whole = s.1 ∙ ap (λ (l : List Event). Sent (startup_message input) ∷ l) g.are

    k : (mid : List Event) × (before ≡ front ++ mid) × (login_events input g.login ++ g.rest ≡ mid ++ e ∷ later)
    k = skip front (login_events input g.login ++ g.rest) before later e
        (refl, early_none (must_bind input) g.news g.all) refl (sym whole ∙ asked)

    rest_none : AsksNone g.rest
    rest_none = ready_none g.rest g.ends

    go : (login : SessionLogin) → IsAccepted input login → (mid : List Event) → before ≡ front ++ mid
        → login_events input login ++ g.rest ≡ mid ++ e ∷ later → LogsInBound input hash before es
    go Unasked accepted mid at are = absurd (nowhere g.rest mid later e rest_none refl are)
    go Cleartext accepted mid at are =
        let none : AsksNone (login_events input Cleartext ++ g.rest) = (refl, (refl, rest_none)) in
        absurd (nowhere (login_events input Cleartext ++ g.rest) mid later e none refl are)
    go (Md5 salt) accepted mid at are =
        let none : AsksNone (login_events input (Md5 salt) ++ g.rest) = (refl, (refl, rest_none)) in
        absurd (nowhere (login_events input (Md5 salt) ++ g.rest) mid later e none refl are)
    go (Scram asked_by first final) accepted (y ∷ mid) at are =
        let tail : List Event = behind_asked input asked_by first final ++ g.rest in
        let none : AsksNone tail = (refl, (refl, (refl, (refl, rest_none)))) in
        let rest : tail ≡ mid ++ e ∷ later = cc in
        absurd (nowhere tail mid later e none refl rest)
    go (Scram asked_by first final) accepted [] at are =
        let same : methods ≡ asked_by = cc in
        let same_front : before ≡ front = at ∙ append-nil front in
        let events : login_events input (Scram asked_by first final) ++ g.rest ≡ e ∷ later = are in
        scram_bound input hash asked_by first final before g.rest es own allowed
        (ap (offers (codes "SCRAM-SHA-256-PLUS")) (sym same)
        ∙ offer) accepted
        (asked ∙ ap (λ (l : List Event). before ++ l) (sym events)) (ap sents same_front
        ∙ alone_in input g.news) (quiet_to g.rest g.ends)
