-- What the acts of a login say, and what they keep.
use Rattle.std.proofs.Common.{◌≡◌, inl, inr, Bool, true, false, ℕ, List, [], ◌∷◌, ◌++◌, Option, Some, None, Result, Ok, Err, refl, sym, ap, subst, ◌∙◌}
use Rattle.std.specs.Prelude.{ℤ, ◌||◌, ◌==◌, codes, is_some, if◌then◌else◌}
use Rattle.std.specs.FinMap as finite
use Rattle.std.specs.List.{list_any}
use Rattle.std.proofs.lemmas.List.Folds.{list_any-append}
use Rattle.pgw_types.specs.declared.error.PgWireError.{PgWireError}
use Rattle.pgw_types.specs.declared.context.ProtocolVersion.{ProtocolVersion}
use Rattle.pgw_types.specs.declared.context.ProtocolVersion.TheVariants.{PROTOCOL3_0, PROTOCOL3_2}
use Rattle.pgw_types.specs.declared.error.PgWireError.TheVariants.{UnsupportedProtocolVersion}
use Rattle.pgw_wire.specs.Pairs.{Held}
use Rattle.pgw_wire.specs.declared.secret_key.SecretKey.{SecretKey}
use Rattle.pgw_startup.specs.declared.startup.Startup.{Startup}
use Rattle.pgw_backend.specs.declared.backend.PgWireBackendMessage.{PgWireBackendMessage as Backend}
use Rattle.pgw_registry.specs.Passes.{Known}
use Rattle.pgw_registry.specs.declared.error.RegistryError.{RegistryError}
use Rattle.pgw_registry.specs.declared.error.RegistryError.TheVariants as registry
use Rattle.pgw_login.specs.Client.{LoginClient, with_state, with_metadata, with_version}
use Rattle.pgw_login.specs.Login.{Login, login_seen}
use Rattle.pgw_login.specs.Registered.{HandlePair}
use Rattle.pgw_login.specs.Acts.{Standing, standing_in_login, Answer, Act, Then, halts, LoginRefuses, LoginStays, AnswersLogin, Sets, Marks, Sends, OrFails, OrNoMemory, StartsLogin, StartsFrom, StartsLoginAt, is_initial, LoginAwaits, AwaitsAt, awaits, with_sasl, with_started, failed}
use Rattle.pgw_login.specs.Acts as acts
use Rattle.pgw_login.specs.Opening.{BeginsLogin, Opens, Negotiates, LoginSettlesVersion, negotiation, by_minor, offered_messages, Saves, saved, offer}
use Rattle.pgw_login.specs.Finish.{Draws, Entered, Enrolls, EnrollsAt, AcceptsLogin, Introduces, introduction, login_ready, Readies, FinishesAuthentication, Finishes}
use Rattle.pgw_login.specs.declared.client_info.PgWireConnectionState.TheVariants.{ReadyForQuery, AuthenticationInProgress}
use Rattle.pgw_login.specs.declared.state.LoginState.{LoginState}
use Rattle.pgw_login.specs.declared.state.SASLState.{SASLState}
use Rattle.pgw_login.specs.declared.state.SASLState.TheVariants.{Finished}
use Rattle.pgw_login_server.specs.Entry.{lets_in}

-- what answered is no refusal
pub not_both : (answer : Answer) (e : PgWireError) → answer ≡ Err e → answer ≡ Ok tt → ⊥
not_both answer e is ok = let both = sym is ∙ ok in absurd cc

-- an act that went on did both of its parts
pub then_both : (first next : Act) (before after : Standing) (sent : List Backend) (answer : Answer)
    → Then first next before after sent answer → answer ≡ Ok tt → (mid : Standing) × (front : List Backend)
    × (back : List Backend) × first before mid front (Ok tt)
    × next mid after back (Ok tt) × (sent ≡ front ++ back)
then_both first next before after sent answer (halts b a s e h) ok = absurd (not_both (Err e) e refl ok)
then_both first next before after sent answer (acts.goes b mid a front back r x y) ok =
    (mid, front, back, x, subst (next mid a back) ok y, refl)

-- ---- acts that let no client in

abbrev pub Quiet : Act → Type 0
Quiet act = (before after : Standing) (sent : List Backend) (answer : Answer) → act before after sent answer
    → list_any lets_in sent ≡ false

pub nothing_said : (sent : List Backend) → sent ≡ [] → list_any lets_in sent ≡ false
nothing_said sent is = ap (list_any lets_in) is

either : (a b : Bool) → a ≡ false → b ≡ false → (a || b) ≡ false
either false b ha hb = hb
either true b ha hb = absurd cc

neither : (a b : Bool) → (a || b) ≡ false → a ≡ false
neither false b h = refl
neither true b h = absurd cc

pub quiet_both : (front back : List Backend) → list_any lets_in front ≡ false → list_any lets_in back ≡ false
    → list_any lets_in (front ++ back) ≡ false
quiet_both front back a b = list_any-append lets_in front back
    ∙ either (list_any lets_in front) (list_any lets_in back) a b

quiet_front : (front back all : List Backend) → all ≡ front ++ back → list_any lets_in all ≡ false
    → list_any lets_in front ≡ false
quiet_front front back all is h = neither (list_any lets_in front) (list_any lets_in back)
    (sym (list_any-append lets_in front back) ∙ ap (list_any lets_in) (sym is) ∙ h)

pub quiet_then : (first next : Act) → Quiet first → Quiet next → Quiet (Then first next)
quiet_then first next hf hn before after sent answer (halts b a s e h) = hf b a s (Err e) h
quiet_then first next hf hn before after sent answer (acts.goes b mid a front back r x y) = quiet_both front back
    (hf b mid front (Ok tt) x) (hn mid a back r y)

pub quiet_sends : (due : List Backend) → list_any lets_in due ≡ false → Quiet (Sends due)
quiet_sends due none before after sent (Ok done) h = ap (list_any lets_in) h.1 ∙ none
quiet_sends due none before after sent (Err e) h = quiet_front sent (h.0 ∷ h.1) due h.2 none

pub quiet_memory : (act : Act) → Quiet act → Quiet (OrNoMemory act)
quiet_memory act q before after sent answer (inl h) = nothing_said sent h.1
quiet_memory act q before after sent answer (inr h) = q before after sent answer h

pub quiet_refuses : (e : PgWireError) → Quiet (LoginRefuses e)
quiet_refuses e before after sent answer h = nothing_said sent h.1

pub quiet_passes : Quiet LoginStays
quiet_passes before after sent answer h = nothing_said sent h.1

pub quiet_tells : (P : Standing → Answer → Type 0) → Quiet (AnswersLogin P)
quiet_tells P before after sent answer h = nothing_said sent h.1

pub quiet_sets : (f : LoginClient → LoginClient) → Quiet (Sets f)
quiet_sets f before after sent answer h = nothing_said sent h.1

pub quiet_marks : (f : LoginState → LoginState) → Quiet (Marks f)
quiet_marks f before after sent answer h = nothing_said sent h.1

quiet_starts_from : (b : Bool) → Quiet (StartsFrom b)
quiet_starts_from true before after sent answer h = nothing_said sent h.1
quiet_starts_from false before after sent answer h = nothing_said sent h.1

quiet_starts_at : (b : Bool) → Quiet (StartsLoginAt b)
quiet_starts_at true before after sent answer h = nothing_said sent h.1
quiet_starts_at false before after sent answer h =
    quiet_starts_from (is_initial before.login.sasl) before after sent answer h

quiet_starts : Quiet StartsLogin
quiet_starts before after sent answer h = quiet_starts_at before.login.started before after sent answer h

quiet_awaits_at : (b : Bool) → Quiet (AwaitsAt b)
quiet_awaits_at true before after sent answer h = nothing_said sent h.1
quiet_awaits_at false before after sent answer h = nothing_said sent h.1

pub quiet_awaits : Quiet LoginAwaits
quiet_awaits before after sent answer h = quiet_awaits_at (awaits before.login) before after sent answer h

-- it offers a version at the most
abbrev offers_at_most : Result (ProtocolVersion × Option Backend) PgWireError → Type 0
offers_at_most (Err e) = Unit {0}
offers_at_most (Ok (version, offered)) = list_any lets_in (offered_messages offered) ≡ false

quiet_settles : (r : Result (ProtocolVersion × Option Backend) PgWireError) → offers_at_most r
    → Quiet (LoginSettlesVersion r)
quiet_settles (Err e) none = quiet_refuses e
quiet_settles (Ok (version, offered)) none =
    quiet_then (Sends (offered_messages offered)) (Sets (with_version version))
    (quiet_sends (offered_messages offered) none) (quiet_sets (with_version version))

offers_by : (zero two : Bool) → offers_at_most (Ok (if zero then (PROTOCOL3_0, None) else (if two then (
  PROTOCOL3_2,
  None,
) else (PROTOCOL3_2, Some offer))))
offers_by true two = refl
offers_by false true = refl
offers_by false false = refl

offers_in : (three : Bool) (s : Startup) → offers_at_most
    (if three then Ok (by_minor s.protocol_number_minor) else Err
    (UnsupportedProtocolVersion s.protocol_number_major s.protocol_number_minor))
offers_in true s = offers_by (s.protocol_number_minor == 0) (s.protocol_number_minor == 2)
offers_in false s = tt

quiet_begins : (s : Startup) → Quiet (BeginsLogin s)
quiet_begins s = quiet_then StartsLogin (Then (Negotiates s) (Saves s)) quiet_starts
    (quiet_then (Negotiates s) (Saves s)
    (quiet_settles (negotiation s) (offers_in (s.protocol_number_major == 3) s))
    (quiet_memory (Sets _) (quiet_sets _)))

pub quiet_opens : (s : Startup) → Quiet (Opens s)
quiet_opens s = quiet_then (BeginsLogin s) (Sets (with_state AuthenticationInProgress)) (quiet_begins s)
    (quiet_sets (with_state AuthenticationInProgress))

-- ---- acts that keep who logs in

-- who logs in, what its login draws its nonce from, whether it has begun, and the text that is kept
pub record Root : Type 0 where
  pub who : Login
  pub nonce : List ℕ
  pub started : Bool
  pub kept : Option (List ℕ)

abbrev pub root : Standing → Root
root s =
    record { who = login_seen s.client; nonce = s.login.nonce; started = s.login.started; kept = s.login.kept }

abbrev pub Roots : Act → Type 0
Roots act = (before after : Standing) (sent : List Backend) (answer : Answer) → act before after sent answer
    → root after ≡ root before

pub roots_then : (first next : Act) → Roots first → Roots next → Roots (Then first next)
roots_then first next hf hn before after sent answer (halts b a s e h) = hf b a s (Err e) h
roots_then first next hf hn before after sent answer (acts.goes b mid a front back r x y) = hn mid a back r y
    ∙ hf b mid front (Ok tt) x

pub roots_sends : (due : List Backend) → Roots (Sends due)
roots_sends due before after sent (Ok done) h = ap root h.0
roots_sends due before after sent (Err e) h = ap root h.3

pub roots_memory : (act : Act) → Roots act → Roots (OrNoMemory act)
roots_memory act r before after sent answer (inl h) = ap root h.0
roots_memory act r before after sent answer (inr h) = r before after sent answer h

pub roots_refuses : (e : PgWireError) → Roots (LoginRefuses e)
roots_refuses e before after sent answer h = ap root h.0

pub roots_passes : Roots LoginStays
roots_passes before after sent answer h = ap root h.0

pub roots_tells : (P : Standing → Answer → Type 0) → Roots (AnswersLogin P)
roots_tells P before after sent answer h = ap root h.0

pub roots_marked : (sasl : SASLState) → Roots (Marks (with_sasl sasl))
roots_marked sasl before after sent answer h = ap root h.0

roots_set : Roots (Sets (with_state ReadyForQuery))
roots_set before after sent answer h = ap root h.0

roots_awaits_at : (b : Bool) → Roots (AwaitsAt b)
roots_awaits_at true before after sent answer h = ap root h.0
roots_awaits_at false before after sent answer h = ap root h.0

pub roots_awaits : Roots LoginAwaits
roots_awaits before after sent answer h = roots_awaits_at (awaits before.login) before after sent answer h

roots_draws : Roots Draws
roots_draws before after sent (Ok done) h = ap root h.1.3
roots_draws before after sent (Err e) h = ap root h.1

roots_entered : (got : Result (Option HandlePair) RegistryError) (pass : Option Known) (before after : Standing)
    (answer : Answer) → Entered got pass before after answer → root after ≡ root before
roots_entered (Ok pair) pass before after answer h = ap root h.0
roots_entered (Err registry.Gone) pass before after answer h = absurd h
roots_entered (Err registry.Exhausted) pass before after answer h = ap root h.0
roots_entered (Err registry.OutOfMemory) pass before after answer h = ap root h.0

module _ (P : LoginClient → Option Held → Type 0) (R : Option Known → ℤ → SecretKey → Option Known
    → Result (Option HandlePair) RegistryError → Type 0) where
  roots_enrolls_at : (b : Bool) → Roots (EnrollsAt b R)
  roots_enrolls_at true before after sent answer h = ap root h.0
  roots_enrolls_at false before after sent answer h = roots_entered h.1.1 h.1.0 before after answer h.1.3

  roots_enrolls : Roots (Enrolls R)
  roots_enrolls before after sent answer h = roots_enrolls_at (is_some before.login.registered) before after sent
      answer h

  roots_introduces : Roots (Introduces P)
  roots_introduces before after sent answer (inl h) = ap root h.0
  roots_introduces before after sent answer (inr h) =
      roots_sends (introduction before.client h.0) before after sent
      answer h.2

  pub roots_finishes : Roots (Finishes P R)
  roots_finishes = roots_then (AcceptsLogin R) (Then (FinishesAuthentication P) (Marks (with_sasl Finished)))
      (roots_then Draws (Enrolls R) roots_draws roots_enrolls)
      (roots_then (FinishesAuthentication P) (Marks (with_sasl Finished))
      (roots_then (Introduces P) (Readies login_ready)
      roots_introduces (roots_then (Sends (login_ready ∷ [])) (Sets (with_state ReadyForQuery))
      (roots_sends (login_ready ∷
      [])) roots_set)) (roots_marked Finished))

-- ---- how a login begins

settled_client : (r : Result (ProtocolVersion × Option Backend) PgWireError) (before after : Standing)
    (sent : List Backend) (answer : Answer) → LoginSettlesVersion r before after sent answer → answer ≡ Ok tt
    → (after.client.metadata ≡ before.client.metadata) × (after.client.host ≡ before.client.host)
    × (after.login ≡ before.login)
settled_client (Err e) before after sent answer h ok = absurd (not_both answer e h.2 ok)
settled_client (Ok (version, offered)) before after sent answer h ok =
    let b =
    then_both (Sends (offered_messages offered)) (Sets (with_version version)) before after sent answer h ok
    in (
      ap (λ s. s.client.metadata) b.4.0 ∙ ap (λ s. s.client.metadata) b.3.0,
      ap (λ s. s.client.host) b.4.0
          ∙ ap (λ s. s.client.host) b.3.0,
      ap (λ s. s.login) b.4.0 ∙ ap (λ s. s.login) b.3.0,
    )

saved_client : (s : Startup) (before after : Standing) (sent : List Backend) (answer : Answer)
    → Saves s before after sent answer → answer ≡ Ok tt
    → (after.client.metadata ≡ saved before.client.metadata s.parameters)
    × (after.client.host ≡ before.client.host)
    × (after.login ≡ before.login)
saved_client s before after sent answer (inl h) ok = absurd (not_both answer _ h.2 ok)
saved_client s before after sent answer (inr h) ok =
    (ap (λ s. s.client.metadata) h.0, ap (λ s. s.client.host) h.0, ap (λ s. s.login) h.0)

started_from : (b : Bool) (before after : Standing) (sent : List Backend) (answer : Answer)
    → StartsFrom b before after sent answer → answer ≡ Ok tt
    → after ≡ record before { login = with_started before.login }
started_from true before after sent answer h ok = h.0
started_from false before after sent answer h ok = absurd (not_both answer _ h.2 ok)

started_at : (b : Bool) (before after : Standing) (sent : List Backend) (answer : Answer)
    → StartsLoginAt b before after sent answer → answer ≡ Ok tt → (b ≡ false)
    × (after ≡ record before { login = with_started before.login })
started_at true before after sent answer h ok = absurd (not_both answer _ h.2 ok)
started_at false before after sent answer h ok =
    (refl, started_from (is_initial before.login.sasl) before after sent answer h ok)

seen_same : (c d : LoginClient) → c.metadata ≡ d.metadata → c.host ≡ d.host → login_seen c ≡ login_seen d
seen_same c d metadata host =
    ap (λ (m : Held). record {
      user = finite.get m (codes "user");
      database = finite.get m (codes "database");
      host =
          c.host;
    }) metadata
    ∙ ap (λ (h : List ℕ). record {
      user = finite.get d.metadata (codes "user");
      database = finite.get d.metadata
          (codes "database");
      host = h;
    }) host

-- a login begins that had not, for the client with what it gave
pub record IsOpened (s : Startup) (before after : Standing) : Type 0 where
  pub fresh : before.login.started ≡ false
  pub login : after.login ≡ with_started before.login
  pub who : login_seen after.client ≡ login_seen (with_metadata (saved before.client.metadata s.parameters)
      before.client)
  pub state : after.client.state ≡ AuthenticationInProgress

pub opened : (s : Startup) (before after : Standing) (sent : List Backend) (answer : Answer)
    → Opens s before after sent answer → answer ≡ Ok tt → IsOpened s before after
opened s before after sent answer h ok =
    let outer =
    then_both (BeginsLogin s) (Sets (with_state AuthenticationInProgress)) before after sent answer h ok in
    let begun =
    then_both StartsLogin (Then (Negotiates s) (Saves s)) before outer.0 outer.1 (Ok tt) outer.3 refl in
    let on = started_at before.login.started before begun.0 begun.1 (Ok tt) begun.3 refl in
    let inner = then_both (Negotiates s) (Saves s) begun.0 outer.0 begun.2 (Ok tt) begun.4 refl in
    let settled = settled_client (negotiation s) begun.0 inner.0 inner.1 (Ok tt) inner.3 refl in
    let kept = saved_client s inner.0 outer.0 inner.2 (Ok tt) inner.4 refl in
    let client : begun.0.client ≡ before.client = ap (λ x. x.client) on.1 in
    let metadata : after.client.metadata ≡ saved before.client.metadata s.parameters =
    ap (λ x. x.client.metadata) outer.4.0 ∙ kept.0
    ∙ ap (λ (m : Held). saved m s.parameters) (settled.0 ∙ ap (λ c. c.metadata) client) in
    let host : after.client.host ≡ before.client.host = ap (λ x. x.client.host) outer.4.0 ∙ kept.1 ∙ settled.1
    ∙ ap (λ c. c.host) client in
    record {
      fresh = on.0;
      login = ap (λ x. x.login) outer.4.0 ∙ kept.2 ∙ settled.2 ∙ ap (λ x. x.login) on.1;
      who = seen_same after.client (with_metadata (saved before.client.metadata s.parameters) before.client)
          metadata
          host;
      state = ap (λ x. x.client.state) outer.4.0;
    }
