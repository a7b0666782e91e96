-- What acts of the server came to.
use Rattle.std.proofs.Common.{◌≡◌, ◌≢◌, arith, ◌⊎◌, inl, inr, ℕ, Bool, true, false, List, [], ◌∷◌, ◌++◌, None, Ok, Err, refl, sym, ap, subst, ◌∙◌}
use Rattle.pgw_types.specs.declared.error.PgWireError.{PgWireError}
use Rattle.pgw_startup.specs.declared.startup.Startup.{Startup}
use Rattle.pgw_backend.specs.Backend.{backend_encoding}
use Rattle.pgw_backend.specs.declared.backend.PgWireBackendMessage.{PgWireBackendMessage as Backend}
use Rattle.pgw_frontend.specs.declared.frontend.PgWireFrontendMessage.TheVariants as frontend
use Rattle.pgw_types.specs.declared.error.PgWireError.TheVariants.{OutOfMemory}
use Rattle.pgw_types.specs.declared.context.ProtocolVersion.TheVariants.{PROTOCOL3_0}
use Rattle.pgw_login.specs.Client.{LoginClient, with_version, with_metadata, with_state}
use Rattle.pgw_login.specs.declared.client_info.PgWireConnectionState.TheVariants.{AuthenticationInProgress}
use Rattle.pgw_login.specs.Acts.{Standing, Answer, Then, halts, goes, LoginRefuses, OrNoMemory, Sets, Sends, StartsLogin, StartsFrom, StartsLoginAt, is_initial, with_started}
use Rattle.pgw_login.specs.Opening.{BeginsLogin, Opens, Negotiates, LoginSettlesVersion, negotiation, by_minor, offered_messages, saved, Saves}
use Rattle.pgw_login_sasl.specs.Sasl.{Offers, sasl_request}
use Rattle.pgw_login_pair.specs.declared.parties.PairInput.{PairInput}
use Rattle.pgw_login_pair.specs.Server.{Means, methods}

-- behind the startup message

abbrev opened_client : Startup → LoginClient → LoginClient
opened_client s c =
    with_state AuthenticationInProgress
    (with_metadata (saved c.metadata s.parameters) (with_version PROTOCOL3_0 c))

abbrev pub opened : Startup → Standing → Standing
opened s before = record before { client = opened_client s before.client; login = with_started before.login }

abbrev pub Act : Type 1
Act = Standing → Standing → List Backend → Answer → Type 0

-- ---- one act and then the next

pub record Went (first next : Act) (before after : Standing) (sent : List Backend) (answer : Answer) : Type 0
  where
    pub mid : Standing
    pub front : List Backend
    pub back : List Backend
    pub one : first before mid front (Ok tt)
    pub two : next mid after back answer
    pub all : sent ≡ front ++ back

pub ok_is_no_error : {e : PgWireError} {answer : Answer} → answer ≡ Err e → answer ≡ Ok tt → ⊥
ok_is_no_error a b = let h = sym a ∙ b in absurd cc

pub then_ok : (first next : Act) (before after : Standing) (sent : List Backend) (answer : Answer)
    → Then first next before after sent answer → answer ≡ Ok tt → Went first next before after sent (Ok tt)
then_ok first next before after sent answer (halts b a s e h) ok = absurd (ok_is_no_error {e = e} refl ok)
then_ok first next before after sent answer (goes b mid a front back r x y) ok =
    record { mid = mid; front = front; back = back; one = x; two = subst (next mid a back) ok y; all = refl }

pub err_is : {e d : PgWireError} → ◌≡◌ {A = Answer} (Err e) (Err d) → e ≡ d
err_is h = cc

pub then_err : (first next : Act) (before after : Standing) (sent : List Backend) (answer : Answer)
    (e : PgWireError)
    → Then first next before after sent answer → answer ≡ Err e
    → first before after sent (Err e) ⊎ Went first next before after sent (Err e)
then_err first next before after sent answer e (halts b a s d h) is = inl (subst (first b a s) is h)
then_err first next before after sent answer e (goes b mid a front back r x y) is =
    inr (record { mid = mid; front = front; back = back; one = x; two = subst (next mid a back) is y; all = refl })

-- ---- the startup message

-- an act that is one of two, and went well, was the second
pub not_refused : (act : Act) (e : PgWireError) (before after : Standing) (sent : List Backend)
    → LoginRefuses e before after sent (Ok tt) ⊎ act before after sent (Ok tt) → act before after sent (Ok tt)
not_refused act e before after sent (inl h) = absurd (ok_is_no_error {e = e} h.2 refl)
not_refused act e before after sent (inr h) = h

started_from : (b : Bool) (before after : Standing) (sent : List Backend) → StartsFrom b before after sent (Ok tt)
    → (after ≡ record before { login = with_started before.login }) × (sent ≡ [])
started_from true before after sent h = (h.0, h.1)
started_from false before after sent h = absurd (let z = h.2 in cc)

started_by : (b : Bool) (before after : Standing) (sent : List Backend) → b ≡ false
    → StartsLoginAt b before after sent (Ok tt)
    → (after ≡ record before { login = with_started before.login }) × (sent ≡ [])
started_by true before after sent is h = absurd (let z = is in cc)
started_by false before after sent is h = started_from (is_initial (before.login).sasl) before after sent h

settled_by : (s : Startup) → s.protocol_number_major ≡ 3 → s.protocol_number_minor ≡ 0
    → negotiation s ≡ Ok (by_minor 0)
settled_by s major minor = rw (major, minor) refl

abbrev in_progress : Standing → Standing
in_progress x = record x { client = with_state AuthenticationInProgress x.client }

abbrev with_saved : Startup → Standing → Standing
with_saved s x = record x { client = with_metadata (saved (x.client).metadata s.parameters) x.client }

abbrev at_version : Standing → Standing
at_version x = record x { client = with_version PROTOCOL3_0 x.client }

pub nothing : {A : Type 0} (xs ys : List A) → xs ≡ [] → ys ≡ [] → xs ++ ys ≡ []
nothing xs ys a b = ap (λ (l : List _). l ++ ys) a ∙ b

version_set : (s : Startup) (before after : Standing) (sent : List Backend) → negotiation s ≡ Ok (by_minor 0)
    → Negotiates s before after sent (Ok tt) → (after ≡ at_version before) × (sent ≡ [])
version_set s before after sent is h =
    let e =
    then_ok (Sends (offered_messages None)) (Sets (with_version PROTOCOL3_0)) before after sent (Ok tt)
    (subst (λ r. LoginSettlesVersion r before after sent (Ok tt)) is h) refl in
    (e.two.0 ∙ ap at_version e.one.0, e.all ∙ nothing e.front e.back e.one.1 e.two.1)

pub begun_ok : (s : Startup) (before after : Standing) (sent : List Backend) → s.protocol_number_major ≡ 3
    → s.protocol_number_minor ≡ 0 → (before.login).started ≡ false → Opens s before after sent (Ok tt)
    → (after ≡ opened s before) × (sent ≡ [])
begun_ok s before after sent major minor new h =
    let b =
    then_ok (BeginsLogin s) (Sets (with_state AuthenticationInProgress)) before after sent (Ok tt) h refl in
    let c = then_ok StartsLogin (Then (Negotiates s) (Saves s)) before b.mid b.front (Ok tt) b.one refl in
    let d = then_ok (Negotiates s) (Saves s) c.mid b.mid c.back (Ok tt) c.two refl in
    let st = started_by (before.login).started before c.mid c.front new c.one in
    let ve = version_set s c.mid d.mid d.front (settled_by s major minor) d.one in
    let sa =
    not_refused (Sets (λ c. with_metadata (saved c.metadata s.parameters) c)) OutOfMemory d.mid b.mid d.back
    d.two in (
      b.two.0 ∙ ap in_progress (sa.0 ∙ ap (with_saved s) (ve.0 ∙ ap at_version st.0)),
      b.all ∙ nothing b.front b.back (c.all
          ∙ nothing c.front c.back st.1 (d.all ∙ nothing d.front d.back ve.1 sa.1)) b.two.1,
    )

pub startup_ok : (input : PairInput) (s : Startup) (before after : Standing) (sent : List Backend)
    → s.protocol_number_major ≡ 3 → s.protocol_number_minor ≡ 0 → (before.login).started ≡ false
    → Means input (frontend.Startup s) before after sent (Ok tt)
    → (after ≡ opened s before) × (sent ≡ sasl_request (methods input) ∷ [])
startup_ok input s before after sent major minor new h =
    let a = then_ok (Opens s) (Offers (methods input)) before after sent (Ok tt) h refl in
    let o = begun_ok s before a.mid a.front major minor new a.one in
    let f = not_refused (Sends (sasl_request (methods input) ∷ [])) OutOfMemory a.mid after a.back a.two in
    (f.0 ∙ o.0, a.all ∙ ap (λ (l : List Backend). l ++ a.back) o.1 ∙ f.1)

-- ---- refusals

pub no_front : {A : Type 0} (front : List A) (x : A) (rest : List A) → [] ≡ front ++ x ∷ rest → ⊥
no_front [] x rest e = cc
no_front (y ∷ front) x rest e = cc

-- of messages of which each has an encoding none is refused but for want of memory, where no call of the outbox fails
pub sent_err : (due : List Backend) (before after : Standing) (sent : List Backend) (e : PgWireError)
    → before.faults ≡ 0 → after.faults ≡ 0 → Sends due before after sent (Err e)
    → (m : Backend) × (rest : List Backend) × (due ≡ sent ++ m ∷ rest) × (after ≡ before)
    × (e ≢ OutOfMemory → backend_encoding m ≡ Err e)
sent_err due before after sent e calm still (m, rest, cut, left, not_taken) = elim not_taken.why [
  | inl io ↦ absurd (let h = io.1 in omega (arith, h, calm, still))
  | inr why ↦ (m, rest, cut, left ∙ ap (λ (n : ℕ). record before { faults = n }) (still ∙ sym calm), why)
]

pub never_sets : (f : LoginClient → LoginClient) (before after : Standing) (sent : List Backend) (e : PgWireError)
    → Sets f before after sent (Err e) → ⊥
never_sets f before after sent e h = ok_is_no_error {e = e} refl h.2

starts_from_err : (b : Bool) (before after : Standing) (sent : List Backend) (e : PgWireError) → b ≡ true
    → StartsFrom b before after sent (Err e) → ⊥
starts_from_err true before after sent e fresh h = ok_is_no_error {e = e} refl h.2
starts_from_err false before after sent e fresh h = let z = fresh in cc

started_err : (b : Bool) (before after : Standing) (sent : List Backend) (e : PgWireError) → b ≡ false
    → is_initial (before.login).sasl ≡ true → StartsLoginAt b before after sent (Err e) → ⊥
started_err true before after sent e is fresh h = let z = is in cc
started_err false before after sent e is fresh h =
    starts_from_err (is_initial (before.login).sasl) before after sent e fresh h

version_err : (s : Startup) (before after : Standing) (sent : List Backend) (e : PgWireError)
    → negotiation s ≡ Ok (by_minor 0) → Negotiates s before after sent (Err e) → ⊥
version_err s before after sent e is h =
    elim (then_err (Sends (offered_messages None)) (Sets (with_version PROTOCOL3_0)) before after sent (Err e) e
    (subst (λ r. LoginSettlesVersion r before after sent (Err e)) is h) refl) [
      | inl k ↦ no_front sent k.0 k.1 k.2
      | inr w ↦ never_sets (with_version PROTOCOL3_0) w.mid after w.back e w.two
    ]

pub or_memory : (act : Act) (before after : Standing) (sent : List Backend) (e : PgWireError)
    → OrNoMemory act before after sent (Err e) → (e ≡ OutOfMemory) ⊎ act before after sent (Err e)
or_memory act before after sent e (inl h) = inl (err_is h.2)
or_memory act before after sent e (inr h) = inr h

begins_err : (s : Startup) (before after : Standing) (sent : List Backend) (e : PgWireError)
    → s.protocol_number_major ≡ 3 → s.protocol_number_minor ≡ 0 → (before.login).started ≡ false
    → is_initial (before.login).sasl ≡ true → BeginsLogin s before after sent (Err e) → e ≡ OutOfMemory
begins_err s before after sent e major minor new fresh h =
    elim (then_err StartsLogin (Then (Negotiates s) (Saves s)) before after sent (Err e) e h refl) [
      | inl k ↦ absurd (started_err (before.login).started before after sent e new fresh k)
      | inr w ↦ elim (then_err (Negotiates s) (Saves s) w.mid after w.back (Err e) e w.two refl) [
        | inl k ↦ absurd (version_err s w.mid after w.back e (settled_by s major minor) k)
        | inr v ↦ elim (or_memory (Sets (λ c. with_metadata (saved c.metadata s.parameters) c)) v.mid after v.back e
            v.two) [
              | inl k ↦ k
              | inr k ↦
                  absurd (never_sets (λ c. with_metadata (saved c.metadata s.parameters) c) v.mid after v.back e k)
            ]
      ]
    ]

pub opens_err : (s : Startup) (before after : Standing) (sent : List Backend) (e : PgWireError)
    → s.protocol_number_major ≡ 3 → s.protocol_number_minor ≡ 0 → (before.login).started ≡ false
    → is_initial (before.login).sasl ≡ true → Opens s before after sent (Err e) → e ≡ OutOfMemory
opens_err s before after sent e major minor new fresh h =
    elim (then_err (BeginsLogin s) (Sets (with_state AuthenticationInProgress)) before after sent (Err e) e h
    refl) [
      | inl k ↦ begins_err s before after sent e major minor new fresh k
      | inr w ↦ absurd (never_sets (with_state AuthenticationInProgress) w.mid after w.back e w.two)
    ]

-- the one message that is due has an encoding
pub one_due : (due : Backend) (g : List ℕ) (before after : Standing) (sent : List Backend) (e : PgWireError)
    → before.faults ≡ 0 → after.faults ≡ 0 → backend_encoding due ≡ Ok g → (e ≡ OutOfMemory → ⊥)
    → Sends (due ∷ []) before after sent (Err e) → ⊥
one_due due g before after sent e calm still is ne h =
    let s = sent_err (due ∷ []) before after sent e calm still h in
    let same = only_one sent s.0 s.1 s.2 in
    let bad : backend_encoding due ≡ Err e = ap backend_encoding same ∙ s.4 ne in
    let both = sym is ∙ bad in
    absurd cc
  where
    only_one : (front : List Backend) (x : Backend) (rest : List Backend) → due ∷ [] ≡ front ++ x ∷ rest → due ≡ x
    only_one [] x rest cut = cc
    only_one (y ∷ front) x rest cut = absurd (no_front front x rest (cc))

pub startup_err : (input : PairInput) (s : Startup) (before after : Standing) (sent : List Backend)
    (e : PgWireError) (g : List ℕ)
    → s.protocol_number_major ≡ 3 → s.protocol_number_minor ≡ 0 → (before.login).started ≡ false
    → is_initial (before.login).sasl ≡ true → before.faults ≡ 0 → after.faults ≡ 0
    → backend_encoding (sasl_request (methods input)) ≡ Ok g → (e ≡ OutOfMemory → ⊥)
    → Means input (frontend.Startup s) before after sent (Err e) → ⊥
startup_err input s before after sent e g major minor new fresh calm still is ne (mid, h, failed) =
    let quiet : mid.faults ≡ 0 = ap (λ (x : Standing). x.faults) (sym failed) ∙ still in
    elim (then_err (Opens s) (Offers (methods input)) before mid sent (Err e) e h refl) [
      | inl k ↦ ne (opens_err s before mid sent e major minor new fresh k)
      | inr w ↦
          let o = begun_ok s before w.mid w.front major minor new w.one in
          elim (or_memory (Sends (sasl_request (methods input) ∷ [])) w.mid mid w.back e w.two) [
            | inl k ↦ ne k
            | inr k ↦ one_due (sasl_request (methods input)) g w.mid mid w.back e
                (ap (λ (x : Standing). x.faults) o.0
                ∙ calm) quiet is ne k
          ]
    ]
