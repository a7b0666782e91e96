-- What a server answers to client-final.
use Rattle.std.proofs.Common.{◌≡◌, ◌⊎◌, inl, inr, ℕ, ◌≤◌, Bool, true, false, List, [], ◌∷◌, ◌++◌, Option, Some, None, Result, Ok, Err, refl, sym, ap, subst, ◌∙◌}
use Rattle.std.proofs.lemmas.List.{append-nil}
use Rattle.std.specs.Prelude.{ℤ, pos, is_some}
use Rattle.pgw_types.specs.declared.error.PgWireError.{PgWireError}
use Rattle.pgw_types.specs.declared.error.PgWireError.TheVariants.{OutOfMemory}
use Rattle.pgw_wire.specs.declared.secret_key.SecretKey.{SecretKey}
use Rattle.pgw_wire.specs.Pairs.{Held}
use Rattle.pgw_wire.specs.Reading.{rest_at, read_end}
use Rattle.pgw_startup.specs.Password.{sasl_response_in}
use Rattle.pgw_startup.specs.declared.authentication.Authentication.TheVariants as auth
use Rattle.pgw_startup.specs.declared.password.PasswordMessageFamily.TheVariants as family
use Rattle.pgw_backend.specs.Backend.{backend_encoding}
use Rattle.pgw_backend.specs.declared.backend.PgWireBackendMessage.{PgWireBackendMessage as Backend}
use Rattle.pgw_backend.specs.declared.backend.PgWireBackendMessage.TheVariants as backend
use Rattle.pgw_frontend.specs.declared.frontend.PgWireFrontendMessage.TheVariants as frontend
use Rattle.pgw_scram.specs.declared.server.ScramServerAuthWaitingForClientFinal.{ScramServerAuthWaitingForClientFinal as WaitingForClientFinal}
use Rattle.pgw_scram.specs.Server.{accepted}
use Rattle.pgw_registry.specs.Generator.{NoNumber}
use Rattle.pgw_registry.specs.Key.{process_key}
use Rattle.pgw_registry.specs.Seats.{Numbers}
use Rattle.pgw_registry.specs.declared.error.PidError.{PidError}
use Rattle.pgw_registry.specs.declared.error.PidError.TheVariants as pid
use Rattle.pgw_login.specs.Client.{LoginClient, with_key, with_state}
use Rattle.pgw_login.specs.Login.{Login, login_seen}
use Rattle.pgw_login.specs.Acts.{Standing, Then, Marks, Sets, Sends, with_sasl}
use Rattle.pgw_login.specs.Finish.{AcceptsLogin, Draws, Enrolls, EnrollsAt, Entered, with_seat, with_handle_pair, Introduces, introduction, Readies, login_ready, FinishesAuthentication, Finishes, pid_refusal}
use Rattle.pgw_login.specs.Provider.{default_provider, default_parameters}
use Rattle.pgw_login.specs.declared.client_info.PgWireConnectionState.TheVariants.{ReadyForQuery}
use Rattle.pgw_login.specs.declared.state.LoginState.{LoginState}
use Rattle.pgw_login.specs.declared.state.SASLState.TheVariants.{ScramServerFirstSent, Finished}
use Rattle.pgw_login_sasl.specs.Replies.{Reply}
use Rattle.pgw_login_sasl.specs.Scram.{final_reply, and_some}
use Rattle.pgw_login_sasl.specs.Turns.{sasl_stage, turned, entered}
use Rattle.pgw_login_sasl.specs.declared.methods.Method.TheVariants.{Scram}
use Rattle.pgw_login_sasl.specs.Sasl.{Replied, By, ByTurn, RespondsBy}
use Rattle.pgw_login_pair.specs.declared.parties.PairInput.{PairInput}
use Rattle.pgw_login_pair.specs.Server.{ScramAnswers, NoOauth, Provided, Unregistered, Means}
use Rattle.pgw_login_pair.proofs.Acts.{Act, then_ok, then_err, sent_err, never_sets, ok_is_no_error, err_is, nothing}

abbrev pub final_with : List ℕ → Backend
final_with final = backend.Authentication (auth.SASLFinal final)

-- the login awaits client-final
pub record AwaitsFinal (login : LoginState) (waiting : WaitingForClientFinal) : Type 0 where
  pub started : login.started ≡ true
  pub sasl : login.sasl ≡ ScramServerFirstSent waiting

-- ---- the reply

is_response : (body : List ℕ) → sasl_response_in body ≡ Ok (record { payload = body })
unfolding sasl_response_in rest_at read_end
is_response body = refl

module _ (input : PairInput) (login : LoginState) (waiting : WaitingForClientFinal) where
  turned_final : (body : List ℕ) → AwaitsFinal login waiting
      → turned (sasl_stage login.started login.sasl) (family.Raw body) ≡ Ok
      (Scram, family.SASLResponse (record { payload = body }))
  turned_final body awaits = rw (awaits.started, awaits.sasl, is_response body) refl

  scram_final : (who : Login) (body : List ℕ) (reply : Reply)
      → ScramAnswers input who (family.SASLResponse (record { payload = body })) login.nonce
      (ScramServerFirstSent waiting) reply
      → (reply ≡ Err OutOfMemory) ⊎ (reply ≡ and_some (final_reply (accepted waiting body)))
  scram_final who body reply (replied, inl none, is) = inl (is ∙ ap and_some none)
  scram_final who body reply (replied, inr on, is) = inr (is ∙ ap and_some on)

  pub replied_final : (who : Login) (body : List ℕ) (reply : Reply) → AwaitsFinal login waiting
      → Replied (ScramAnswers input) NoOauth who login (family.Raw body) reply
      → (reply ≡ Err OutOfMemory) ⊎ (reply ≡ and_some (final_reply (accepted waiting body)))
  replied_final who body reply awaits (inl none) = inl none
  replied_final who body reply awaits (inr by) =
      let turn : By (ScramAnswers input) NoOauth who Scram (family.SASLResponse (record { payload = body }))
      login.nonce (entered Scram login.sasl) reply =
      subst (λ r. ByTurn (ScramAnswers input) NoOauth who login r reply) (turned_final body awaits) by in
      scram_final who body reply
      (subst (λ s. ScramAnswers input who (family.SASLResponse (record { payload = body })) login.nonce
      (entered Scram s) reply) awaits.sasl turn)

-- ---- the end of the login

-- what the client is told
abbrev pub welcome : LoginClient → List Backend
welcome c = introduction c (Some (default_parameters default_provider c)) ++ login_ready ∷ []

-- a number was drawn and a key made, of which nothing else is registered
pub record Drawn (before : Standing) : Type 0 where
  pub number : ℕ
  pub seat : Numbers
  pub low : number ≤ 2147483647

abbrev pub known_by : (before : Standing) → Drawn before → LoginClient
known_by before d =
    with_key (pos d.number) (process_key (before.client).protocol_version (before.login).words) before.client

enrolled_by : (b : Bool) (before after : Standing) (sent : List Backend) → b ≡ false
    → EnrollsAt b Unregistered before after sent (Ok tt)
    → (after ≡ record before { login = with_handle_pair (before.login).pass None before.login }) × (sent ≡ [])
enrolled_by true before after sent is h = absurd (let z = is in cc)
enrolled_by false before after sent is (none, (pass, got, how, entered)) =
    let one = subst (λ g. Entered g pass before after (Ok tt)) how.1 entered in
    (one.0 ∙ ap (λ p. record before { login = with_handle_pair p None before.login }) how.0, none)

never_enrolls : (b : Bool) (before after : Standing) (sent : List Backend) (e : PgWireError) → b ≡ false
    → EnrollsAt b Unregistered before after sent (Err e) → ⊥
never_enrolls true before after sent e is h = let z = is in cc
never_enrolls false before after sent e is (none, (pass, got, how, entered)) =
    let one = subst (λ g. Entered g pass before after (Err e)) how.1 entered in
    ok_is_no_error {e = e} refl one.1

-- the standing behind the drawn number
abbrev pub drawn_at : (before : Standing) → Drawn before → Standing
drawn_at before d =
    record before {
      client = known_by before d;
      login = with_handle_pair (before.login).pass None (with_seat d.seat before.login);
    }

accepted_ok : (before after : Standing) (sent : List Backend) → (before.login).registered ≡ None
    → AcceptsLogin Unregistered before after sent (Ok tt)
    → (d : Drawn before) × (after ≡ drawn_at before d) × (sent ≡ [])
accepted_ok before after sent new h =
    let a = then_ok Draws (Enrolls Unregistered) before after sent (Ok tt) h refl in
    let n = a.one.1.2 in
    let d : Drawn before = record { number = (a.mid.login).seat.seen; seat = (a.mid.login).seat; low = n.1.2 } in
    let there : a.mid ≡ record before
    { client = known_by before d; login = with_seat (a.mid.login).seat before.login } =
    a.one.1.3
    ∙ ap (λ (k : ℤ × SecretKey). record before
    { client = with_key k.0 k.1 before.client; login = with_seat (a.mid.login).seat before.login })
    (λ i. (n.1.3 i, n.1.4 i)) in
    let b =
    enrolled_by (is_some (a.mid.login).registered) a.mid after a.back
    (ap (λ (x : Standing). is_some (x.login).registered) there
    ∙ ap is_some new) a.two in (
      d,
      b.0 ∙ ap (λ (x : Standing). record x { login = with_handle_pair (x.login).pass None x.login }) there,
      a.all
          ∙ nothing a.front a.back a.one.0 b.1,
    )

-- where a number can be drawn, nothing but want of memory stops it
abbrev pub CanDraw : Numbers → Type 0
CanDraw seat = (why : PidError) (after : Numbers) → NoNumber why seat after → why ≡ pid.OutOfMemory

accepted_err : (before after : Standing) (sent : List Backend) (e : PgWireError)
    → (before.login).registered ≡ None → CanDraw (before.login).seat
    → AcceptsLogin Unregistered before after sent (Err e) → e ≡ OutOfMemory
accepted_err before after sent e new can h =
    elim (then_err Draws (Enrolls Unregistered) before after sent (Err e) e h refl) [
      | inl k ↦ k.2.1 ∙ ap pid_refusal (can k.2.0 (after.login).seat k.2.2.1.0)
      | inr w ↦
          let there = ap (λ (x : Standing). is_some (x.login).registered) w.one.1.3 ∙ ap is_some new in
          absurd (never_enrolls (is_some (w.mid.login).registered) w.mid after w.back e there w.two)
    ]

-- each message that is due has an encoding
abbrev pub CanSend : List Backend → Type 0
CanSend due =
    (front : List Backend) (m : Backend) (rest : List Backend) → due ≡ front ++ m ∷ rest
    → (g : List ℕ) × (backend_encoding m ≡ Ok g)

all_due : (due : List Backend) (before after : Standing) (sent : List Backend) (e : PgWireError)
    → before.faults ≡ 0 → after.faults ≡ 0 → CanSend due → (e ≡ OutOfMemory → ⊥)
    → Sends due before after sent (Err e) → ⊥
all_due due before after sent e calm still can ne h =
    let s = sent_err due before after sent e calm still h in
    let g = can sent s.0 s.1 s.2 in
    let both = sym g.1 ∙ s.4 ne in
    absurd cc

introduced_ok : (before after : Standing) (sent : List Backend) → Introduces Provided before after sent (Ok tt)
    → (after ≡ before)
    × (sent ≡ introduction before.client (Some (default_parameters default_provider before.client)))
introduced_ok before after sent (inl h) = absurd (ok_is_no_error {e = OutOfMemory} h.2 refl)
introduced_ok before after sent (inr (told, is, h)) = (h.0, h.1 ∙ ap (introduction before.client) is)

introduced_err : (before after : Standing) (sent : List Backend) (e : PgWireError) → before.faults ≡ 0
    → after.faults ≡ 0
    → CanSend (introduction before.client (Some (default_parameters default_provider before.client)))
    → (e ≡ OutOfMemory → ⊥) → Introduces Provided before after sent (Err e) → ⊥
introduced_err before after sent e calm still can ne (inl h) = ne (err_is h.2)
introduced_err before after sent e calm still can ne (inr (told, is, h)) =
    all_due (introduction before.client (Some (default_parameters default_provider before.client))) before after
    sent e calm still can ne
    (subst (λ (o : Option Held). Sends (introduction before.client o) before after sent (Err e)) is h)

readied_ok : (before after : Standing) (sent : List Backend) → Readies login_ready before after sent (Ok tt)
    → (after ≡ record before { client = with_state ReadyForQuery before.client }) × (sent ≡ login_ready ∷ [])
readied_ok before after sent h =
    let a =
    then_ok (Sends (login_ready ∷ [])) (Sets (with_state ReadyForQuery)) before after sent (Ok tt) h refl in (
      a.two.0 ∙ ap (λ (x : Standing). record x { client = with_state ReadyForQuery x.client }) a.one.0,
      a.all
          ∙ ap (λ (l : List Backend). a.front ++ l) a.two.1 ∙ append-nil a.front ∙ a.one.1,
    )

readied_err : (before after : Standing) (sent : List Backend) (e : PgWireError) → before.faults ≡ 0
    → after.faults ≡ 0 → CanSend (login_ready ∷ []) → (e ≡ OutOfMemory → ⊥)
    → Readies login_ready before after sent (Err e) → ⊥
readied_err before after sent e calm still can ne h =
    elim (then_err (Sends (login_ready ∷ [])) (Sets (with_state ReadyForQuery)) before after sent (Err e) e h
    refl) [
      | inl k ↦ all_due (login_ready ∷ []) before after sent e calm still can ne k
      | inr w ↦ never_sets (with_state ReadyForQuery) w.mid after w.back e w.two
    ]

-- the login has ended
abbrev pub finished_at : (before : Standing) → Drawn before → Standing
finished_at before d =
    record (drawn_at before d) {
      client = with_state ReadyForQuery (known_by before d);
      login = with_sasl Finished
          ((drawn_at before d).login);
    }

pub finished_ok : (before after : Standing) (sent : List Backend) → (before.login).registered ≡ None
    → Finishes Provided Unregistered before after sent (Ok tt)
    → (d : Drawn before) × (after ≡ finished_at before d) × (sent ≡ welcome (known_by before d))
finished_ok before after sent new h =
    let a =
    then_ok (AcceptsLogin Unregistered) (Then (FinishesAuthentication Provided) (Marks (with_sasl Finished)))
    before after sent (Ok tt) h refl in
    let x = accepted_ok before a.mid a.front new a.one in
    let b =
    then_ok (FinishesAuthentication Provided) (Marks (with_sasl Finished)) a.mid after a.back (Ok tt) a.two
    refl in
    let c = then_ok (Introduces Provided) (Readies login_ready) a.mid b.mid b.front (Ok tt) b.one refl in
    let i = introduced_ok a.mid c.mid c.front c.one in
    let r = readied_ok c.mid b.mid c.back c.two in
    let there : c.mid ≡ drawn_at before x.0 = i.0 ∙ x.1 in (
      x.0,
      b.two.0 ∙ ap (λ (y : Standing). record y { login = with_sasl Finished y.login }) (r.0
          ∙ ap (λ (y : Standing). record y { client = with_state ReadyForQuery y.client }) there),
      a.all ∙ ap (λ (l : List Backend). l ++ a.back) x.2 ∙ b.all ∙ ap (λ (l : List Backend). b.front ++ l) b.two.1
          ∙ append-nil b.front ∙ c.all
          ∙ ap (λ (l : List Backend). l ++ c.back) (i.1
          ∙ ap (λ (y : Standing). introduction y.client
          (Some (default_parameters default_provider y.client))) x.1)
          ∙ ap (λ (l : List Backend). introduction (known_by before x.0)
          (Some (default_parameters default_provider (known_by before x.0))) ++ l) r.1,
    )

pub finished_err : (before after : Standing) (sent : List Backend) (e : PgWireError)
    → (before.login).registered ≡ None → CanDraw (before.login).seat → before.faults ≡ 0 → after.faults ≡ 0
    → ((d : Drawn before) → CanSend
    (introduction (known_by before d) (Some (default_parameters default_provider (known_by before d)))))
    → CanSend (login_ready ∷ [])
    → (e ≡ OutOfMemory → ⊥) → Finishes Provided Unregistered before after sent (Err e) → ⊥
finished_err before after sent e new draws calm still tells readies ne h =
    elim (then_err (AcceptsLogin Unregistered)
    (Then (FinishesAuthentication Provided) (Marks (with_sasl Finished))) before after sent (Err e) e h refl) [
      | inl k ↦ ne (accepted_err before after sent e new draws k)
      | inr a ↦
          let x = accepted_ok before a.mid a.front new a.one in
          let calm_mid : (a.mid).faults ≡ 0 = ap (λ (y : Standing). y.faults) x.1 ∙ calm in
          elim (then_err (FinishesAuthentication Provided) (Marks (with_sasl Finished)) a.mid after a.back (Err e)
          e a.two refl) [
            | inr b ↦ ok_is_no_error {e = e} refl b.two.2
            | inl k ↦ elim (then_err (Introduces Provided) (Readies login_ready) a.mid after a.back (Err e) e k refl) [
              | inl i ↦ introduced_err a.mid after a.back e calm_mid still
                  (subst (λ (y : Standing). CanSend
                  (introduction y.client (Some (default_parameters default_provider y.client)))) (sym x.1)
                  (tells x.0)) ne i
              | inr c ↦
                  let i = introduced_ok a.mid c.mid c.front c.one in
                  readied_err c.mid after c.back e (ap (λ (y : Standing). y.faults) i.0
                  ∙ calm_mid) still readies ne c.two
            ]
          ]
    ]

-- ---- the message

-- how it is replied to
pub data Judged (waiting : WaitingForClientFinal) (body : List ℕ) : Type 0 where
  refused : (e : PgWireError) → accepted waiting body ≡ Err e → Judged waiting body
  passed : (final : List ℕ) → accepted waiting body ≡ Ok final → Judged waiting body

pub judges : (waiting : WaitingForClientFinal) (body : List ℕ) → Judged waiting body
judges waiting body = go (accepted waiting body) refl
  where
    go : (r : Result (List ℕ) PgWireError) → accepted waiting body ≡ r → Judged waiting body
    go (Err e) is = refused e is
    go (Ok final) is = passed final is

abbrev pub proved_at : Standing → Standing
proved_at before = record before { login = with_sasl Finished before.login }

abbrev Behind : List ℕ → Act
Behind final = RespondsBy Provided Unregistered (Ok (Some (auth.SASLFinal final), Finished))

abbrev Later : Act
Later = Then (Marks (with_sasl Finished)) (Finishes Provided Unregistered)

final_sent : (final : List ℕ) (before after : Standing) (out : List Backend) → (before.login).registered ≡ None
    → Behind final before after out (Ok tt)
    → (d : Drawn (proved_at before)) × (after ≡ finished_at (proved_at before) d)
    × (out ≡ final_with final ∷ welcome (known_by (proved_at before) d))
final_sent final before after out new h =
    let a = then_ok (Sends (final_with final ∷ [])) Later before after out (Ok tt) h refl in
    let b =
    then_ok (Marks (with_sasl Finished)) (Finishes Provided Unregistered) a.mid after a.back (Ok tt) a.two
    refl in
    let there : b.mid ≡ proved_at before = b.one.0 ∙ ap proved_at a.one.0 in
    let f =
    finished_ok (proved_at before) after b.back new
    (subst (λ (y : Standing). Finishes Provided Unregistered y after b.back (Ok tt)) there b.two) in (
      f.0,
      f.1,
      a.all ∙ ap (λ (l : List Backend). l ++ a.back) a.one.1
          ∙ ap (λ (l : List Backend). final_with final ∷ l) (b.all ∙ ap (λ (l : List Backend). l ++ b.back) b.one.1
          ∙ f.2),
    )

final_unsent : (final : List ℕ) (before after : Standing) (out : List Backend) (e : PgWireError)
    → (before.login).registered ≡ None → CanDraw (before.login).seat → before.faults ≡ 0 → after.faults ≡ 0
    → CanSend (final_with final ∷ [])
    → ((d : Drawn (proved_at before)) → CanSend
    (introduction (known_by (proved_at before) d)
    (Some (default_parameters default_provider (known_by (proved_at before) d)))))
    → CanSend (login_ready ∷ []) → (e ≡ OutOfMemory → ⊥) → Behind final before after out (Err e) → ⊥
final_unsent final before after out e new draws calm still can tells readies ne h =
    elim (then_err (Sends (final_with final ∷ [])) Later before after out (Err e) e h refl) [
      | inl k ↦ all_due (final_with final ∷ []) before after out e calm still can ne k
      | inr a ↦ elim (then_err (Marks (with_sasl Finished)) (Finishes Provided Unregistered) a.mid after a.back
          (Err e) e a.two refl) [
            | inl k ↦ ok_is_no_error {e = e} refl k.2
            | inr b ↦
                let there : b.mid ≡ proved_at before = b.one.0 ∙ ap proved_at a.one.0 in
                finished_err (proved_at before) after b.back e new draws calm still tells readies ne
                (subst (λ (y : Standing). Finishes Provided Unregistered y after b.back (Err e)) there b.two)
          ]
    ]

pub final_ok : (input : PairInput) (body : List ℕ) (waiting : WaitingForClientFinal) (before after : Standing)
    (out : List Backend)
    → AwaitsFinal before.login waiting → (before.login).registered ≡ None
    → Means input (frontend.PasswordMessageFamily (family.Raw body)) before after out (Ok tt)
    → (final : List ℕ) × (accepted waiting body ≡ Ok final) × (d : Drawn (proved_at before))
    × (after ≡ finished_at (proved_at before) d)
    × (out ≡ final_with final ∷ welcome (known_by (proved_at before) d))
final_ok input body waiting before after out awaits new (reply, replied, responds) =
    elim (replied_final input before.login waiting (login_seen before.client) body reply awaits replied) [
      | inl none ↦ absurd (ok_is_no_error {e = OutOfMemory} refl
          (sym (subst (λ r. RespondsBy Provided Unregistered r before after out (Ok tt)) none responds).2))
      | inr is ↦
          let made = subst (λ r. RespondsBy Provided Unregistered r before after out (Ok tt)) is responds in
          elim (judges waiting body) [
            | refused e o ↦ absurd
                (ok_is_no_error {e = e} refl
                (sym (subst (λ r. RespondsBy Provided Unregistered (and_some (final_reply r)) before after out
                (Ok tt)) o made).2))
            | passed final o ↦
                let s =
                final_sent final before after out new
                (subst (λ r. RespondsBy Provided Unregistered (and_some (final_reply r)) before after out
                (Ok tt)) o made) in
                (final, o, s.0, s.1, s.2)
          ]
    ]

pub final_err : (input : PairInput) (body : List ℕ) (waiting : WaitingForClientFinal) (before after : Standing)
    (out : List Backend) (e : PgWireError)
    → AwaitsFinal before.login waiting → (before.login).registered ≡ None → CanDraw (before.login).seat
    → before.faults ≡ 0 → after.faults ≡ 0
    → ((final : List ℕ) → accepted waiting body ≡ Ok final → CanSend (final_with final ∷ []))
    → ((d : Drawn (proved_at before)) → CanSend
    (introduction (known_by (proved_at before) d)
    (Some (default_parameters default_provider (known_by (proved_at before) d)))))
    → CanSend (login_ready ∷ []) → (e ≡ OutOfMemory → ⊥)
    → Means input (frontend.PasswordMessageFamily (family.Raw body)) before after out (Err e)
    → (out ≡ []) × (accepted waiting body ≡ Err e)
final_err input body waiting before after out e awaits new draws calm still can tells readies ne
    (mid, (reply, replied, responds), failed) =
    let quiet : mid.faults ≡ 0 = ap (λ (x : Standing). x.faults) (sym failed) ∙ still in
    elim (replied_final input before.login waiting (login_seen before.client) body reply awaits replied) [
      | inl none ↦ absurd (ne (err_is (subst (λ r. RespondsBy Provided Unregistered r before mid out (Err e)) none
          responds).2))
      | inr is ↦
          let made = subst (λ r. RespondsBy Provided Unregistered r before mid out (Err e)) is responds in
          elim (judges waiting body) [
            | refused d o ↦
                let r =
                subst (λ r. RespondsBy Provided Unregistered (and_some (final_reply r)) before mid out
                (Err e)) o made in
                (r.1, o ∙ ap Err (sym (err_is r.2)))
            | passed final o ↦ absurd
                (final_unsent final before mid out e new draws calm quiet (can final o) tells readies ne
                (subst (λ r. RespondsBy Provided Unregistered (and_some (final_reply r)) before mid out
                (Err e)) o made))
          ]
    ]
