-- Acts, one after the other.
use Rattle.std.proofs.Common.{◌≡◌, ◌≤◌, ℕ, List, [], ◌∷◌, ◌++◌, fold, Option, inl, inr, Ok, Err, OnOk, OnErr, IfErr, refl, sym, ◌∙◌, ap, subst}
use Rattle.std.proofs.lemmas.List.Sums.{fold-append}
use Rattle.std.proofs.Math.Nat.{le_refl, le_trans}
use Rattle.pgw_types.specs.declared.error.PgWireError.{PgWireError}
use Rattle.pgw_backend.specs.declared.backend.PgWireBackendMessage.{PgWireBackendMessage as Message}
use Rattle.pgw_login.specs.Client.{LoginClient, with_metadata}
use Rattle.pgw_login.specs.Sending.{NotTaken}
use Rattle.pgw_login.specs.Acts.{Standing, standing_in_login, Answer, Act, Then, halts, goes, Sends, Sets, Marks, OrFails, login_by_answer, Did}
use Rattle.pgw_wire.specs.Pairs.{Held}
use Rattle.pgw_types.specs.declared.error.PgWireError.TheVariants.{OutOfMemory}
use Rattle.pgw_startup.specs.declared.startup.Startup.{Startup}
use Rattle.pgw_login.specs.Opening.{saved, Saves}
use Rattle.pgw_login.specs.Finish.{Introduces, introduction}
use Rattle.pgw_login.specs.declared.state.LoginState.{LoginState}

-- both acts were done
pub did_then : {S : Type 0} {add : S → Message → S} {s0 s1 s2 : S}
    {first next : Standing → Standing → List Message → Answer → Type 0} {before mid after : Standing}
    {answer : Answer} →
    Did add s0 s1 first before mid (Ok tt) → Did add s1 s2 next mid after answer
    → Did add s0 s2 (Then first next) before after answer
did_then {add = add} {s0 = s0} {before = before} {mid = mid} {after = after} {answer = answer} a b = record {
  sent = a.sent ++ b.sent;
  told = b.told ∙ ap (λ s. fold add s b.sent) a.told ∙ sym (fold-append add s0 a.sent b.sent);
  later = le_trans a.later b.later;
  done = goes before mid after a.sent b.sent answer a.done b.done;
}

-- the first was refused
pub did_halt : {S : Type 0} {add : S → Message → S} {s0 s1 : S}
    {first next : Standing → Standing → List Message → Answer → Type 0} {before after : Standing}
    {e : PgWireError} →
    Did add s0 s1 first before after (Err e) → Did add s0 s1 (Then first next) before after (Err e)
did_halt {before = before} {after = after} {e = e} a =
    record { sent = a.sent; told = a.told; later = a.later; done = halts before after a.sent e a.done }

-- nothing was sent
pub did_quiet : {S : Type 0} {add : S → Message → S} {s : S}
    {act : Standing → Standing → List Message → Answer → Type 0} {c d : LoginClient} {a b : LoginState}
    {faults : ℕ} {answer : Answer} →
    act (standing_in_login c a faults) (standing_in_login d b faults) [] answer
    → Did add s s act (standing_in_login c a faults) (standing_in_login d b faults) answer
did_quiet {faults = faults} h = record { sent = []; told = refl; later = le_refl faults; done = h }

-- the client was changed, or the login
pub did_set : {S : Type 0} {add : S → Message → S} {s : S} {c d : LoginClient} (f : LoginClient → LoginClient)
    (login : LoginState) (faults : ℕ)
    → d ≡ f c → Did add s s (Sets f) (standing_in_login c login faults) (standing_in_login d login faults) (Ok tt)
did_set f login faults e = did_quiet (ap (λ x. standing_in_login x login faults) e, refl, refl)

pub did_mark : {S : Type 0} {add : S → Message → S} {s : S} {a b : LoginState} (f : LoginState → LoginState)
    (client : LoginClient) (faults : ℕ)
    → b ≡ f a
    → Did add s s (Marks f) (standing_in_login client a faults) (standing_in_login client b faults) (Ok tt)
did_mark f client faults e = did_quiet (ap (λ x. standing_in_login client x faults) e, refl, refl)

-- a count that stays
as_calm : {f0 f1 : ℕ} → f1 ≡ f0 → f0 ≤ f1
as_calm {f0 = f0} {f1 = f1} e = subst (λ (f : ℕ). f0 ≤ f) (sym e) (le_refl f0)

-- a message was sent, or not taken
pub did_send : {S : Type 0} {add : S → Message → S} {s0 s1 : S} (m : Message) (f0 f1 : ℕ) (r : Answer)
    → OnOk r (s1 ≡ add s0 m) → OnOk r (f1 ≡ f0) → OnErr r (s1 ≡ s0) → IfErr r (λ e. NotTaken m f0 f1 e) →
    (client : LoginClient) (login : LoginState)
    → Did add s0 s1 (Sends (m ∷ [])) (standing_in_login client login f0) (standing_in_login client login f1) r
did_send m f0 f1 (Ok x) taken calm kept cause client login =
    record {
      sent = m ∷ [];
      told = taken;
      later = as_calm calm;
      done =
          (ap (standing_in_login client login) calm, refl);
    }
did_send m f0 f1 (Err e) taken calm kept cause client login =
    record { sent = []; told = kept; later = cause.later; done = (m, [], refl, refl, cause) }

-- all were sent
pub did_all : {S : Type 0} {add : S → Message → S} {s0 s1 : S} (ms : List Message) (f0 f1 : ℕ)
    → s1 ≡ fold add s0 ms → f1 ≡ f0 → (client : LoginClient) (login : LoginState)
    → Did add s0 s1 (Sends ms) (standing_in_login client login f0) (standing_in_login client login f1) (Ok tt)
did_all ms f0 f1 told calm client login =
    record {
      sent = ms;
      told = told;
      later = as_calm calm;
      done = (ap (standing_in_login client login) calm, refl);
    }

-- a front was sent, and the next was not taken
pub did_some : {S : Type 0} {add : S → Message → S} {s0 s1 s2 : S} (front : List Message) (m : Message)
    (rest ms : List Message) (f0 f1 f2 : ℕ) (e : PgWireError)
    → ms ≡ front ++ m ∷ rest → s1 ≡ fold add s0 front → f1 ≡ f0 → s2 ≡ s1 → NotTaken m f1 f2 e →
    (client : LoginClient) (login : LoginState)
    → Did add s0 s2 (Sends ms) (standing_in_login client login f0) (standing_in_login client login f2) (Err e)
did_some front m rest ms f0 f1 f2 e cut told calm kept cause client login =
    let why : NotTaken m f0 f2 e = subst (λ (f : ℕ). NotTaken m f f2 e) calm cause in
    record { sent = front; told = kept ∙ told; later = why.later; done = (m, rest, cut, refl, why) }

-- after a refusal the login has failed
pub did_settle : {S : Type 0} {add : S → Message → S} {s0 s1 : S}
    {act : Standing → Standing → List Message → Answer → Type 0} {before : Standing} {client : LoginClient}
    {login login2 : LoginState} {faults : ℕ} (answer : Answer) →
    login2 ≡ login_by_answer answer login
    → Did add s0 s1 act before (standing_in_login client login faults) answer
    → Did add s0 s1 (OrFails act) before (standing_in_login client login2 faults) answer
did_settle {act = act} {before = before} {client = client} {faults = faults} (Ok x) e d =
    record {
      sent = d.sent;
      told = d.told;
      later = d.later;
      done = subst
          (λ l. act before (standing_in_login client l faults) d.sent (Ok x)) (sym e) d.done;
    }
did_settle {client = client} {login = login} {faults = faults} (Err why) e d =
    record {
      sent = d.sent;
      told = d.told;
      later = d.later;
      done =
          (standing_in_login client login faults, d.done, ap (λ l. standing_in_login client l faults) e);
    }

-- the client was told what the provider gives, or a part
pub did_introduce : {S : Type 0} {add : S → Message → S} {s0 s1 : S} {client : LoginClient} {login : LoginState}
    {f0 f1 : ℕ} {ms : List Message} {answer : Answer} (P : LoginClient → Option Held → Type 0)
    (parameters : Option Held)
    → P client parameters → ms ≡ introduction client parameters →
    Did add s0 s1 (Sends ms) (standing_in_login client login f0) (standing_in_login client login f1) answer
    → Did add s0 s1 (Introduces P) (standing_in_login client login f0) (standing_in_login client login f1)
    answer
did_introduce {client = client} {login = login} {f0 = f0} {f1 = f1} {answer = answer} P parameters provided is d =
    record {
      sent = d.sent;
      told = d.told;
      later = d.later;
      done = inr (
        parameters,
        provided,
        subst
            (λ (due : List Message). Sends due (standing_in_login client login f0)
            (standing_in_login client login f1) d.sent answer) is d.done,
      );
    }

-- parameters were saved, or memory ran out
pub did_saved : {S : Type 0} {add : S → Message → S} {x : S} {c d : LoginClient} (s : Startup)
    (login : LoginState) (faults : ℕ)
    → d ≡ with_metadata (saved c.metadata s.parameters) c
    → Did add x x (Saves s) (standing_in_login c login faults) (standing_in_login d login faults) (Ok tt)
did_saved s login faults e = did_quiet (inr (ap (λ k. standing_in_login k login faults) e, refl, refl))

pub did_not_saved : {S : Type 0} {add : S → Message → S} {x : S} {c d : LoginClient} (s : Startup)
    (login : LoginState) (faults : ℕ)
    → d ≡ c → Did add x x (Saves s) (standing_in_login c login faults) (standing_in_login d login faults)
    (Err OutOfMemory)
did_not_saved s login faults e = did_quiet (inl (ap (λ k. standing_in_login k login faults) e, refl, refl))
