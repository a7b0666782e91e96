-- A login by the method that binds is bound to the server's own hash.
use Rattle.std.proofs.Common.{◌≡◌, ℕ, Bool, true, false, ◌||◌, ◌&&◌, not, List, codes, Option, Some, None, Result, Ok, Err, refl, sym, ap, ◌∙◌}
use Rattle.std.specs.Prelude.{if◌then◌else◌, ◌++◌}
use Rattle.std.specs.Str.{bytes_eq}
use Rattle.std.proofs.lemmas.Slice.Eq.{bytes_eq-Decides}
use Rattle.pgw_types.specs.declared.error.PgWireError.{PgWireError}
use Rattle.pgw_types.specs.declared.error.PgWireError.TheVariants.{InvalidScramMessage}
use Rattle.pgw_types.specs.declared.error.ScramMessageFault.{ScramMessageFault}
use Rattle.pgw_types.specs.declared.error.ScramMessageFault.TheVariants.{ChannelBinding}
use Rattle.pgw_scram.specs.Answers.{unless, unless_so, first_of}
use Rattle.pgw_scram.specs.Base64.{base64}
use Rattle.pgw_scram.specs.Refusals.{begins_with}
use Rattle.pgw_scram.specs.Honest.{LetsIn}
use Rattle.pgw_scram.specs.Offers.{is_bound, names_end_point, is_misbound, channel_refusal, bound, final_for_offer, answered_as}
use Rattle.pgw_scram.specs.declared.offer.Offer.{Offer}
use Rattle.pgw_scram.specs.Readers.{read_client_first, read_client_final}
use Rattle.pgw_scram.specs.Server.{offered_to, scram_offer_as, offered_with, unless_misbound, accepted_as}
use Rattle.pgw_scram.specs.declared.messages.ClientFinal.{ClientFinal}
use Rattle.pgw_scram.specs.declared.messages.ClientFirst.{ClientFirst}
use Rattle.pgw_scram.specs.declared.password.Password.{Password as Kept}
use Rattle.pgw_scram.specs.declared.server.ScramServerAuth.{ScramServerAuth}
use Rattle.pgw_scram.specs.declared.server.ScramServerAuthWaitingForClientFinal.{ScramServerAuthWaitingForClientFinal as WaitingForClientFinal}
use Rattle.pgw_scram.proofs.BoundLaws.{bound_to}
use Rattle.pgw_login_server.specs.Server.{Stage}
use Rattle.pgw_login_server.specs.Taken.{Taken}
use Rattle.pgw_login_server.specs.Entry.{Source}
use Rattle.pgw_login_laws.specs.Bound.{IsBoundBy}
use Rattle.pgw_login_laws.specs.Entry.{ProvesScram, GivesSalted, TakesSalted, GivesStored, TakesStored}
use Rattle.pgw_secrets.specs.Server as secret
use Rattle.pgw_secrets.specs.declared.server.StoredScramAuth.{StoredScramAuth}
use Rattle.pgw_secrets.specs.declared.server.StoredScramWaiting.{StoredScramWaiting}
use Rattle.pgw_login_sasl.specs.Scram.{binds, is_misnamed, offered_by}
use Rattle.pgw_login_sasl.specs.Stored as stored
use Rattle.pgw_login_sasl.specs.Stored.{SecretSource, over}

-- ---- client-first

passed : {A : Type 0} (b : Bool) (e : PgWireError) (answer : Result A PgWireError) (out : A)
    → (if b then Err e else answer) ≡ Ok out → (b ≡ false) × (answer ≡ Ok out)
passed true e answer out is = absurd cc
passed false e answer out is = (refl, is)

so_bound : (b : Bool) → not b ≡ false → b ≡ true
so_bound true is = refl
so_bound false is = absurd cc

-- it is read, its header binds, and the server offers
read_first : (name : List ℕ) (server : ScramServerAuth) (r : Result ClientFirst ScramMessageFault) (kept : Kept)
    (nonce : List ℕ) (out : List ℕ × WaitingForClientFinal)
    → offered_by name server r kept nonce ≡ Ok out → binds name ≡ true
    → (parts : ClientFirst) × (r ≡ Ok parts) × (is_bound parts.header ≡ true)
    × (offered_to server parts kept nonce ≡ Ok out)
read_first name server (Err why) kept nonce out is plus = absurd cc
read_first name server (Ok parts) kept nonce out is plus =
    let p =
    passed (is_misnamed name parts.header) (InvalidScramMessage ChannelBinding)
    (offered_to server parts kept nonce) out is in
    let header : not (is_bound parts.header) ≡ false =
    sym (ap (λ (b : Bool). if b then not (is_bound parts.header) else is_bound parts.header) plus) ∙ p.0 in
    (parts, refl, so_bound (is_bound parts.header) header, p.1)

-- beside no hash a header that binds is refused
has_hash : {W : Type 0} (o : Option (List ℕ)) (parts : ClientFirst) (answer : Result (List ℕ × W) PgWireError)
    (out : List ℕ × W)
    → unless_misbound (channel_refusal o parts) answer ≡ Ok out → is_bound parts.header ≡ true
    → (hash : List ℕ) × (o ≡ Some hash)
has_hash (Some hash) parts answer out is bound = (hash, refl)
has_hash None parts answer out is bound =
    let refused : Err (InvalidScramMessage ChannelBinding) ≡ Ok out =
    sym (ap (λ (b : Bool). unless_misbound (unless_so (not b) (InvalidScramMessage ChannelBinding)) answer)
    bound) ∙ is in
    absurd cc

-- ---- client-final

read_answer : (w : WaitingForClientFinal) (r : Result ClientFinal ScramMessageFault) (out : List ℕ)
    → accepted_as w (answered_as w.offer r) ≡ Ok out → (parts : ClientFinal) × (r ≡ Ok parts)
read_answer w (Err why) out is = absurd cc
read_answer w (Ok parts) out is = (parts, refl)

-- ---- both

pub is_bound_by : (A : Source) (server : ScramServerAuth) (begin : Stage) (earlier : List Taken) (t : Taken)
    (run : ProvesScram (GivesSalted A server) TakesSalted begin earlier t)
    → run.offered.name ≡ codes "SCRAM-SHA-256-PLUS"
    → IsBoundBy server run.offered.client_first run.client_final
is_bound_by A server begin earlier t run named =
    let o = run.offered in
    let kept = o.gives.kept in
    let f =
    read_first o.name server (read_client_first o.client_first) kept begin.login.nonce
    (o.server_first, run.waiting) o.gives.offers (ap binds named) in
    let h =
    has_hash server.certificate_hash f.0 (offered_with server f.0 kept.salt kept.password begin.login.nonce)
    (o.server_first, run.waiting) f.3 f.2 in
    let a = read_answer run.waiting (read_client_final run.client_final) run.server_final run.takes in
    let lets : LetsIn server kept begin.login.nonce o.client_first run.client_final = record {
      first = f.0;
      answer = a.0;
      server_first = o.server_first;
      waits = run.waiting;
      server_final = run.server_final;
      is_first = f.1;
      is_answer = a.1;
      offers =
          ap (λ (r : Result ClientFirst ScramMessageFault). scram_offer_as server r kept begin.login.nonce) f.1
          ∙ f.3;
      accepts = run.takes;
    } in
    record {
      hash = h.0;
      first = f.0;
      answer = a.0;
      own = h.1;
      is_first = f.1;
      is_answer = a.1;
      bound = bound_to server kept begin.login.nonce o.client_first run.client_final h.0 h.1 lets f.2;
    }

-- ---- over a stored secret

names_by : (y b n : Bool) → (y || (b && not n)) ≡ false → b ≡ true → n ≡ true
names_by y b true h is = refl
names_by true b false h is = absurd cc
names_by false true false h is = absurd cc
names_by false false false h is = absurd cc

suits : {A : Type 0} (b : Bool) (e : PgWireError) (answer : Result A PgWireError) (r : A)
    → unless_misbound (unless_so (not b) e) answer ≡ Ok r → (b ≡ false) × (answer ≡ Ok r)
suits false e answer r is = (refl, is)
suits true e answer r is = absurd cc

-- client-first is read, its header binds, and the server offers
stored_first : (name : List ℕ) (server : StoredScramAuth) (r : Result ClientFirst ScramMessageFault)
    (nonce : List ℕ)
    (out : List ℕ × StoredScramWaiting) → stored.offered_by name server r nonce ≡ Ok out → binds name ≡ true
    → (parts : ClientFirst) × (r ≡ Ok parts) × (is_bound parts.header ≡ true)
    × (secret.stored_offer_to server parts nonce ≡ Ok out)
stored_first name server (Err why) nonce out is plus = absurd cc
stored_first name server (Ok parts) nonce out is plus =
    let p =
    passed (is_misnamed name parts.header) (InvalidScramMessage ChannelBinding)
    (secret.stored_offer_to server parts nonce) out is in
    let header : not (is_bound parts.header) ≡ false =
    sym (ap (λ (b : Bool). if b then not (is_bound parts.header) else is_bound parts.header) plus) ∙ p.0 in
    (parts, refl, so_bound (is_bound parts.header) header, p.1)

-- client-final is read, and has the binding of the offer
checked : (offer : Offer) (parts : ClientFinal) (b : Bool) (rest : Option PgWireError) (out : ClientFinal)
    → unless (first_of (unless_so b (InvalidScramMessage ChannelBinding)) rest) parts ≡ Ok out → b ≡ true
checked offer parts true rest out is = refl
checked offer parts false rest out is = absurd cc

stored_answer : (offer : Offer) (r : Result ClientFinal ScramMessageFault) (out : ClientFinal)
    → answered_as offer r ≡ Ok out
    → (parts : ClientFinal) × (r ≡ Ok parts) × (parts.binding ≡ offer.binding)
stored_answer offer (Err why) out is = absurd cc
stored_answer offer (Ok parts) out is = (
  parts,
  refl,
  (bytes_eq-Decides parts.binding offer.binding).0
      (checked offer parts (bytes_eq parts.binding offer.binding) _ out is),
)

-- what is accepted answers the offer
judged : (w : StoredScramWaiting) (r : Result ClientFinal PgWireError) (said : List ℕ)
    → secret.AcceptsAs w r (Ok said)
    → (parts : ClientFinal) × (r ≡ Ok parts)
judged w (Err e) said is = absurd cc
judged w (Ok parts) said is = (parts, refl)

waiting_same : (a b : List ℕ × StoredScramWaiting)
    → (let x : Result (List ℕ × StoredScramWaiting) PgWireError = Ok a in x ≡ Ok b) → a ≡ b
waiting_same a b is = cc

named_bound : (header hash : List ℕ) → names_end_point header ≡ true → bound header (Some hash) ≡ header ++ hash
named_bound header hash is = rw is refl

pub is_bound_over : (S : SecretSource) (server : ScramServerAuth) (begin : Stage) (earlier : List Taken)
    (t : Taken)
    (run : ProvesScram (GivesStored S server) TakesStored begin earlier t)
    → run.offered.name ≡ codes "SCRAM-SHA-256-PLUS"
    → IsBoundBy server run.offered.client_first run.client_final
is_bound_over S server begin earlier t run named =
    let o = run.offered in
    let own = over server o.gives.secret in
    let out : List ℕ × StoredScramWaiting = (o.server_first, run.waiting) in
    let f =
    stored_first o.name own (read_client_first o.client_first) begin.login.nonce out o.gives.offers
    (ap binds named) in
    let header = f.0.header in
    let offered : Result (List ℕ × StoredScramWaiting) PgWireError =
    Ok (secret.stored_with_first (secret.stored_wait own f.0 begin.login.nonce)) in
    let h = has_hash server.certificate_hash f.0 offered out f.3 f.2 in
    let p =
    suits (is_misbound server.certificate_hash header) (InvalidScramMessage ChannelBinding) offered out f.3 in
    let with_hash : is_misbound (Some h.0) header ≡ false =
    sym (ap (λ (o : Option (List ℕ)). is_misbound o header) h.1) ∙ p.0 in
    let names : names_end_point header ≡ true =
    names_by (begins_with header (codes "y,")) (is_bound header) (names_end_point header) with_hash f.2 in
    let awaits = sym (ap (λ (s : List ℕ × StoredScramWaiting). s.1.offer.binding) (waiting_same _ out p.1)) in
    let j = judged run.waiting (final_for_offer run.waiting.offer run.client_final) run.server_final run.takes in
    let a = stored_answer run.waiting.offer (read_client_final run.client_final) j.0 j.1 in
    record {
      hash = h.0;
      first = f.0;
      answer = a.0;
      own = h.1;
      is_first = f.1;
      is_answer = a.1;
      bound = (
        names,
        a.2 ∙ awaits ∙ ap (λ (o : Option (List ℕ)). base64 (bound header o)) h.1
            ∙ ap base64 (named_bound header h.0 names),
      );
    }
