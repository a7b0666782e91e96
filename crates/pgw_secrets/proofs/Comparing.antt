-- A server with a stored secret answers what one with the SaltedPassword does.
use Rattle.std.proofs.Common.{◌≡◌, inl, inr, ℕ, Bool, true, false, List, Option, Some, None, Result, Ok, Err, refl, sym, ap, subst, ◌∙◌}
use Rattle.std.specs.Str.{bytes_eq}
use Rattle.std.proofs.lemmas.Slice.Eq.{bytes_eq-Decides}
use Rattle.sha2.specs.Sha256.{sha256}
use Rattle.pgw_hash.specs.Xor.{xor}
use Rattle.pgw_types.specs.declared.error.PgWireError.{PgWireError}
use Rattle.pgw_types.specs.declared.error.PgWireError.TheVariants.{InvalidPassword}
use Rattle.pgw_types.specs.declared.error.ScramMessageFault.{ScramMessageFault}
use Rattle.pgw_scram.specs.declared.messages.ClientFirst.{ClientFirst}
use Rattle.pgw_scram.specs.declared.messages.ClientFinal.{ClientFinal}
use Rattle.pgw_scram.specs.declared.server.ScramServerAuth.{ScramServerAuth}
use Rattle.pgw_scram.specs.declared.server.ScramServerAuthWaitingForClientFinal.{ScramServerAuthWaitingForClientFinal as WaitingForClientFinal}
use Rattle.pgw_scram.specs.Answers.{unless, unless_so}
use Rattle.pgw_scram.specs.Base64.{base64}
use Rattle.pgw_scram.specs.Formulas.{client_key, stored_key, client_signature, proof_by, signature_by}
use Rattle.pgw_scram.specs.Offers.{channel_refusal, exchanged, final_for_offer, server_final}
use Rattle.pgw_scram.specs.Readers.{read_client_first}
use Rattle.pgw_scram.specs.Server.{unless_misbound, scram_wait, with_server_first, offered_with, scram_offer_as, scram_offer, accepted_as, accepted}
use Rattle.pgw_secrets.specs.declared.server.StoredScramWaiting.{StoredScramWaiting}
use Rattle.pgw_secrets.specs.Secret.{IsScramKey}
use Rattle.pgw_secrets.specs.Server as stored
use Rattle.pgw_secrets.specs.Comparison.{storing, kept_password, stored_of, in_its_place, HashesAlone}
use Rattle.pgw_secrets.proofs.Digests.{hmac_key, xor_twice, xor_key}

-- ---- the first step

bound_by : (server : ScramServerAuth) (salt salted own : List ℕ) (parts : ClientFirst)
    (refusal : Option PgWireError)
    → channel_refusal server.certificate_hash parts ≡ refusal
    → stored.stored_offer_as (storing server salt salted) (Ok parts) own ≡ in_its_place
    (scram_offer_as server (Ok parts) (kept_password salt salted) own)
bound_by server salt salted own parts None e = rw e refl
bound_by server salt salted own parts (Some why) e = rw e refl

read_by : (server : ScramServerAuth) (salt salted own : List ℕ) (reading : Result ClientFirst ScramMessageFault)
    → stored.stored_offer_as (storing server salt salted) reading own ≡ in_its_place
    (scram_offer_as server reading (kept_password salt salted) own)
read_by server salt salted own (Err why) = refl
read_by server salt salted own (Ok parts) =
    bound_by server salt salted own parts (channel_refusal server.certificate_hash parts) refl

pub same_offer : (server : ScramServerAuth) (salt salted own message : List ℕ)
    → stored.stored_offer (storing server salt salted) message own ≡ in_its_place
    (scram_offer server message (kept_password salt salted) own)
same_offer server salt salted own message = read_by server salt salted own (read_client_first message)

-- ---- one answer

judged_once : (server : StoredScramWaiting) (parts : ClientFinal) (a b : Result (List ℕ) PgWireError)
    → stored.Judges server parts a → stored.Judges server parts b → a ≡ b
judged_once server parts a b (inl x) (inl y) = x.1 ∙ sym y.1
judged_once server parts a b (inl x) (inr y) = absurd (y.0 x.0)
judged_once server parts a b (inr x) (inl y) = absurd (x.0 y.0)
judged_once server parts a b (inr x) (inr y) = x.1 ∙ sym y.1

accepted_once : (server : StoredScramWaiting) (read : Result ClientFinal PgWireError)
    (a b : Result (List ℕ) PgWireError)
    → stored.AcceptsAs server read a → stored.AcceptsAs server read b → a ≡ b
accepted_once server (Err e) a b x y = x ∙ sym y
accepted_once server (Ok parts) a b x y = judged_once server parts a b x y

pub one_answer : (server : StoredScramWaiting) (message : List ℕ) (a b : Result (List ℕ) PgWireError)
    → stored.AcceptsStored server message a → stored.AcceptsStored server message b → a ≡ b
one_answer server message a b x y = accepted_once server (final_for_offer server.offer message) a b x y

-- ---- before the proof

pub refused_alike : (server : WaitingForClientFinal) (message : List ℕ) (e : PgWireError)
    → final_for_offer server.offer message ≡ Err e
    → (accepted server message ≡ Err e) × stored.AcceptsStored (stored_of server) message (Err e)
refused_alike server message e is =
    (rw is refl, subst (λ r. stored.AcceptsAs (stored_of server) r (Err e)) (sym is) refl)

-- ---- the proof

abbrev wanted : WaitingForClientFinal → ClientFinal → List ℕ
wanted server parts = proof_by server.client_key (exchanged server.offer parts)

signs : (server : WaitingForClientFinal) (parts : ClientFinal)
    → IsScramKey (client_signature (stored_key server.client_key) (exchanged server.offer parts))
signs server parts = hmac_key (stored_key server.client_key) (exchanged server.offer parts)

own_proof : (server : WaitingForClientFinal) (parts : ClientFinal) → IsScramKey server.client_key
    → parts.proof ≡ base64 (wanted server parts) → stored.Proves (stored_of server) parts
own_proof server parts key is = record {
  proof = wanted server parts;
  written = is;
  is_key = xor_key server.client_key _ key (signs server parts);
  hashes = ap sha256 (xor_twice server.client_key _ (key.0 ∙ sym (signs server parts).0));
}

alone : (server : WaitingForClientFinal) (parts : ClientFinal) → IsScramKey server.client_key
    → HashesAlone server.client_key → stored.Proves (stored_of server) parts
    → parts.proof ≡ base64 (wanted server parts)
alone server parts key only p =
    let sign = client_signature (stored_key server.client_key) (exchanged server.offer parts) in
    let signed = signs server parts in
    let is : xor p.proof sign ≡ server.client_key =
    only (xor p.proof sign) (xor_key p.proof sign p.is_key signed) p.hashes in
    p.written
    ∙ ap base64 (sym (xor_twice p.proof sign (p.is_key.0 ∙ sym signed.0))
    ∙ ap (λ (l : List ℕ). xor l sign) is)

taken_by : (server : WaitingForClientFinal) (parts : ClientFinal) (same : Bool) (final : List ℕ)
    → IsScramKey server.client_key → bytes_eq parts.proof (base64 (wanted server parts)) ≡ same
    → unless (unless_so same (InvalidPassword server.offer.user))
    (server_final (signature_by server.server_key (exchanged server.offer parts))) ≡ Ok final
    → stored.Judges (stored_of server) parts (Ok final)
taken_by server parts true final key e is =
    inl (own_proof server parts key ((bytes_eq-Decides parts.proof (base64 (wanted server parts))).0 e), sym is)
taken_by server parts false final key e is = cc

taken_as : (server : WaitingForClientFinal) (read : Result ClientFinal PgWireError) (final : List ℕ)
    → IsScramKey server.client_key → accepted_as server read ≡ Ok final
    → stored.AcceptsAs (stored_of server) read (Ok final)
taken_as server (Err e) final key is = cc
taken_as server (Ok parts) final key is =
    taken_by server parts (bytes_eq parts.proof (base64 (wanted server parts))) final key refl is

pub taken : (server : WaitingForClientFinal) (message final : List ℕ) → IsScramKey server.client_key
    → accepted server message ≡ Ok final → stored.AcceptsStored (stored_of server) message (Ok final)
taken server message final key is = taken_as server (final_for_offer server.offer message) final key is

judged_by : (server : WaitingForClientFinal) (parts : ClientFinal) (same : Bool) → IsScramKey server.client_key
    → HashesAlone server.client_key → bytes_eq parts.proof (base64 (wanted server parts)) ≡ same
    → stored.Judges (stored_of server) parts
    (unless (unless_so same (InvalidPassword server.offer.user))
    (server_final (signature_by server.server_key (exchanged server.offer parts))))
judged_by server parts true key only e =
    inl (own_proof server parts key ((bytes_eq-Decides parts.proof (base64 (wanted server parts))).0 e), refl)
judged_by server parts false key only e =
    inr (
      λ p. let is = (bytes_eq-Decides parts.proof (base64 (wanted server parts))).1
          (alone server parts key only p) in let both : true ≡ false = sym is
          ∙ e in cc,
      refl,
    )

judged_as : (server : WaitingForClientFinal) (read : Result ClientFinal PgWireError)
    → IsScramKey server.client_key → HashesAlone server.client_key
    → stored.AcceptsAs (stored_of server) read (accepted_as server read)
judged_as server (Err e) key only = refl
judged_as server (Ok parts) key only =
    judged_by server parts (bytes_eq parts.proof (base64 (wanted server parts))) key only refl

pub judged_alike : (server : WaitingForClientFinal) (message : List ℕ) → IsScramKey server.client_key
    → HashesAlone server.client_key → stored.AcceptsStored (stored_of server) message (accepted server message)
judged_alike server message key only = judged_as server (final_for_offer server.offer message) key only

-- ---- what an accepted proof shows

shown_as : (server : StoredScramWaiting) (read : Result ClientFinal PgWireError) (final : List ℕ)
    → stored.AcceptsAs server read (Ok final)
    → (parts : ClientFinal) × (read ≡ Ok parts) × stored.Proves server parts
shown_as server (Err e) final is = cc
shown_as server (Ok parts) final (inl x) = (parts, refl, x.0)
shown_as server (Ok parts) final (inr x) = let e = x.1 in cc

pub shown : (server : StoredScramWaiting) (message final : List ℕ)
    → stored.AcceptsStored server message (Ok final)
    → (parts : ClientFinal) × (final_for_offer server.offer message ≡ Ok parts) × stored.Proves server parts
shown server message final is = shown_as server (final_for_offer server.offer message) final is

-- ---- the keys that wait

ok_same : {A E : Type 0} (a b : A) → (let x : Result A E = Ok a in x ≡ Ok b) → a ≡ b
ok_same a b e = cc

waits_by : (server : ScramServerAuth) (salt salted own text : List ℕ) (parts : ClientFirst)
    (refusal : Option PgWireError) (waits : WaitingForClientFinal)
    → unless_misbound refusal (offered_with server parts (Some salt) salted own) ≡ Ok (text, waits)
    → waits.client_key ≡ client_key salted
waits_by server salt salted own text parts None waits e =
    sym (ap (λ p. p.1.client_key)
    (ok_same (with_server_first (scram_wait server parts salt salted own)) (text, waits) e))
waits_by server salt salted own text parts (Some why) waits e = cc

waits_as : (server : ScramServerAuth) (salt salted own text : List ℕ)
    (reading : Result ClientFirst ScramMessageFault) (waits : WaitingForClientFinal)
    → scram_offer_as server reading (kept_password salt salted) own ≡ Ok (text, waits)
    → waits.client_key ≡ client_key salted
waits_as server salt salted own text (Err why) waits e = cc
waits_as server salt salted own text (Ok parts) waits e =
    waits_by server salt salted own text parts (channel_refusal server.certificate_hash parts) waits e

pub waiting_key : (server : ScramServerAuth) (salt salted own message text : List ℕ)
    (waits : WaitingForClientFinal)
    → scram_offer server message (kept_password salt salted) own ≡ Ok (text, waits) → IsScramKey waits.client_key
waiting_key server salt salted own message text waits e =
    subst IsScramKey (sym (waits_as server salt salted own text (read_client_first message) waits e))
    (hmac_key salted _)
