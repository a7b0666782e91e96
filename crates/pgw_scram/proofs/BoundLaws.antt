-- A login that is bound is bound to the server's own hash.
use Rattle.std.proofs.Common.{◌≡◌, ℕ, Bool, true, false, ◌||◌, ◌&&◌, not, List, [], Option, Some, None, Result, Ok, Err, refl, sym, ap, subst, ◌∙◌}
use Rattle.std.specs.Str.{bytes_eq}
use Rattle.std.proofs.lemmas.Slice.Eq.{bytes_eq-Decides}
use Rattle.pgw_types.specs.declared.error.PgWireError.{PgWireError}
use Rattle.pgw_types.specs.declared.error.PgWireError.TheVariants.{InvalidScramMessage}
use Rattle.pgw_types.specs.declared.error.ScramMessageFault.{ScramMessageFault}
use Rattle.pgw_types.specs.declared.error.ScramMessageFault.TheVariants as fault
use Rattle.pgw_scram.specs.declared.messages.ClientFirst.{ClientFirst}
use Rattle.pgw_scram.specs.declared.messages.ClientFinal.{ClientFinal}
use Rattle.pgw_scram.specs.declared.password.Password.{Password}
use Rattle.pgw_scram.specs.declared.server.ScramServerAuth.{ScramServerAuth}
use Rattle.pgw_scram.specs.declared.server.ScramServerAuthWaitingForClientFinal.{ScramServerAuthWaitingForClientFinal as WaitingForClientFinal}
use Rattle.pgw_scram.specs.Answers.{unless, unless_so, first_of}
use Rattle.pgw_scram.specs.Base64.{base64}
use Rattle.pgw_scram.specs.Offers.{is_bound, names_end_point, is_misbound, channel_refusal, bound, answered_as}
use Rattle.pgw_scram.specs.Refusals.{begins_with}
use Rattle.std.specs.Prelude.{codes, ◌++◌}
use Rattle.pgw_scram.specs.Readers.{read_client_first, read_client_final}
use Rattle.pgw_scram.specs.Server.{offered_with, scram_offer_as, unless_misbound, accepted_as}
use Rattle.pgw_scram.specs.Honest.{LetsIn, BoundTo}

-- ---- the first step

names_by : (y b n : Bool) → (y || (b && not n)) ≡ false → b ≡ true → n ≡ true
names_by y b true h is = refl
names_by true b false h is = absurd cc
names_by false true false h is = absurd cc
names_by false false false h is = absurd cc

suits : {A : Type 0} (b : Bool) (e : PgWireError) (answer : Result A PgWireError) (r : A)
    → unless_misbound (unless_so (not b) e) answer ≡ Ok r → b ≡ false
suits false e answer r is = refl
suits true e answer r is = absurd cc

passed : {A : Type 0} (refusal : Option PgWireError) (answer : Result A PgWireError) (r : A)
    → unless_misbound refusal answer ≡ Ok r → answer ≡ Ok r
passed None answer r is = is
passed (Some e) answer r is = absurd cc

binding_in : Result (List ℕ × WaitingForClientFinal) PgWireError → List ℕ
binding_in (Ok offered) = offered.1.offer.binding
binding_in (Err e) = []

awaits : (server : ScramServerAuth) (parts : ClientFirst) (salt : Option (List ℕ)) (salted own text : List ℕ)
    (w : WaitingForClientFinal)
    → offered_with server parts salt salted own ≡ Ok (text, w)
    → w.offer.binding ≡ base64 (bound parts.header server.certificate_hash)
unfolding binding_in
awaits server parts None salted own text w is = absurd cc
awaits server parts (Some salt) salted own text w is = sym (ap binding_in is)

-- ---- the last step

matched : (w : WaitingForClientFinal) (parts : ClientFinal) (said : List ℕ) (b : Bool) (rest : Option PgWireError)
    → accepted_as w (unless (first_of (unless_so b (InvalidScramMessage fault.ChannelBinding)) rest) parts) ≡ Ok
    said
    → b ≡ true
matched w parts said true rest is = refl
matched w parts said false rest is = absurd cc

-- ---- both

named_bound : (header hash : List ℕ) → names_end_point header ≡ true → bound header (Some hash) ≡ header ++ hash
named_bound header hash is = rw is refl

pub bound_to : (server : ScramServerAuth) (password : Password) (nonce client_first client_final hash : List ℕ)
    → server.certificate_hash ≡ Some hash → (run : LetsIn server password nonce client_first client_final)
    → is_bound run.first.header ≡ true → BoundTo hash run.first run.answer
bound_to server password nonce client_first client_final hash own run binds =
    let parts = run.first in
    let offers =
    sym (ap (λ (r : Result ClientFirst ScramMessageFault). scram_offer_as server r password nonce)
    run.is_first)
    ∙ run.offers in
    let misbound : is_misbound server.certificate_hash parts.header ≡ false =
    suits (is_misbound server.certificate_hash parts.header) (InvalidScramMessage fault.ChannelBinding) _ _
    offers in
    let with_hash : is_misbound (Some hash) parts.header ≡ false =
    sym (ap (λ (o : Option (List ℕ)). is_misbound o parts.header) own) ∙ misbound in
    let names : names_end_point parts.header ≡ true =
    names_by (begins_with parts.header (codes "y,")) (is_bound parts.header) (names_end_point parts.header)
    with_hash binds in
    let awaited =
    awaits server parts password.salt password.password nonce run.server_first run.waits
    (passed (channel_refusal server.certificate_hash parts) _ _ offers) in
    let accepts =
    sym (ap (λ (r : Result ClientFinal ScramMessageFault). accepted_as run.waits
    (answered_as run.waits.offer r)) run.is_answer)
    ∙ run.accepts in
    let same : run.answer.binding ≡ run.waits.offer.binding =
    (bytes_eq-Decides run.answer.binding run.waits.offer.binding).0
    (matched run.waits run.answer run.server_final _ _ accepts) in (
      names,
      same ∙ awaited ∙ ap (λ (o : Option (List ℕ)). base64 (bound parts.header o)) own
          ∙ ap base64 (named_bound parts.header hash names),
    )
