-- What the server's answers say of the texts.
use Rattle.std.proofs.Common.{◌≡◌, ◌≢◌, ◌⊎◌, inl, inr, ℕ, Bool, true, false, List, [], ◌∷◌, ◌++◌, length, drop, Option, Some, None, Result, Ok, Err, refl, sym, ap, ◌∙◌, append_assoc, arith, length-append}
use Rattle.std.specs.Prelude.{if◌then◌else◌, codes}
use Rattle.std.specs.Str.{bytes_eq, is_utf8}
use Rattle.std.proofs.lemmas.Slice.Eq.{bytes_eq-Decides}
use Rattle.pgw_types.specs.declared.error.PgWireError.{PgWireError}
use Rattle.pgw_types.specs.declared.error.PgWireError.TheVariants.{InvalidPassword, InvalidScramMessage}
use Rattle.pgw_types.specs.declared.error.ScramMessageFault.{ScramMessageFault}
use Rattle.pgw_types.specs.declared.error.ScramMessageFault.TheVariants as fault
use Rattle.pgw_scram.specs.Answers.{unless, unless_so, first_of}
use Rattle.pgw_scram.specs.Base64.{base64, salt_of}
use Rattle.pgw_scram.specs.Formulas.{client_key, server_key, client_proof, proof_by, signature_by}
use Rattle.pgw_scram.specs.Offers.{bound, channel_refusal, exchanged, answer_refusal, answered_as, server_final}
use Rattle.pgw_hash.specs.Pbkdf2.{salted_password}
use Rattle.pgw_scram.specs.Attributes.{IsValue, more_attributes}
use Rattle.pgw_scram.specs.Binding.{gs2_header, binding_text}
use Rattle.pgw_scram.specs.Exchange.{client_first, client_first_bare, without_proof, exchanged as client_exchanged, with_salt as with_salt_of, with_parts, client_final}
use Rattle.pgw_scram.specs.Messages.{IsClientFinal}
use Rattle.pgw_scram.specs.Readers.{cut, behind_name, header_parts, or_grammar, bare_parts, client_first_parts, read_client_first, read_server_first, read_client_final}
use Rattle.pgw_scram.specs.declared.messages.ServerFirst.{ServerFirst}
use Rattle.pgw_scram.proofs.AttributeLaws.{cut_of}
use Rattle.pgw_scram.proofs.Base64Laws.{base64_utf8, base64_value}
use Rattle.pgw_scram.proofs.ExchangeLaws.{verifier_is_read}
use Rattle.pgw_scram.specs.Refusals.{verifier_refusal, scram_refusal}
use Rattle.pgw_types.specs.declared.scram_error.ScramClientError.{ScramClientError}
use Rattle.pgw_types.specs.declared.scram_error.ScramClientError.TheVariants.{ScramError}
use Rattle.pgw_types.specs.declared.scram_error.ScramFault.TheVariants as scram_fault
use Rattle.pgw_scram.proofs.MessageLaws.{client_final_form}
use Rattle.pgw_login_sasl.specs.Scram.{is_misnamed}
use Rattle.pgw_session.specs.Logins.{method_of}
use Rattle.pgw_scram.specs.declared.binding.ClientBinding.{ClientBinding}
use Rattle.pgw_scram.specs.declared.binding.ClientBinding.TheVariants as binding
use Rattle.pgw_scram.specs.declared.exchange.ClientLogin.{ClientLogin}
use Rattle.pgw_scram.specs.Server.{scram_offer, scram_offer_as, offered_with, unless_misbound, accepted, accepted_as}
use Rattle.pgw_scram.specs.declared.messages.ClientFirst.{ClientFirst}
use Rattle.pgw_scram.specs.declared.messages.ClientFinal.{ClientFinal}
use Rattle.pgw_scram.specs.declared.password.Password.{Password as Kept}
use Rattle.pgw_scram.specs.declared.server.ScramServerAuth.{ScramServerAuth}
use Rattle.pgw_scram.specs.declared.server.ScramServerAuthWaitingForClientFinal.{ScramServerAuthWaitingForClientFinal as WaitingForClientFinal}

-- an offer: client-first was read, and it is kept with what was offered
pub record IsKept (hash : Option (List ℕ)) (text : List ℕ) (stored : Kept) (first : List ℕ)
    (waiting : WaitingForClientFinal) : Type 0 where
  pub opening : ClientFirst
  pub reads : read_client_first text ≡ Ok opening
  pub bare : (waiting.offer).bare ≡ opening.bare
  pub offer : (waiting.offer).server_first ≡ first
  pub binding : (waiting.offer).binding ≡ base64 (bound opening.header hash)
  pub key : waiting.client_key ≡ client_key stored.password
  pub own_key : waiting.server_key ≡ server_key stored.password

ok_same : {A E : Type 0} {x y : A} → ◌≡◌ {A = Result A E} (Ok x) (Ok y) → x ≡ y
ok_same h = cc

known : {A E : Type 0} (r : Result A E) → ((x : A) × (r ≡ Ok x)) ⊎ ((e : E) × (r ≡ Err e))
known (Ok x) = inl (x, refl)
known (Err e) = inr (e, refl)

pair_is : {A E B : Type 0} {a c : A} {b d : B} → ◌≡◌ {A = Result (A × B) E} (Ok (a, b)) (Ok (c, d))
    → (a ≡ c) × (b ≡ d)
pair_is {A = A} {B = B} {a = a} {c = c} {b = b} {d = d} e =
    let x : A × B = (a, b) in
    let y : A × B = (c, d) in
    let p : x ≡ y = cc in
    (λ i. (p i).0, λ i. (p i).1)

with_salt : (server : ScramServerAuth) (text : List ℕ) (stored : Kept) (nonce first : List ℕ)
    (waiting : WaitingForClientFinal) (opening : ClientFirst)
    → read_client_first text ≡ Ok opening → (salt : Option (List ℕ))
    → offered_with server opening salt stored.password nonce ≡ Ok (first, waiting)
    → IsKept server.certificate_hash text stored first waiting
with_salt server text stored nonce first waiting opening reads None is = absurd cc
with_salt server text stored nonce first waiting opening reads (Some salt) is =
    let p = pair_is is in
    record {
      opening = opening;
      reads = reads;
      bare = ap (λ (x : WaitingForClientFinal). (x.offer).bare) (sym p.1);
      offer = ap (λ (x : WaitingForClientFinal). (x.offer).server_first) (sym p.1) ∙ p.0;
      binding = ap (λ (x : WaitingForClientFinal). (x.offer).binding) (sym p.1);
      key = ap (λ (x : WaitingForClientFinal). x.client_key) (sym p.1);
      own_key = ap (λ (x : WaitingForClientFinal). x.server_key) (sym p.1);
    }

no_err : {A E : Type 0} {x : A} {e : E} → ◌≡◌ {A = Result A E} (Ok x) (Err e) → ⊥
no_err h = cc

-- it is not refused for what it is bound to
with_binding : (server : ScramServerAuth) (text : List ℕ) (stored : Kept) (nonce first : List ℕ)
    (waiting : WaitingForClientFinal) (opening : ClientFirst)
    → read_client_first text ≡ Ok opening → (e : Option PgWireError)
    → unless_misbound e (offered_with server opening stored.salt stored.password nonce) ≡ Ok (first, waiting)
    → IsKept server.certificate_hash text stored first waiting
with_binding server text stored nonce first waiting opening reads None is =
    with_salt server text stored nonce first waiting opening reads stored.salt is
with_binding server text stored nonce first waiting opening reads (Some e) is = absurd (no_err (sym is))

pub was_offered : (server : ScramServerAuth) (text : List ℕ) (stored : Kept) (nonce first : List ℕ)
    (waiting : WaitingForClientFinal)
    → scram_offer server text stored nonce ≡ Ok (first, waiting)
    → IsKept server.certificate_hash text stored first waiting
was_offered server text stored nonce first waiting is = elim (known (read_client_first text)) [
  | inl k ↦ with_binding server text stored nonce first waiting k.0 k.1
      (channel_refusal server.certificate_hash k.0)
      (sym (ap (λ (r : Result ClientFirst ScramMessageFault). scram_offer_as server r stored nonce) k.1) ∙ is)
  | inr k ↦ absurd (no_err (sym is
      ∙ ap (λ (r : Result ClientFirst ScramMessageFault). scram_offer_as server r stored nonce) k.1))
]

-- ---- what is bound

-- client-first is read with the header that the client wrote
named : ClientBinding → List ℕ → Option (List ℕ × List ℕ × Option (List ℕ)) → Option ClientFirst
named b bare None = None
named b bare (Some names) = Some (record { header = gs2_header b; bare = bare; user = names.0; nonce = names.1 })

parts_are : (b : ClientBinding) (bare : List ℕ) (o : Option (List ℕ × List ℕ × Option (List ℕ)))
    → bare_parts bare ≡ o → client_first_parts (gs2_header b ++ bare) ≡ named b bare o
unfolding client_first_parts header_parts cut behind_name named
parts_are binding.None bare None is = rw is refl
parts_are binding.None bare (Some names) is = rw is refl
parts_are binding.NotOffered bare None is = rw is refl
parts_are binding.NotOffered bare (Some names) is = rw is refl
parts_are (binding.EndPoint hash) bare None is = rw is refl
parts_are (binding.EndPoint hash) bare (Some names) is = rw is refl

header_named : (b : ClientBinding) (bare : List ℕ) (o : Option (List ℕ × List ℕ × Option (List ℕ)))
    (opening : ClientFirst)
    → or_grammar (named b bare o) ≡ Ok opening → opening.header ≡ gs2_header b
unfolding named
header_named b bare None opening is = absurd cc
header_named b bare (Some names) opening is = ap (λ (x : ClientFirst). x.header) (sym (ok_same is))

header_by : (utf8 : Bool) (b : ClientBinding) (bare : List ℕ) (opening : ClientFirst)
    → (if utf8 then or_grammar (client_first_parts (gs2_header b ++ bare)) else Err fault.NotUtf8) ≡ Ok opening
    → opening.header ≡ gs2_header b
header_by false b bare opening is = absurd cc
header_by true b bare opening is =
    header_named b bare (bare_parts bare) opening (sym (ap or_grammar (parts_are b bare (bare_parts bare) refl))
    ∙ is)

pub header_read : (login : ClientLogin) (opening : ClientFirst)
    → read_client_first (client_first login) ≡ Ok opening → opening.header ≡ gs2_header login.binding
unfolding client_first
header_read login opening is =
    let bare = client_first_bare login.user login.nonce in
    header_by (is_utf8 (gs2_header login.binding ++ bare)) login.binding bare opening is

-- the method of a login goes with its header
goes_with : (b : ClientBinding) → is_misnamed (method_of b) (gs2_header b) ≡ false
goes_with binding.None = refl
goes_with binding.NotOffered = refl
goes_with (binding.EndPoint hash) = refl

pub login_named : (login : ClientLogin) (opening : ClientFirst)
    → read_client_first (client_first login) ≡ Ok opening
    → is_misnamed (method_of login.binding) opening.header ≡ false
login_named login opening is =
    ap (is_misnamed (method_of login.binding)) (header_read login opening is) ∙ goes_with login.binding

-- what stands before the first comma is one text
before_comma : (v w x y : List ℕ) → IsValue v → IsValue w → v ++ 44 ∷ x ≡ w ++ 44 ∷ y → v ≡ w
before_comma v w x y a b is =
    ap (λ (p : List ℕ × Option (List ℕ)). p.0) (sym (cut_of v (Some x) a) ∙ ap cut is ∙ cut_of w (Some y) b)

-- client-final is read with the text that the client bound
written_read : (b : ClientBinding) (nonce proof : List ℕ) (closing : ClientFinal)
    → IsClientFinal (without_proof b nonce ++ codes ",p=" ++ proof) closing → closing.binding ≡ binding_text b
unfolding without_proof
written_read b nonce proof closing form =
    let w = form.without_proof in
    let more : List ℕ = codes "r=" ++ (closing.nonce ++ more_attributes w.more) in
    let own : List ℕ = codes "r=" ++ nonce ++ codes ",p=" ++ proof in
    let text : codes "c=" ++ (binding_text b ++ 44 ∷ own) ≡ without_proof b nonce ++ codes ",p=" ++ proof =
    simp append_assoc in
    let all : codes "c=" ++ (binding_text b ++ 44 ∷ own) ≡ (codes "c=" ++ (closing.binding ++ 44 ∷ more)) ++ 44 ∷
    (codes "p=" ++ closing.proof) =
    text ∙ form.written ∙ ap (λ (l : List ℕ). l ++ 44 ∷ (codes "p=" ++ closing.proof)) w.written in
    let cut_tail : (closing.binding ++ 44 ∷ more) ++ 44 ∷ (codes "p=" ++ closing.proof) ≡ closing.binding ++ 44 ∷
    (more ++ 44 ∷ (codes "p=" ++ closing.proof)) =
    append_assoc closing.binding (44 ∷ more) (44 ∷ (codes "p=" ++ closing.proof)) in
    let tail : binding_text b ++ 44 ∷ own ≡ closing.binding ++ 44 ∷ (more ++ 44 ∷ (codes "p=" ++ closing.proof)) =
    ap (drop 2) all ∙ cut_tail in
    sym (before_comma (binding_text b) closing.binding own (more ++ 44 ∷ (codes "p=" ++ closing.proof))
    (base64_value _) w.binding_value tail)

none_read : (closing : ClientFinal) → read_client_final [] ≡ Ok closing → ⊥
none_read closing is = go (client_final_form [] closing is)
  where
    go : IsClientFinal [] closing → ⊥
    go form =
        omega (
          arith,
          ap length form.written,
          length-append closing.without_proof
              (44 ∷ (codes "p=" ++ closing.proof)),
        )

salted_read : (b : ClientBinding) (salt : Option (List ℕ)) (nonce : List ℕ) (proof : List ℕ → List ℕ)
    (closing : ClientFinal)
    → read_client_final (with_salt_of salt (λ s. without_proof b nonce ++ codes ",p=" ++ proof s)) ≡ Ok closing
    → closing.binding ≡ binding_text b
salted_read b None nonce proof closing is = absurd (none_read closing is)
salted_read b (Some salt) nonce proof closing is =
    written_read b nonce (proof salt) closing (client_final_form _ closing is)

final_by : (login : ClientLogin) (first : List ℕ) (r : Result ServerFirst ScramMessageFault)
    (closing : ClientFinal)
    → read_client_final (with_parts r (λ parts salt. without_proof login.binding parts.nonce ++ codes ",p="
    ++ base64 (client_proof (salted_password login.password salt parts.count)
    (client_exchanged login first parts)))) ≡ Ok closing
    → closing.binding ≡ binding_text login.binding
final_by login first (Err why) closing is = absurd (none_read closing is)
final_by login first (Ok parts) closing is =
    salted_read login.binding (salt_of parts.salt) parts.nonce
    (λ salt. base64 (client_proof (salted_password login.password salt parts.count)
    (client_exchanged login first parts))) closing is

pub binding_read : (login : ClientLogin) (first : List ℕ) (closing : ClientFinal)
    → read_client_final (client_final login first) ≡ Ok closing → closing.binding ≡ binding_text login.binding
unfolding client_final
binding_read login first closing is = final_by login first (read_server_first first) closing is

-- ---- the proof

-- what it is to be
abbrev pub owed : WaitingForClientFinal → ClientFinal → List ℕ
owed waiting closing = base64 (proof_by waiting.client_key (exchanged waiting.offer closing))

-- client-final was read, and it answers the offer; or it is refused as no answer, and not for its proof
pub data Hears (waiting : WaitingForClientFinal) (body : List ℕ) : Type 0 where
  unread : (e : PgWireError) → ((user : List ℕ) → e ≡ InvalidPassword user → ⊥) → accepted waiting body ≡ Err e
      → Hears waiting body
  heard : (closing : ClientFinal) → read_client_final body ≡ Ok closing
      → closing.binding ≡ (waiting.offer).binding → accepted waiting body ≡ accepted_as waiting (Ok closing)
      → Hears waiting body

refused_so : (a b : Bool) (user : List ℕ) (e : PgWireError)
    → first_of (unless_so a (InvalidScramMessage fault.ChannelBinding))
    (unless_so b (InvalidScramMessage fault.Nonce)) ≡ Some e
    → e ≡ InvalidPassword user → ⊥
refused_so true true user e is named = cc
refused_so true false user e is named = cc
refused_so false b user e is named = cc

bound_by : (a b : Bool)
    → ◌≡◌ {A = Option PgWireError}
    (first_of (unless_so a (InvalidScramMessage fault.ChannelBinding))
    (unless_so b (InvalidScramMessage fault.Nonce))) None
    → a ≡ true
bound_by true b is = refl
bound_by false b is = absurd cc

bound_so : (b : Bool) (given due : List ℕ)
    → ◌≡◌ {A = Option PgWireError}
    (first_of (unless_so (bytes_eq given due) (InvalidScramMessage fault.ChannelBinding))
    (unless_so b (InvalidScramMessage fault.Nonce))) None
    → given ≡ due
bound_so b given due is = (bytes_eq-Decides given due).0 (bound_by (bytes_eq given due) b is)

pub hears : (waiting : WaitingForClientFinal) (body : List ℕ) → Hears waiting body
hears waiting body = elim (known (read_client_final body)) [
  | inl k ↦ answers k.0 k.1 (answer_refusal waiting.offer k.0) refl
  | inr k ↦ unread (InvalidScramMessage k.0) (λ user named. cc)
      (ap (λ (r : Result ClientFinal ScramMessageFault). accepted_as waiting (answered_as waiting.offer r)) k.1)
]
  where
    answers : (closing : ClientFinal) → read_client_final body ≡ Ok closing → (o : Option PgWireError)
        → answer_refusal waiting.offer closing ≡ o → Hears waiting body
    answers closing reads None is =
        heard closing reads (bound_so (bytes_eq closing.nonce (waiting.offer).nonce) closing.binding
        (waiting.offer).binding is) (ap (λ (r : Result ClientFinal ScramMessageFault). accepted_as waiting
        (answered_as waiting.offer r)) reads
        ∙ ap (λ (o : Option PgWireError). accepted_as waiting (unless o closing)) is)
    answers closing reads (Some e) is =
        unread e (λ user named. refused_so (bytes_eq closing.binding (waiting.offer).binding)
        (bytes_eq closing.nonce (waiting.offer).nonce) user e is named)
        (ap (λ (r : Result ClientFinal ScramMessageFault). accepted_as waiting (answered_as waiting.offer r))
        reads
        ∙ ap (λ (o : Option PgWireError). accepted_as waiting (unless o closing)) is)

passed : (c : Bool) (user final out : List ℕ) → unless (unless_so c (InvalidPassword user)) out ≡ Ok final
    → (c ≡ true) × (out ≡ final)
passed true user final out is = (refl, cc)
passed false user final out is = absurd cc

other_proof : (c : Bool) (who user out : List ℕ)
    → unless (unless_so c (InvalidPassword who)) out ≡ Err (InvalidPassword user) → c ≡ false
other_proof true who user out is = absurd cc
other_proof false who user out is = refl

-- the verifier, and the text of server-final, behind client-final
abbrev pub assured : WaitingForClientFinal → ClientFinal → List ℕ
assured waiting closing = base64 (signature_by waiting.server_key (exchanged waiting.offer closing))

abbrev pub signed : WaitingForClientFinal → ClientFinal → List ℕ
signed waiting closing = server_final (signature_by waiting.server_key (exchanged waiting.offer closing))

no_mismatch : (b : Bool)
    → ◌≡◌ {A = Option ScramClientError} (unless_so b (ScramError scram_fault.SignatureMismatch)) None → b ≡ true
no_mismatch true is = refl
no_mismatch false is = absurd cc

-- a client takes a verifier that it awaits alone
pub verifier_same : (n expected : List ℕ) → scram_refusal expected (codes "v=" ++ base64 n) ≡ None
    → expected ≡ base64 n
verifier_same n expected is =
    let read = verifier_is_read (base64 n) (base64_value n) (base64_utf8 n) in
    sym ((bytes_eq-Decides (base64 n) expected).0
    (no_mismatch (bytes_eq (base64 n) expected) (sym (ap (verifier_refusal expected) read) ∙ is)))

pub was_accepted : (waiting : WaitingForClientFinal) (body final : List ℕ) → accepted waiting body ≡ Ok final
    → (closing : ClientFinal) × (read_client_final body ≡ Ok closing)
    × (closing.binding ≡ (waiting.offer).binding) × (closing.proof ≡ owed waiting closing)
    × (signed waiting closing ≡ final)
was_accepted waiting body final is = elim (hears waiting body) [
  | unread e other refusal ↦ absurd (no_err (sym is ∙ refusal))
  | heard closing reads binds so ↦
      let p =
      passed (bytes_eq closing.proof (owed waiting closing)) (waiting.offer).user final
      (signed waiting closing) (sym so ∙ is) in
      (closing, reads, binds, (bytes_eq-Decides closing.proof (owed waiting closing)).0 p.0, p.1)
]

is_false : (b : Bool) → b ≡ false → b ≡ true → ⊥
is_false b x y = let h = sym x ∙ y in absurd cc

err_same : {A E : Type 0} {r : Result A E} {x y : E} → r ≡ Err x → r ≡ Err y → x ≡ y
err_same {A = A} {E = E} {x = x} {y = y} a b = let h : ◌≡◌ {A = Result A E} (Err x) (Err y) = sym a ∙ b in cc

pub was_refused : (waiting : WaitingForClientFinal) (body user : List ℕ)
    → accepted waiting body ≡ Err (InvalidPassword user)
    → (closing : ClientFinal) × (read_client_final body ≡ Ok closing)
    × (closing.binding ≡ (waiting.offer).binding) × (closing.proof ≢ owed waiting closing)
was_refused waiting body user is = elim (hears waiting body) [
  | unread e other refusal ↦ absurd (other user (err_same refusal is))
  | heard closing reads binds so ↦
      let c =
      other_proof (bytes_eq closing.proof (owed waiting closing)) (waiting.offer).user user
      (signed waiting closing) (sym so ∙ is) in (
        closing,
        reads,
        binds,
        λ same. is_false (bytes_eq closing.proof (owed waiting closing)) c
            ((bytes_eq-Decides closing.proof (owed waiting closing)).1 same),
      )
]
