-- Parties that share a password: the client is not refused, and the server refuses another hash alone.
use Rattle.std.proofs.Common.{◌≡◌, ◌≢◌, false, ℕ, ◌+◌, ◌≤◌, Bool, true, not, is_some, List, [], ◌∷◌, ◌++◌, length, Option, Some, None, Result, Ok, Err, refl, sym, ap, ◌∙◌, arith}
use Rattle.std.specs.Prelude.{codes, option_map, unwrap_or}
use Rattle.std.proofs.lemmas.Bool.{le-ltb}
use Rattle.std.specs.Str.{is_utf8, bytes_eq}
use Rattle.std.proofs.lemmas.Slice.Eq.{bytes_eq-Decides}
use Rattle.atomic_table.specs.Seated.{TableId}
use Rattle.pgw_types.specs.declared.error.PgWireError.{PgWireError}
use Rattle.pgw_types.specs.declared.error.PgWireError.TheVariants.{InvalidScramMessage}
use Rattle.pgw_types.specs.declared.error.ScramMessageFault.{ScramMessageFault}
use Rattle.pgw_types.specs.declared.error.ScramMessageFault.TheVariants as fault
use Rattle.pgw_wire.specs.Framing as framing
use Rattle.pgw_wire.specs.declared.framing.Framing.{Framing}
use Rattle.pgw_backend.specs.Backend.{backend_encoding}
use Rattle.pgw_backend.specs.declared.client_error.PgWireClientError.{PgWireClientError as ClientError}
use Rattle.pgw_backend.specs.declared.client_error.PgWireClientError.TheVariants as client_error
use Rattle.pgw_backend.specs.ClientError.{of_scram}
use Rattle.pgw_types.specs.declared.scram_error.ScramFault.TheVariants as scram_fault
use Rattle.pgw_frontend.specs.Frontend.{encodings as client_encodings}
use Rattle.pgw_scram.specs.Answers.{unless, unless_so, first_of}
use Rattle.pgw_scram.specs.Refusals as scram
use Rattle.pgw_scram.specs.Refusals.{user_refusal}
use Rattle.pgw_scram.specs.Base64.{base64, nonce_text}
use Rattle.pgw_scram.specs.Binding.{gs2_header, binding_text}
use Rattle.pgw_scram.specs.declared.binding.ClientBinding.{ClientBinding}
use Rattle.pgw_config.specs.declared.config.ChannelBinding.TheVariants as channel_binding
use Rattle.pgw_login_sasl.specs.Methods.{bound_methods}
use Rattle.pgw_scram.specs.Client.{scram_client_login, began, proved}
use Rattle.pgw_scram.specs.Exchange.{client_first, client_first_bare, client_final, signature}
use Rattle.pgw_scram.specs.Readers.{read_client_first, read_client_final}
use Rattle.pgw_hash.specs.Saslprep.{saslprep}
use Rattle.pgw_hash.proofs.Prepared.{prepared_utf8}
use Rattle.pgw_scram.specs.declared.exchange.ClientLogin.{ClientLogin}
use Rattle.pgw_scram.specs.Honest.{Agree, AreHonest as EndsAreHonest, BothAccept}
use Rattle.pgw_scram.specs.Offers.{server_first, whole_nonce, is_misbound, bound, offer_of, answered_as}
use Rattle.pgw_scram.specs.Server.{scram_offer, scram_offer_as, offered_with, unless_misbound, accepted, accepted_as, scram_wait}
use Rattle.pgw_scram.specs.declared.server.ScramServerAuth.{ScramServerAuth}
use Rattle.pgw_scram.specs.declared.messages.ClientFinal.{ClientFinal}
use Rattle.pgw_scram.specs.declared.client.ScramClientAuth.{ScramClientAuth}
use Rattle.pgw_scram.specs.declared.client.ScramClientAuthWaitingForServerFirst.{ScramClientAuthWaitingForServerFirst as Began}
use Rattle.pgw_scram.specs.declared.client.ScramClientAuthWaitingForServerFinal.{ScramClientAuthWaitingForServerFinal as Proved}
use Rattle.pgw_scram.specs.declared.messages.ClientFirst.{ClientFirst}
use Rattle.pgw_scram.specs.declared.server.ScramServerAuthWaitingForClientFinal.{ScramServerAuthWaitingForClientFinal as WaitingForClientFinal}
use Rattle.pgw_scram.proofs.HonestLaws.{both_accept, reads_client_first}
use Rattle.pgw_scram.proofs.Base64Laws.{base64_utf8, base64_value}
use Rattle.pgw_session.specs.Input.{Input}
use Rattle.pgw_session.specs.Logins.{offers as offers_of, binding_by, binding_of, takes_by, methods_refusal, first_refusal, final_refusal, expected_of, final_message}
use Rattle.pgw_login_pair.specs.declared.parties.PairInput.{PairInput}
use Rattle.pgw_login_pair.specs.Parties.{bound_to, HaveDifferentHashes, ShareAPassword, ServerCause, declined, unoffered, unproved}
use Rattle.pgw_login_pair.specs.Server.{methods, scram_end}
use Rattle.pgw_login_pair.specs.Sound.{IsSoundInput}
use Rattle.pgw_login_pair.specs.World.{client_input, client_login}
use Rattle.pgw_login_pair.proofs.Bound.{login_bound, differ_by, suits_by}
use Rattle.pgw_login_pair.proofs.Firsts.{continue_with}
use Rattle.pgw_login_pair.proofs.ServerRungs.{one_put}
use Rattle.pgw_login_pair.proofs.Texts.{was_accepted, binding_read}
use Rattle.pgw_login_pair.proofs.Ladder.{ClientCause, no_startup, no_method, no_first, bad_first, no_final, bad_final, IsOffer, last}

ok_not_err : {A E : Type 0} {x : A} {e : E} {r : Result A E} → r ≡ Ok x → r ≡ Err e → ⊥
ok_not_err a b = let h = sym a ∙ b in absurd cc

ok_same : {A E : Type 0} {x y : A} {r : Result A E} → r ≡ Ok x → r ≡ Ok y → x ≡ y
ok_same {A = A} {E = E} {x = x} {y = y} a b = let h : ◌≡◌ {A = Result A E} (Ok x) (Ok y) = sym a ∙ b in cc

err_same : {A E : Type 0} {x y : E} {r : Result A E} → r ≡ Err x → r ≡ Err y → x ≡ y
err_same {A = A} {E = E} {x = x} {y = y} a b = let h : ◌≡◌ {A = Result A E} (Err x) (Err y) = sym a ∙ b in cc

none_not_some : {A : Type 0} {x : A} {o : Option A} → o ≡ None → o ≡ Some x → ⊥
none_not_some a b = let h = sym a ∙ b in absurd cc

pair_is : {A E B : Type 0} {a c : A} {b d : B} {r : Result (A × B) E} → r ≡ Ok (a, b) → r ≡ Ok (c, d)
    → (a ≡ c) × (b ≡ d)
pair_is {A = A} {E = E} {B = B} {a = a} {c = c} {b = b} {d = d} e f =
    let x : A × B = (a, b) in
    let y : A × B = (c, d) in
    let h : ◌≡◌ {A = Result (A × B) E} (Ok x) (Ok y) = sym e ∙ f in
    let p : x ≡ y = cc in
    (λ i. (p i).0, λ i. (p i).1)

-- an answer that is not refused
unrefused : {A E : Type 0} (o : Option E) (x y : A) → unless o x ≡ Ok y → (o ≡ None) × (x ≡ y)
unrefused None x y is = (refl, cc)
unrefused (Some e) x y is = absurd cc

-- a body that is short has an encoding
pub fits : (f : Framing) (limit : ℕ) (body : List ℕ) → length body + framing.length_field f ≤ limit
    → (g : List ℕ) × (framing.encoded f limit None body ≡ Ok g)
unfolding framing.encoded
fits f limit body small =
    let within : framing.saturated (length body + framing.length_field f) ≤ limit = omega (arith, small) in (
      framing.header f (length body) ++ body,
      rw
          (le-ltb limit (framing.saturated (length body + framing.length_field f)) within) refl,
    )

-- ---- what is bound

-- the method and the header, by the two hashes
abbrev binding_by_two : Option (List ℕ) → Option (List ℕ) → ClientBinding
binding_by_two hash own =
    binding_by channel_binding.Prefer hash
    (offers_of (codes "SCRAM-SHA-256-PLUS") (codes "SCRAM-SHA-256" ∷ bound_methods own))

-- a hash on which the client agrees
hash_for : Option (List ℕ) → Option (List ℕ) → Option (List ℕ)
hash_for (Some h) (Some o) = Some h
hash_for hash own = own

agree_by : (hash own : Option (List ℕ)) → Agree (binding_by_two hash own) (hash_for hash own)
unfolding hash_for
agree_by None own = tt
agree_by (Some h) None = refl
agree_by (Some h) (Some o) = refl

suits_for : (hash own : Option (List ℕ))
    → is_misbound (hash_for hash own) (gs2_header (binding_by_two hash own)) ≡ false
unfolding hash_for
suits_for None None = refl
suits_for None (Some o) = refl
suits_for (Some h) None = refl
suits_for (Some h) (Some o) = refl

takes_by_two : (hash own : Option (List ℕ))
    → takes_by channel_binding.Prefer (is_some hash)
    (offers_of (codes "SCRAM-SHA-256-PLUS") (codes "SCRAM-SHA-256" ∷ bound_methods own))
    (offers_of (codes "SCRAM-SHA-256") (codes "SCRAM-SHA-256" ∷ bound_methods own)) ≡ true
takes_by_two None None = refl
takes_by_two None (Some o) = refl
takes_by_two (Some h) None = refl
takes_by_two (Some h) (Some o) = refl

module _ (generator : TableId) (input : PairInput) (sound : IsSoundInput input) (h : ShareAPassword input) where
  abbrev given : Input
  given = client_input input

  abbrev client : ScramClientAuth
  client = record { binding = binding_of given (methods input); username = input.user; password = input.password }

  -- the client's login, by the prepared name
  abbrev login : ClientLogin
  login = scram_client_login client h.user (nonce_text input.client_nonce)

  -- an end that agrees with the client on what is bound
  agreeing : ScramServerAuth
  agreeing = record { iterations = input.count; certificate_hash = hash_for input.client_hash input.server_hash }

  honest_ends : EndsAreHonest client agreeing input.stored
  unfolding agreeing
  honest_ends = record {
    user = h.user;
    salt = h.salt;
    agree = agree_by input.client_hash input.server_hash;
    username_utf8 = sound.user_utf8;
    is_prepared = h.is_prepared;
    user_value = h.user_value;
    has_salt = h.has_salt;
    salt_bytes = sound.salt_bytes h.salt h.has_salt;
    is_salted = h.is_salted;
    at_least_one = sound.least;
    in_32_bits = sound.most;
  }

  both : BothAccept client agreeing input.stored input.client_nonce input.server_nonce
  both = both_accept client agreeing input.stored input.client_nonce input.server_nonce honest_ends

  login_is : client_login input ≡ login
  login_is =
      ap (λ (o : Option (List ℕ)). scram_client_login client (unwrap_or o []) (nonce_text input.client_nonce))
      h.is_prepared

  begins : began client input.client_nonce ≡ Ok (client_first login, record { login = login })
  begins = rw h.is_prepared refl

  first_is : (both.client_first ≡ client_first login) × (both.client_began ≡ record { login = login })
  first_is = pair_is both.begins begins

  -- ---- the offer

  abbrev whole : List ℕ
  whole = whole_nonce (nonce_text input.client_nonce) input.server_nonce

  abbrev read_first : ClientFirst
  read_first =
      record {
        header = gs2_header login.binding;
        bare = client_first_bare login.user login.nonce;
        user =
            login.user;
        nonce = login.nonce;
      }

  -- a server that has offered, and awaits this text of what is bound
  abbrev awaiting : List ℕ → WaitingForClientFinal
  awaiting binding =
      record (scram_wait (scram_end input) read_first h.salt (input.stored).password input.server_nonce) {
        offer = record (offer_of read_first None h.salt input.count input.server_nonce) { binding = binding };
      }

  abbrev offers : Option (List ℕ) → List ℕ × WaitingForClientFinal
  offers hash = (server_first whole h.salt input.count, awaiting (base64 (bound (gs2_header login.binding) hash)))

  offers_so : (hash : Option (List ℕ)) → is_misbound hash (gs2_header login.binding) ≡ false
      → scram_offer (record { iterations = input.count; certificate_hash = hash }) (client_first login)
      input.stored input.server_nonce ≡ Ok (offers hash)
  offers_so hash suits =
      let end : ScramServerAuth = record { iterations = input.count; certificate_hash = hash } in
      let reads : read_client_first (client_first login) ≡ Ok read_first =
      reads_client_first login (prepared_utf8 input.user h.user sound.user_utf8 h.is_prepared) h.user_value
      (base64_utf8 input.client_nonce) (base64_value input.client_nonce) in
      ap (λ (r : Result ClientFirst ScramMessageFault). scram_offer_as end r input.stored input.server_nonce)
      reads
      ∙ ap (λ (b : Bool). unless_misbound (unless_so (not b) (InvalidScramMessage fault.ChannelBinding))
      (offered_with end read_first (input.stored).salt (input.stored).password input.server_nonce)) suits
      ∙ ap (λ (s : Option (List ℕ)). offered_with end read_first s (input.stored).password input.server_nonce)
      h.has_salt

  both_are : (both.server_first ≡ server_first whole h.salt input.count)
      × (both.server_offered ≡ awaiting
      (base64 (bound (gs2_header login.binding) (hash_for input.client_hash input.server_hash))))
  unfolding agreeing
  both_are =
      pair_is (ap (λ (t : List ℕ). scram_offer agreeing t input.stored input.server_nonce) (sym first_is.0)
      ∙ both.offers) (offers_so (hash_for input.client_hash input.server_hash)
      (suits_for input.client_hash input.server_hash))

  server_first_is : both.server_first ≡ server_first whole h.salt input.count
  server_first_is = both_are.0

  -- what the server awaits
  own_text : List ℕ
  own_text = base64 (bound (gs2_header login.binding) input.server_hash)

  offer_is : IsOffer generator input both.server_first (awaiting own_text)
  unfolding own_text
  offer_is =
      let suits =
      ap (λ (b : ClientBinding). is_misbound input.server_hash (gs2_header b)) (login_bound input)
      ∙ suits_by input.client_hash input.server_hash in
      ap (λ (l : ClientLogin). scram_offer (scram_end input) (client_first l) input.stored input.server_nonce)
      login_is
      ∙ offers_so input.server_hash suits
      ∙ ap (λ (f : List ℕ). Ok
      (f, awaiting (base64 (bound (gs2_header login.binding) input.server_hash))))
      (sym server_first_is)

  same_offer : (first : List ℕ) (offer : WaitingForClientFinal) → IsOffer generator input first offer
      → (first ≡ both.server_first) × (offer ≡ awaiting own_text)
  same_offer first offer off = pair_is off offer_is

  -- client-final
  proves : (first_refusal (client_login input) both.server_first ≡ None)
      × (client_final login both.server_first ≡ both.client_final)
      × (signature login both.server_first ≡ (both.client_proved).signature)
  proves =
      let p : proved (record { login = login }) both.server_first ≡ Ok (both.client_final, both.client_proved) =
      ap (λ (b : Began). proved b both.server_first) (sym first_is.1) ∙ both.proves in
      let made : List ℕ × Proved =
      (client_final login both.server_first, record { signature = signature login both.server_first }) in
      let u =
      unrefused (scram.scram_first_refusal (client_login input).nonce both.server_first) made
      (both.client_final, both.client_proved) p in
      (ap (option_map of_scram) u.0, λ i. (u.1 i).0, λ i. ((u.1 i).1).signature)

  last_is : last generator input both.server_first ≡ both.client_final
  last_is = ap (λ (l : ClientLogin). client_final l both.server_first) login_is ∙ proves.1

  expected_is : expected_of (client_login input) both.server_first ≡ (both.client_proved).signature
  expected_is = ap (λ (l : ClientLogin). signature l both.server_first) login_is ∙ proves.2

  verifies : final_refusal (expected_of (client_login input) both.server_first) both.server_final ≡ None
  verifies =
      ap (λ (e : List ℕ). final_refusal e both.server_final) expected_is
      ∙ ap (option_map of_scram)
      (unrefused (scram.scram_refusal (both.client_proved).signature both.server_final) tt tt
      both.verifies).0

  accepts : accepted both.server_offered (last generator input both.server_first) ≡ Ok both.server_final
  accepts = ap (accepted both.server_offered) last_is ∙ both.accepts

  methods_fine : methods_refusal given (methods input) ≡ None
  methods_fine =
      ap (λ (b : Bool). first_of (unless_so b (client_error.UnsupportedSASLAuthMethods (methods input)))
      (first_of (unless_so (is_utf8 input.password) (client_error.ScramError scram_fault.PasswordNotUtf8))
      (option_map of_scram (user_refusal (saslprep input.user)))))
      (takes_by_two input.client_hash input.server_hash)
      ∙ rw (h.password_utf8, h.is_prepared) refl

  final_sent : (g : List ℕ)
      × (client_encodings (final_message (client_login input) both.server_first ∷ []) ≡ Ok g)
  final_sent = (
    (h.client_final).0,
    ap (λ (f : List ℕ). client_encodings (final_message (client_login input) f ∷ []))
        server_first_is
        ∙ (h.client_final).1,
  )

  -- ---- what the server makes of client-final

  -- it awaits what an agreeing end does; or it refuses another hash
  data Judged : Type 0 where
    agreed : awaiting own_text ≡ both.server_offered → Judged
    misbound : accepted (awaiting own_text) (last generator input both.server_first) ≡ Err
        (InvalidScramMessage fault.ChannelBinding)
        → HaveDifferentHashes input → Judged

  differs : (closing : ClientFinal) → read_client_final (last generator input both.server_first) ≡ Ok closing
      → bytes_eq closing.binding own_text ≡ false
      → binding_text (bound_to input) ≢ base64 (bound (gs2_header (bound_to input)) input.server_hash)
  unfolding own_text
  differs closing reads is same =
      let given : closing.binding ≡ binding_text (bound_to input) =
      binding_read (client_login input) both.server_first closing reads
      ∙ ap binding_text (login_bound input) in
      let due : own_text ≡ base64 (bound (gs2_header (bound_to input)) input.server_hash) =
      ap (λ (b : ClientBinding). base64 (bound (gs2_header b) input.server_hash)) (login_bound input) in
      let yes = (bytes_eq-Decides closing.binding own_text).1 (given ∙ same ∙ sym due) in
      let no = sym is ∙ yes in
      absurd cc

  judged_by : (closing : ClientFinal) → read_client_final (last generator input both.server_first) ≡ Ok closing
      → closing.binding ≡ ((both.server_offered).offer).binding → (b : Bool)
      → bytes_eq closing.binding own_text ≡ b → Judged
  judged_by closing reads binds true is =
      let same : closing.binding ≡ own_text = (bytes_eq-Decides closing.binding own_text).0 is in
      agreed (ap awaiting (sym same ∙ binds ∙ ap (λ (w : WaitingForClientFinal). (w.offer).binding) both_are.1)
      ∙ sym both_are.1)
  judged_by closing reads binds false is =
      misbound
      (ap (λ (r : Result ClientFinal ScramMessageFault). accepted_as (awaiting own_text)
      (answered_as (awaiting own_text).offer r)) reads
      ∙ ap (λ (b : Bool). accepted_as (awaiting own_text)
      (unless (first_of (unless_so b (InvalidScramMessage fault.ChannelBinding))
      (unless_so (bytes_eq closing.nonce whole) (InvalidScramMessage fault.Nonce))) closing)) is)
      (differ_by input.client_hash input.server_hash (differs closing reads is))

  judged : Judged
  judged =
      let a =
      was_accepted both.server_offered (last generator input both.server_first) both.server_final accepts in
      judged_by a.0 a.1 a.2 (bytes_eq (a.0).binding own_text) refl

  -- an offer's answer is that of the offer made
  answer_is : (first : List ℕ) (offer : WaitingForClientFinal) → IsOffer generator input first offer
      → accepted offer (last generator input first) ≡ accepted (awaiting own_text)
      (last generator input both.server_first)
  answer_is first offer off =
      let same = same_offer first offer off in
      ap (λ (f : List ℕ). accepted offer (last generator input f)) same.0
      ∙ ap (λ (o : WaitingForClientFinal). accepted o (last generator input both.server_first)) same.1

  -- ---- the client is not refused, and the server refuses another hash alone

  pub never_client : (e : ClientError) → ClientCause generator input e → ⊥
  never_client _ (no_startup e bad) = ok_not_err h.startup.1 bad
  never_client _ (no_method e refused) = none_not_some methods_fine refused
  never_client _ (no_first e bad) = ok_not_err h.client_first.1 bad
  never_client _ (bad_first e first offer off refused) =
      none_not_some proves.0 (ap (first_refusal (client_login input)) (sym (same_offer first offer off).0)
      ∙ refused)
  never_client _ (no_final e first offer off fine bad) =
      ok_not_err final_sent.1
      (ap (λ (f : List ℕ). client_encodings (final_message (client_login input) f ∷ []))
      (sym (same_offer first offer off).0) ∙ bad)
  never_client _ (bad_final e first offer final off fine acc refused) = elim judged [
    | misbound bad two ↦ ok_not_err acc (answer_is first offer off ∙ bad)
    | agreed is ↦
        let final_is : final ≡ both.server_final =
        ok_same acc (answer_is first offer off
        ∙ ap (λ (o : WaitingForClientFinal). accepted o (last generator input both.server_first)) is
        ∙ accepts) in
        none_not_some verifies
        (ap (λ (f : List ℕ). final_refusal (expected_of (client_login input) both.server_first) f)
        (sym final_is)
        ∙ ap (λ (f : List ℕ). final_refusal (expected_of (client_login input) f) final)
        (sym (same_offer first offer off).0)
        ∙ refused)
  ]

  pub misbound_alone : (why : PgWireError) → ServerCause input why
      → (why ≡ InvalidScramMessage fault.ChannelBinding) × HaveDifferentHashes input
  misbound_alone _ (declined why off) = absurd (ok_not_err offer_is off)
  misbound_alone _ (unoffered why first offer off bad) =
      let first_same : first ≡ server_first whole h.salt input.count =
      (same_offer first offer off).0 ∙ server_first_is in
      absurd (ok_not_err (one_put (continue_with (server_first whole h.salt input.count)) h.server_first.0
      h.server_first.1) (ap (λ (f : List ℕ). backend_encoding (continue_with f)) (sym first_same) ∙ bad))
  misbound_alone _ (unproved why first offer off fine bad) = elim judged [
    | misbound is two ↦ (err_same bad (answer_is first offer off ∙ is), two)
    | agreed is ↦ absurd (ok_not_err (answer_is first offer off
        ∙ ap (λ (o : WaitingForClientFinal). accepted o (last generator input both.server_first)) is
        ∙ accepts) bad)
  ]
