-- What is bound is refused for another hash alone.
use Rattle.std.proofs.Common.{◌≡◌, ◌≢◌, ℕ, Bool, true, false, not, cond, ltb, List, ◌++◌, length, ◌+◌, Option, Some, None, Result, Ok, Err, refl, sym, ap, ◌∙◌}
use Rattle.std.specs.Prelude.{if◌then◌else◌}
use Rattle.std.specs.Str.{bytes_eq, is_utf8}
use Rattle.std.proofs.lemmas.Slice.Eq.{bytes_eq-Decides}
use Rattle.atomic_table.specs.Seated.{TableId}
use Rattle.pgw_types.specs.declared.error.PgWireError.{PgWireError}
use Rattle.pgw_types.specs.declared.error.PgWireError.TheVariants.{InvalidScramMessage, InvalidPassword, MessageTooLarge}
use Rattle.pgw_types.specs.declared.error.ScramMessageFault.{ScramMessageFault}
use Rattle.pgw_types.specs.declared.error.ScramMessageFault.TheVariants as fault
use Rattle.pgw_wire.specs.Framing as framing
use Rattle.pgw_wire.specs.declared.framing.Framing.TheVariants.{Typed}
use Rattle.pgw_startup.specs.Login.{authentication}
use Rattle.pgw_startup.specs.declared.authentication.Authentication.TheVariants as auth
use Rattle.pgw_backend.specs.Backend.{backend_encoding}
use Rattle.pgw_scram.specs.Answers.{unless, unless_so, first_of}
use Rattle.pgw_scram.specs.Base64.{base64}
use Rattle.pgw_scram.specs.Binding.{gs2_header, binding_text}
use Rattle.pgw_scram.specs.Offers.{bound, is_misbound, answered_as, server_final}
use Rattle.pgw_scram.specs.Readers.{or_grammar, client_first_parts, client_final_parts, read_client_first, read_client_final}
use Rattle.pgw_scram.specs.Server.{scram_offer_as, offered_with, unless_misbound, accepted_as}
use Rattle.pgw_scram.specs.declared.messages.ClientFirst.{ClientFirst}
use Rattle.pgw_scram.specs.declared.messages.ClientFinal.{ClientFinal}
use Rattle.pgw_scram.specs.declared.server.ScramServerAuth.{ScramServerAuth}
use Rattle.pgw_scram.specs.declared.server.ScramServerAuthWaitingForClientFinal.{ScramServerAuthWaitingForClientFinal as WaitingForClientFinal}
use Rattle.pgw_login_pair.specs.declared.parties.PairInput.{PairInput}
use Rattle.pgw_login_pair.specs.Parties.{bound_to, HaveDifferentHashes, ServerCause, declined, unoffered, unproved}
use Rattle.pgw_login_pair.specs.Server.{scram_end}
use Rattle.pgw_login_pair.specs.World.{client_login}
use Rattle.pgw_login_pair.proofs.Bound.{login_bound, differ_by, suits_by}
use Rattle.pgw_login_pair.proofs.Firsts.{continue_with}
use Rattle.pgw_login_pair.proofs.Ladder.{IsOffer, text, last}
use Rattle.pgw_login_pair.proofs.Texts.{header_read, binding_read, was_offered}

abbrev misbound : PgWireError
misbound = InvalidScramMessage fault.ChannelBinding

clash : {A E : Type 0} {r : Result A E} {x : A} {e : E} → r ≡ Ok x → r ≡ Err e → ⊥
clash a b = let h = sym a ∙ b in absurd cc

-- no reading has this fault
unread : {A B : Type 0} (utf8 : Bool) (o : Option A) (why : ScramMessageFault)
    → (if utf8 then or_grammar o else Err fault.NotUtf8) ≡ Err why
    → ◌≡◌ {A = Result B PgWireError} (Err (InvalidScramMessage why)) (Err misbound) → ⊥
unread true None why is same = absurd (let h = sym is in cc)
unread true (Some x) why is same = absurd cc
unread false o why is same = absurd (let h = sym is in cc)

-- ---- client-first

unsalted : (server : ScramServerAuth) (opening : ClientFirst) (salt : Option (List ℕ)) (stored nonce : List ℕ)
    → offered_with server opening salt stored nonce ≡ Err misbound → ⊥
unsalted server opening None stored nonce is = cc
unsalted server opening (Some salt) stored nonce is = cc

module _ (generator : TableId) (input : PairInput) where
  opening_is : (opening : ClientFirst) → read_client_first (text generator input) ≡ Ok opening
      → opening.header ≡ gs2_header (bound_to input)
  opening_is opening reads = header_read (client_login input) opening reads ∙ ap gs2_header (login_bound input)

  never_declined : (r : Result ClientFirst ScramMessageFault) → read_client_first (text generator input) ≡ r
      → scram_offer_as (scram_end input) r input.stored input.server_nonce ≡ Err misbound → ⊥
  never_declined (Err why) reads is =
      unread (is_utf8 (text generator input)) (client_first_parts (text generator input)) why reads is
  never_declined (Ok opening) reads is =
      let suits : is_misbound input.server_hash opening.header ≡ false =
      ap (is_misbound input.server_hash) (opening_is opening reads)
      ∙ suits_by input.client_hash input.server_hash in
      unsalted (scram_end input) opening (input.stored).salt (input.stored).password input.server_nonce
      (sym (ap (λ (b : Bool). unless_misbound (unless_so (not b) misbound)
      (offered_with (scram_end input) opening (input.stored).salt (input.stored).password input.server_nonce))
      suits) ∙ is)

  never_encoded : (first : List ℕ) → backend_encoding (continue_with first) ≡ Err misbound → ⊥
  unfolding backend_encoding framing.encoded
  never_encoded first is =
      go (ltb 30000 (framing.saturated (length (authentication (auth.SASLContinue first)) + framing.length_field
      (Typed 82)))) is
    where
      go : (b : Bool)
          → cond b (Err (MessageTooLarge 30000
          (framing.saturated (length (authentication (auth.SASLContinue first)) + framing.length_field
          (Typed 82))))) (Ok (framing.header (Typed 82) (length (authentication (auth.SASLContinue first)))
          ++ authentication (auth.SASLContinue first))) ≡ Err misbound → ⊥
      go true h = cc
      go false h = cc

  -- ---- client-final

  proof_other : (c : Bool) (user out : List ℕ) → unless (unless_so c (InvalidPassword user)) out ≡ Err misbound
      → ⊥
  proof_other true user out is = cc
  proof_other false user out is = cc

  -- an answer is refused so for another text alone
  other_text : (a b : Bool) (waiting : WaitingForClientFinal) (closing : ClientFinal)
      → accepted_as waiting
      (unless (first_of (unless_so a misbound) (unless_so b (InvalidScramMessage fault.Nonce))) closing) ≡ Err
      misbound
      → a ≡ false
  other_text false b waiting closing is = refl
  other_text true false waiting closing is = absurd cc
  other_text true true waiting closing is = absurd (proof_other _ (waiting.offer).user (server_final _) is)

  differ : (waiting : WaitingForClientFinal) (closing : ClientFinal)
      → (bytes_eq closing.binding (waiting.offer).binding) ≡ false → closing.binding ≢ (waiting.offer).binding
  differ waiting closing other same =
      let h = sym other ∙ (bytes_eq-Decides closing.binding (waiting.offer).binding).1 same in absurd cc

  refused_final : (first : List ℕ) (waiting : WaitingForClientFinal) → IsOffer generator input first waiting
      → (r : Result ClientFinal ScramMessageFault) → read_client_final (last generator input first) ≡ r
      → accepted_as waiting (answered_as waiting.offer r) ≡ Err misbound → HaveDifferentHashes input
  refused_final first waiting off (Err why) reads is =
      absurd (unread (is_utf8 (last generator input first)) (client_final_parts (last generator input first)) why
      reads is)
  refused_final first waiting off (Ok closing) reads is =
      let o =
      was_offered (scram_end input) (text generator input) input.stored input.server_nonce first waiting off
      in
      let given : closing.binding ≡ binding_text (bound_to input) =
      binding_read (client_login input) first closing reads ∙ ap binding_text (login_bound input) in
      let due : (waiting.offer).binding ≡ base64 (bound (gs2_header (bound_to input)) input.server_hash) =
      o.binding ∙ ap (λ (h : List ℕ). base64 (bound h input.server_hash)) (opening_is o.opening o.reads) in
      let other =
      differ waiting closing
      (other_text (bytes_eq closing.binding (waiting.offer).binding)
      (bytes_eq closing.nonce (waiting.offer).nonce) waiting closing is) in
      differ_by input.client_hash input.server_hash (λ same. other (given ∙ same ∙ sym due))

  -- ---- the server's causes

  pub different_hashes : (why : PgWireError) → ServerCause input why → why ≡ misbound → HaveDifferentHashes input
  different_hashes _ (declined why off) is =
      absurd (never_declined (read_client_first (text generator input)) refl (off ∙ ap Err is))
  different_hashes _ (unoffered why first offer off bad) is = absurd (never_encoded first (bad ∙ ap Err is))
  different_hashes _ (unproved why first offer off fine bad) is =
      refused_final first offer off (read_client_final (last generator input first)) refl (bad ∙ ap Err is)
