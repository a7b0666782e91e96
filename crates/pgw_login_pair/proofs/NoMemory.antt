-- No cause of the client's is want of memory.
use Rattle.std.proofs.Common.{◌≡◌, ℕ, Bool, true, false, ltb, cond, List, [], ◌∷◌, ◌++◌, length, ◌+◌, Option, Some, None, Result, Ok, Err, refl, sym, ap, ◌∙◌}
use Rattle.std.specs.Prelude.{codes, is_some, option_map}
use Rattle.std.specs.Str.{bytes_eq, is_utf8}
use Rattle.atomic_table.specs.Seated.{TableId}
use Rattle.pgw_types.specs.declared.error.PgWireError.{PgWireError}
use Rattle.pgw_types.specs.declared.error.PgWireError.TheVariants.{OutOfMemory, MessageTooLarge}
use Rattle.pgw_types.specs.declared.error.ScramMessageFault.{ScramMessageFault}
use Rattle.pgw_wire.specs.Framing as framing
use Rattle.pgw_wire.specs.Writing.{refused_if}
use Rattle.pgw_wire.specs.declared.framing.Framing.{Framing}
use Rattle.pgw_wire.specs.declared.framing.Framing.TheVariants.{Typed, Untyped}
use Rattle.pgw_startup.specs.Login.{is_method_refused}
use Rattle.pgw_startup.specs.Startup.{startup, is_startup_refused}
use Rattle.pgw_startup.specs.Password.{initial_response}
use Rattle.pgw_backend.specs.declared.client_error.PgWireClientError.{PgWireClientError as ClientError}
use Rattle.pgw_backend.specs.declared.client_error.PgWireClientError.TheVariants as client_error
use Rattle.pgw_backend.specs.ClientError.{of_scram}
use Rattle.pgw_types.specs.declared.scram_error.ScramClientError.TheVariants as scram
use Rattle.pgw_types.specs.declared.scram_error.ScramFault.TheVariants as scram_fault
use Rattle.pgw_frontend.specs.Frontend.{encoding, encodings as client_encodings}
use Rattle.pgw_frontend.specs.declared.frontend.PgWireFrontendMessage.{PgWireFrontendMessage as Frontend}
use Rattle.pgw_hash.specs.Saslprep.{saslprep}
use Rattle.pgw_scram.specs.Answers.{unless_so, first_of}
use Rattle.pgw_scram.specs.Base64.{salt_of}
use Rattle.pgw_scram.specs.Exchange.{client_first, client_final}
use Rattle.pgw_scram.specs.Readers.{read_server_first, read_server_final}
use Rattle.pgw_scram.specs.Refusals.{begins_with, parts_refusal, verifier_refusal}
use Rattle.pgw_scram.specs.declared.messages.ServerFirst.{ServerFirst}
use Rattle.pgw_scram.specs.declared.messages.ServerFinal.{ServerFinal}
use Rattle.pgw_scram.specs.declared.messages.ServerFinal.TheVariants.{Signature, Failed}
use Rattle.pgw_session.specs.Logins.{first_message, final_message, expected_of, takes_method}
use Rattle.pgw_session.specs.Segments.{startup_message}
use Rattle.pgw_login_pair.specs.declared.parties.PairInput.{PairInput}
use Rattle.pgw_login_pair.specs.Server.{methods}
use Rattle.pgw_login_pair.specs.World.{client_input, client_login}
use Rattle.pgw_login_pair.proofs.Firsts.{method, first_body}
use Rattle.pgw_login_pair.proofs.ServerRungs.{startup_of}
use Rattle.pgw_login_pair.proofs.Ladder.{ClientCause, no_startup, no_method, no_first, bad_first, no_final, bad_final}

abbrev pub starved : ClientError
starved = client_error.PgWireError OutOfMemory

-- ---- encodings

unencoded : (f : Framing) (limit : ℕ) (fault : Option PgWireError) (body : List ℕ)
    → (fault ≡ Some OutOfMemory → ⊥) → framing.encoded f limit fault body ≡ Err OutOfMemory → ⊥
unfolding framing.encoded
unencoded f limit fault body other is =
    go (ltb limit (framing.saturated (length body + framing.length_field f))) fault other is
  where
    go : (b : Bool) (o : Option PgWireError) → (o ≡ Some OutOfMemory → ⊥)
        → cond b (Err (MessageTooLarge limit (framing.saturated (length body + framing.length_field f))))
        (framing.body_or o (framing.header f (length body) ++ body)) ≡ Err OutOfMemory → ⊥
    go true o other h = cc
    go false None other h = cc
    go false (Some e) other h = other cc

no_body : (b : Bool) → refused_if b ≡ Some OutOfMemory → ⊥
unfolding refused_if
no_body true is = cc
no_body false is = cc

no_fault : ◌≡◌ {A = Option PgWireError} None (Some OutOfMemory) → ⊥
no_fault is = cc

one_err : (m : Frontend) → client_encodings (m ∷ []) ≡ Err OutOfMemory → encoding m ≡ Err OutOfMemory
one_err m is = go (encoding m) refl
  where
    go : (r : Result (List ℕ) PgWireError) → encoding m ≡ r → encoding m ≡ Err OutOfMemory
    go (Ok g) e =
        let h : client_encodings (m ∷ []) ≡ Ok (g ++ []) = rw e refl in let both = sym h ∙ is in absurd cc
    go (Err why) e = let h : client_encodings (m ∷ []) ≡ Err why = rw e refl in e ∙ sym h ∙ is

-- ---- refusals

by_methods : (a b c : Bool) (ms : List (List ℕ))
    → first_of (unless_so a (client_error.UnsupportedSASLAuthMethods ms))
    (first_of (unless_so b (client_error.ScramError scram_fault.PasswordNotUtf8))
    (option_map of_scram (unless_so c (scram.InvalidConfig (codes "user"))))) ≡ Some starved → ⊥
by_methods true true true ms is = cc
by_methods true true false ms is = cc
by_methods true false c ms is = cc
by_methods false b c ms is = cc

by_parts : (a b : Bool)
    → option_map of_scram
    (first_of (unless_so a (scram.ScramError scram_fault.NonceMismatch))
    (unless_so b (scram.ScramError scram_fault.SaltNotBase64))) ≡ Some starved → ⊥
by_parts true true is = cc
by_parts true false is = cc
by_parts false b is = cc

by_first : (nonce : List ℕ) (r : Result ServerFirst ScramMessageFault)
    → option_map of_scram (parts_refusal nonce r) ≡ Some starved → ⊥
by_first nonce (Err why) is = cc
by_first nonce (Ok parts) is = by_parts (begins_with parts.nonce nonce) (is_some (salt_of parts.salt)) is

by_signature : (b : Bool)
    → option_map of_scram (unless_so b (scram.ScramError scram_fault.SignatureMismatch)) ≡ Some starved → ⊥
by_signature true is = cc
by_signature false is = cc

by_final : (expected : List ℕ) (r : Result ServerFinal ScramMessageFault)
    → option_map of_scram (verifier_refusal expected r) ≡ Some starved → ⊥
by_final expected (Err why) is = cc
by_final expected (Ok (Failed text)) is = cc
by_final expected (Ok (Signature text)) is = by_signature (bytes_eq text expected) is

-- ---- the causes

inner : {e d : PgWireError} → client_error.PgWireError e ≡ client_error.PgWireError d → e ≡ d
inner h = cc

same_err : {e d : PgWireError} {r : Result (List ℕ) PgWireError} → r ≡ Err e
    → client_error.PgWireError e ≡ client_error.PgWireError d → r ≡ Err d
same_err bad is = bad ∙ ap (λ (x : PgWireError). Err x) (inner is)

module _ (generator : TableId) (input : PairInput) where
  never_startup : client_encodings (startup_message (client_input input) ∷ []) ≡ Err OutOfMemory → ⊥
  unfolding encoding
  never_startup is =
      unencoded Untyped 10000 (refused_if (is_startup_refused (startup_of input))) (startup (startup_of input))
      (no_body (is_startup_refused (startup_of input))) (one_err (startup_message (client_input input)) is)

  never_first : client_encodings (first_message (client_login input) ∷ []) ≡ Err OutOfMemory → ⊥
  unfolding encoding
  never_first is =
      unencoded (Typed 112) 10000 (refused_if (is_method_refused (method input)))
      (initial_response (first_body input (client_first (client_login input))))
      (no_body (is_method_refused (method input))) (one_err (first_message (client_login input)) is)

  never_final : (first : List ℕ)
      → client_encodings (final_message (client_login input) first ∷ []) ≡ Err OutOfMemory → ⊥
  unfolding encoding
  never_final first is =
      unencoded (Typed 112) 10000 None (client_final (client_login input) first) no_fault
      (one_err (final_message (client_login input) first) is)

  pub has_memory : (e : ClientError) → ClientCause generator input e → e ≡ starved → ⊥
  has_memory _ (no_startup e bad) is = never_startup (same_err bad is)
  has_memory _ (no_method e refused) is =
      by_methods (takes_method (client_input input) (methods input)) (is_utf8 input.password)
      (is_some (saslprep input.user)) (methods input) (refused
      ∙ ap (λ (x : ClientError). Some x) is)
  has_memory _ (no_first e bad) is = never_first (same_err bad is)
  has_memory _ (bad_first e first offer off refused) is =
      by_first (client_login input).nonce (read_server_first first) (refused
      ∙ ap (λ (x : ClientError). Some x) is)
  has_memory _ (no_final e first offer off fine bad) is = never_final first (same_err bad is)
  has_memory _ (bad_final e first offer final off fine acc refused) is =
      by_final (expected_of (client_login input) first) (read_server_final final) (refused
      ∙ ap (λ (x : ClientError). Some x) is)
