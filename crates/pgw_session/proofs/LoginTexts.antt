-- What the texts of a login keep: a SCRAM login can end, and an MD5 password can be sent.
use Rattle.std.proofs.Common.{◌≡◌, ◌≢◌, ◌≤◌, ◌<◌, ℕ, zero, suc, Bool, true, false, List, [], ◌∷◌, ◌++◌, length, codes, Option, Some, None, Ok, is_some, option_map, arith, refl, sym, ap, ◌∙◌, length-append}
use Rattle.std.specs.Prelude.{◌==◌, ◌||◌, ◌/◌, ◌%◌, get_or}
use Rattle.std.specs.Int.{w32, to_le_bytes}
use Rattle.std.specs.Str.{bytes_eq}
use Rattle.std.proofs.lemmas.Bool.Decides.{Decides-eqb}
use Rattle.std.proofs.lemmas.List.{append-nil}
use Rattle.std.proofs.lemmas.List.Folds.{list_any-append}
use Rattle.std.proofs.lemmas.Slice.Eq.{bytes_eq-Decides, starts_is}
use Rattle.hex.specs.Hex.{encode_with, lower_digits}
use Rattle.hex.proofs.HexLemmas.{length-encode_with}
use Rattle.md5.specs.Md5.{md5, digest_bytes}
use Rattle.md5.proofs.StandardFacts.{length-md5}
use Rattle.pgw_wire.specs.Writing.{has_zero}
use Rattle.pgw_hash.specs.Md5Password.{md5_hex, md5_password}
use Rattle.pgw_scram.specs.Base64.{base64, nonce_text, salt_of}
use Rattle.pgw_scram.proofs.Base64Laws.{salt_of-nil}
use Rattle.pgw_scram.proofs.ExchangeLaws.{least_server_first, nonce_is_read, signature_is_read}
use Rattle.pgw_scram.specs.declared.exchange.ClientLogin.{ClientLogin}
use Rattle.pgw_scram.specs.declared.binding.ClientBinding.{ClientBinding}
use Rattle.pgw_scram.specs.declared.binding.ClientBinding.TheVariants as binding
use Rattle.pgw_scram.specs.declared.messages.ServerFirst.{ServerFirst}
use Rattle.pgw_scram.specs.Binding.{gs2_header, binding_text}
use Rattle.pgw_scram.specs.Exchange.{exchanged, client_first_bare, client_first, client_final, without_proof}
use Rattle.pgw_scram.specs.Formulas.{client_proof}
use Rattle.pgw_hash.specs.Pbkdf2.{salted_password}
use Rattle.pgw_config.specs.declared.config.ChannelBinding.{ChannelBinding}
use Rattle.pgw_config.specs.declared.config.ChannelBinding.TheVariants as channel_binding
use Rattle.pgw_scram.specs.Readers.{read_server_first}
use Rattle.pgw_session.specs.Input.{Input}
use Rattle.pgw_types.specs.declared.scram_error.ScramClientError.TheVariants as scram
use Rattle.pgw_types.specs.declared.scram_error.ScramFault.TheVariants as scram_fault
use Rattle.pgw_backend.specs.ClientError.{of_scram}
use Rattle.pgw_session.specs.Logins.{offers, binding_by, binding_of, scram_login, first_refusal, expected_of, final_refusal}
use Rattle.pgw_session.specs.Bound.{BindsTo, NamesEndPoint}
use Rattle.pgw_scram.specs.Answers.{unless_so, first_of}
use Rattle.pgw_scram.specs.Refusals.{parts_refusal, verifier_refusal, begins_with}

-- ---- SCRAM

same_bytes : (xs : List ℕ) → bytes_eq xs xs ≡ true
same_bytes xs = (bytes_eq-Decides xs xs).1 refl

begins_itself : (xs : List ℕ) → begins_with xs xs ≡ true
begins_itself xs = (starts_is Decides-eqb xs xs (begins_with xs xs) refl).1 [] (sym (append-nil xs))

-- some server-first is accepted
pub some_first : (input : Input) (login : ClientLogin) → login.nonce ≡ nonce_text input.nonce
    → (first : List ℕ) × (first_refusal login first ≡ None)
some_first input login same = (
  least_server_first (nonce_text input.nonce),
  ap (option_map of_scram)
      (ap (λ (nonce : List ℕ). parts_refusal nonce
      (read_server_first (least_server_first (nonce_text input.nonce)))) same
      ∙ ap (parts_refusal (nonce_text input.nonce)) (nonce_is_read input.nonce)
      ∙ ap (λ b. first_of (unless_so b (scram.ScramError scram_fault.NonceMismatch))
      (unless_so (is_some (salt_of [])) (scram.ScramError scram_fault.SaltNotBase64)))
      (begins_itself (nonce_text input.nonce))
      ∙ ap (λ (o : Option (List ℕ)). unless_so (is_some o) (scram.ScramError scram_fault.SaltNotBase64))
      salt_of-nil),
)

-- and behind it some server-final
pub some_final : (login : ClientLogin) (first : List ℕ)
    → (final : List ℕ) × (final_refusal (expected_of login first) final ≡ None)
some_final login first = (
  codes "v=" ++ expected_of login first,
  ap (option_map of_scram)
      (ap (verifier_refusal (expected_of login first)) (signature_is_read login first)
      ∙ ap (λ b. unless_so b (scram.ScramError scram_fault.SignatureMismatch))
      (same_bytes (expected_of login first))),
)

-- ---- what is bound

end_point : (mode : ChannelBinding) (hash : List ℕ) → mode ≢ channel_binding.Disable
    → binding_by mode (Some hash) true ≡ binding.EndPoint hash
end_point channel_binding.Disable hash allowed = absurd (allowed refl)
end_point channel_binding.Prefer hash allowed = refl
end_point channel_binding.Require hash allowed = refl

bound_by : (login : ClientLogin) (hash first salt : List ℕ) (parts : ServerFirst)
    → login.binding ≡ binding.EndPoint hash → read_server_first first ≡ Ok parts → salt_of parts.salt ≡ Some salt
    → BindsTo hash parts.nonce (client_final login first)
unfolding client_final without_proof
bound_by login hash first salt parts is read is_salt = (
  base64 (client_proof (salted_password login.password salt parts.count) (exchanged login first parts)),
  rw (read, is_salt) (ap (λ (b : ClientBinding). codes "c=" ++ binding_text b ++ codes ",r=" ++ parts.nonce
      ++ codes ",p=" ++ base64 (client_proof (salted_password login.password salt parts.count)
      (exchanged login first parts))) is),
)

-- a hash is given, to bind is not forbidden, and the server offers it
pub binds : (input : Input) (methods : List (List ℕ)) (hash : List ℕ)
    → (input.config).certificate_hash ≡ Some hash → (input.config).channel_binding ≢ channel_binding.Disable
    → offers (codes "SCRAM-SHA-256-PLUS") methods ≡ true
    → binding_of input methods ≡ binding.EndPoint hash
binds input methods hash own allowed offered =
    let mode = (input.config).channel_binding in
    ap (λ (o : Option (List ℕ)). binding_by mode o (offers (codes "SCRAM-SHA-256-PLUS") methods)) own
    ∙ ap (binding_by mode (Some hash)) offered ∙ end_point mode hash allowed

pub bound_final : (input : Input) (methods : List (List ℕ)) (hash first salt : List ℕ) (parts : ServerFirst)
    → (input.config).certificate_hash ≡ Some hash → (input.config).channel_binding ≢ channel_binding.Disable
    → offers (codes "SCRAM-SHA-256-PLUS") methods ≡ true
    → read_server_first first ≡ Ok parts → salt_of parts.salt ≡ Some salt
    → BindsTo hash parts.nonce (client_final (scram_login input methods) first)
bound_final input methods hash first salt parts own allowed offered read is_salt =
    bound_by (scram_login input methods) hash first salt parts (binds input methods hash own allowed offered) read
    is_salt

pub names_end : (login : ClientLogin) (hash : List ℕ) → login.binding ≡ binding.EndPoint hash
    → NamesEndPoint (client_first login)
unfolding client_first
names_end login hash is = (
  client_first_bare login.user login.nonce,
  ap
      (λ (b : ClientBinding). gs2_header b ++ client_first_bare login.user login.nonce) is,
)

-- ---- MD5

-- a byte of a text without zero
pub nonzero_at : (t : List ℕ) (i d : ℕ) → i < length t → has_zero t ≡ false → (get_or t i d == 0) ≡ false
nonzero_at [] i d lt clean = absurd (omega (arith, lt))
nonzero_at (x ∷ t) zero d lt clean = first (x == 0) clean
  where
    first : (b : Bool) → (b || has_zero t) ≡ false → b ≡ false
    first true is = is
    first false is = refl
nonzero_at (x ∷ t) (suc i) d lt clean = nonzero_at t i d (omega (arith, lt)) (rest (x == 0) clean)
  where
    rest : (b : Bool) → (b || has_zero t) ≡ false → has_zero t ≡ false
    rest true is = absurd cc
    rest false is = is

digit : (i : ℕ) → i < 16 → (get_or lower_digits i 0 == 0) ≡ false
digit i lt = nonzero_at lower_digits i 0 lt refl

-- bytes below 256
abbrev AreBytes : List ℕ → Type 0
AreBytes [] = Unit {0}
AreBytes (b ∷ bytes) = (b < 256) × AreBytes bytes

bytes_append : (xs ys : List ℕ) → AreBytes xs → AreBytes ys → AreBytes (xs ++ ys)
bytes_append [] ys x y = y
bytes_append (b ∷ xs) ys x y = (x.0, bytes_append xs ys x.1 y)

word_bytes : (n : ℕ) → AreBytes (to_le_bytes w32 n)
word_bytes n = (omega arith, (omega arith, (omega arith, (omega arith, tt))))

digest_are_bytes : (h : List ℕ) (n : ℕ) → AreBytes (digest_bytes h n)
unfolding digest_bytes
digest_are_bytes h zero = tt
digest_are_bytes h (suc n) = bytes_append (digest_bytes h n) _ (digest_are_bytes h n) (word_bytes _)

md5_bytes : (message : List ℕ) → AreBytes (md5 message)
unfolding md5
md5_bytes message = digest_are_bytes _ 4

hex_clean : (bytes : List ℕ) → AreBytes bytes → has_zero (encode_with lower_digits bytes) ≡ false
unfolding encode_with
hex_clean [] are = refl
hex_clean (b ∷ bytes) are =
    rw (digit (b / 16) (omega (arith, are.0)), digit (b % 16) (omega arith)) (hex_clean bytes are.1)

pub md5_clean : (user password salt : List ℕ) → has_zero (md5_password user password salt) ≡ false
unfolding md5_password
md5_clean user password salt =
    let digest = md5_hex (password ++ user) ++ salt in
    list_any-append (λ b. b == 0) (codes "md5") (md5_hex digest) ∙ hex_clean (md5 digest) (md5_bytes digest)

pub md5_short : (user password salt : List ℕ) → length (md5_password user password salt) ≤ 35
unfolding md5_password
md5_short user password salt =
    let digest = md5_hex (password ++ user) ++ salt in
    omega (
      arith,
      length-append (codes "md5") (md5_hex digest),
      length-encode_with lower_digits (md5 digest),
      length-md5 digest,
    )
