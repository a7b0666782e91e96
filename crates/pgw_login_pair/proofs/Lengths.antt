-- Which lengths leave each message of honest parties an encoding.
use Rattle.std.proofs.Common.{lit≤, true, ◌≡◌, ℕ, ◌+◌, ◌≤◌, false, List, [], ◌∷◌, ◌++◌, length, Option, Some, None, Ok, refl, sym, ap, ◌∙◌, arith, length-append}
use Rattle.std.specs.Prelude.{codes, unwrap_or}
use Rattle.std.specs.Fmt.{decimal}
use Rattle.std.specs.Str.{is_utf8}
use Rattle.std.proofs.lemmas.Fmt.{length-decimal-le}
use Rattle.pgw_hash.specs.Saslprep.{saslprep}
use Rattle.pgw_scram.specs.Attributes.{IsValue}
use Rattle.std.specs.List.{list_any, flat_map}
use Rattle.std.specs.FinMap as finite
use Rattle.std.proofs.lemmas.Str.{IsUtf8-append}
use Rattle.pgw_types.specs.declared.error.PgWireError.{PgWireError}
use Rattle.pgw_wire.specs.Framing as framing
use Rattle.pgw_wire.specs.Writing as writing
use Rattle.pgw_wire.specs.Writing.{text, has_zero, refused_if}
use Rattle.pgw_wire.specs.Pairs.{pair_written, is_pair_refused}
use Rattle.pgw_wire.specs.declared.framing.Framing.TheVariants.{Typed, Untyped}
use Rattle.pgw_startup.specs.Login.{is_method_refused}
use Rattle.pgw_startup.specs.Startup.{startup, is_startup_refused}
use Rattle.pgw_startup.specs.Password.{initial_response, data_written}
use Rattle.pgw_startup.specs.declared.authentication.Authentication.TheVariants as auth
use Rattle.pgw_backend.specs.Backend.{backend_encoding}
use Rattle.pgw_backend.specs.declared.backend.PgWireBackendMessage.TheVariants as backend
use Rattle.pgw_frontend.specs.Frontend.{encoding}
use Rattle.pgw_hash.specs.Pbkdf2.{salted_password}
use Rattle.pgw_scram.specs.Base64.{base64, nonce_text}
use Rattle.pgw_scram.specs.Binding.{gs2_header, channel_data, binding_text}
use Rattle.pgw_scram.specs.Exchange.{client_first, client_first_bare, client_final, without_proof, exchanged}
use Rattle.pgw_scram.specs.Formulas.{client_proof}
use Rattle.pgw_scram.specs.Offers.{whole_nonce}
use Rattle.pgw_scram.specs.declared.binding.ClientBinding.{ClientBinding}
use Rattle.pgw_scram.specs.declared.binding.ClientBinding.TheVariants as binding
use Rattle.pgw_scram.specs.declared.exchange.ClientLogin.{ClientLogin}
use Rattle.pgw_scram.proofs.Base64Laws.{base64_utf8, base64_value, value_append}
use Rattle.pgw_scram.proofs.HonestLaws.{reads_server_first, salt_is}
use Rattle.pgw_login_server.specs.Server.{server_encodings}
use Rattle.pgw_session.specs.Logins.{method_of, first_message, final_message}
use Rattle.pgw_session.specs.Segments.{startup_message, startup_parameters}
use Rattle.pgw_login_pair.specs.declared.parties.PairInput.{PairInput}
use Rattle.pgw_login_pair.specs.Parties.{bound_to, offer_by, IsWritten, ShareAPassword}
use Rattle.pgw_login_pair.specs.Sound.{IsSoundInput}
use Rattle.pgw_login_pair.specs.World.{client_input, client_login}
use Rattle.pgw_login_pair.proofs.Able.{no_fault, text_length, user_entries, pairs_length}
use Rattle.pgw_login_pair.proofs.Bound.{login_bound}
use Rattle.pgw_login_pair.proofs.Firsts.{method, first_body}
use Rattle.pgw_login_pair.proofs.Honest.{fits}
use Rattle.pgw_login_pair.proofs.ServerRungs.{startup_of}
use Rattle.pgw_login_pair.proofs.Sizes.{base64_length, proof_short}

four : (n : ℕ) → length (writing.u32 n) ≡ 4
unfolding writing.u32
four n = refl

versions : length (writing.u16 3 ++ writing.u16 0) ≡ 4
unfolding writing.u16
versions = refl

-- a name without a zero byte, of at most so many bytes
pub startup_fits : (input : PairInput) → has_zero input.user ≡ false → length input.user ≤ 9985
    → IsWritten (startup_message (client_input input))
unfolding encoding
startup_fits input plain small =
    let front : List ℕ = writing.u16 3 ++ writing.u16 0 in
    let written : List ℕ = flat_map pair_written (finite.entries (startup_parameters (client_input input))) in
    let size : length written ≡ length input.user + 6 =
    ap (λ es. length (flat_map pair_written es)) (user_entries input) ∙ pairs_length input in
    let some : length (front ++ written) ≡ length front + length written = length-append front written in
    let all : length ((front ++ written) ++ 0 ∷ []) ≡ length (front ++ written) + 1 =
    length-append (front ++ written) (0 ∷ []) in
    let f = fits Untyped 10000 (startup (startup_of input)) (omega (arith, small, size, some, all, versions)) in
    let zero : list_any is_pair_refused ((codes "user", input.user) ∷ []) ≡ false = rw plain refl in
    let fine : is_startup_refused (startup_of input) ≡ false =
    ap (list_any is_pair_refused) (user_entries input) ∙ zero in
    let fault : refused_if (is_startup_refused (startup_of input)) ≡ None =
    no_fault (is_startup_refused (startup_of input)) fine in (
      f.0 ++ [],
      rw (ap (λ (o : Option PgWireError). framing.encoded Untyped 10000 o (startup (startup_of input))) fault
          ∙ f.1) refl,
    )

-- no method's name is refused
named_clean : (b : ClientBinding) → is_method_refused (method_of b) ≡ false
named_clean binding.None = refl
named_clean binding.NotOffered = refl
named_clean (binding.EndPoint hash) = refl

-- a method's name and a client-first of at most so many bytes together
pub first_fits : (input : PairInput)
    → length (method_of (bound_to input)) + length (client_first (client_login input)) ≤ 9991
    → IsWritten (first_message (client_login input))
unfolding encoding data_written
first_fits input small =
    let name = method input in
    let first = client_first (client_login input) in
    let called : List ℕ = text name in
    let count : List ℕ = writing.u32 (length first) in
    let a = length-append called (count ++ first) in
    let b = length-append count first in
    let same : length name ≡ length (method_of (bound_to input)) =
    ap (λ (b : ClientBinding). length (method_of b)) (login_bound input) in
    let body = initial_response (first_body input first) in
    let f =
    fits (Typed 112) 10000 body (omega (arith, small, same, a, b, four (length first), text_length name)) in
    let fault : refused_if (is_method_refused name) ≡ None =
    no_fault (is_method_refused name) (named_clean (client_login input).binding) in
    (f.0 ++ [], rw (ap (λ (o : Option PgWireError). framing.encoded (Typed 112) 10000 o body) fault ∙ f.1) refl)

header_short : (b : ClientBinding) → length (method_of b) + length (gs2_header b) ≤ 42
header_short binding.None = lit≤ tt
header_short binding.NotOffered = lit≤ tt
header_short (binding.EndPoint hash) = lit≤ tt

bare_length : (user nonce : List ℕ)
    → length (codes "n=" ++ user ++ codes ",r=" ++ nonce) ≡ length user + length nonce + 5
bare_length user nonce =
    let a = length-append (codes "n=") user in
    let b = length-append (codes "n=" ++ user) (codes ",r=") in
    let c = length-append (codes "n=" ++ user ++ codes ",r=") nonce in
    omega (arith, a, b, c)

-- a prepared name of at most so many bytes
pub name_fits : (input : PairInput) (user : List ℕ) → IsSoundInput input → saslprep input.user ≡ Some user
    → length user ≤ 9920 → IsWritten (first_message (client_login input))
unfolding client_first
name_fits input user sound is small =
    let named : (client_login input).user ≡ user = ap (λ (o : Option (List ℕ)). unwrap_or o []) is in
    let n = base64_length input.client_nonce in
    let h = header_short (client_login input).binding in
    let same : length (method_of (client_login input).binding) ≡ length (method_of (bound_to input)) =
    ap (λ (b : ClientBinding). length (method_of b)) (login_bound input) in
    let bare = bare_length (client_login input).user (nonce_text input.client_nonce) in
    let whole =
    length-append (gs2_header (client_login input).binding)
    (client_first_bare (client_login input).user (nonce_text input.client_nonce)) in
    first_fits input (omega (arith, ap length named, n, sound.client_nonce, h, same, bare, whole, small))

-- a hash of at most so many bytes, where the login is bound to one
binding_short : (b : ClientBinding) → ((hash : List ℕ) → b ≡ binding.EndPoint hash → length hash ≤ 7398)
    → length (binding_text b) ≤ 9896
binding_short binding.None small =
    omega (arith, base64_length (gs2_header binding.None ++ channel_data binding.None))
binding_short binding.NotOffered small =
    omega (arith, base64_length (gs2_header binding.NotOffered ++ channel_data binding.NotOffered))
binding_short (binding.EndPoint hash) small =
    omega (
      arith,
      base64_length (gs2_header (binding.EndPoint hash) ++ hash),
      length-append
          (gs2_header (binding.EndPoint hash)) hash,
      small hash refl,
    )

final_length : (text nonce proof : List ℕ) → length text ≤ 9896 → length nonce ≤ 48 → length proof ≤ 44
    → length ((codes "c=" ++ text ++ codes ",r=" ++ nonce) ++ codes ",p=" ++ proof) + 4 ≤ 10000
final_length text nonce proof small few also =
    let t = length-append (codes "c=") text in
    let r = length-append (codes "c=" ++ text) (codes ",r=") in
    let n = length-append (codes "c=" ++ text ++ codes ",r=") nonce in
    let p = length-append (codes "c=" ++ text ++ codes ",r=" ++ nonce) (codes ",p=") in
    let m = length-append ((codes "c=" ++ text ++ codes ",r=" ++ nonce) ++ codes ",p=") proof in
    omega (arith, t, r, n, p, m, small, few, also)

module _ (input : PairInput) (salt : List ℕ) (sound : IsSoundInput input) (is : (input.stored).salt ≡ Some salt)
    (small : (hash : List ℕ) → bound_to input ≡ binding.EndPoint hash → length hash ≤ 7398) where
  abbrev login : ClientLogin
  login = client_login input

  abbrev whole : List ℕ
  whole = whole_nonce (nonce_text input.client_nonce) input.server_nonce

  final_of : List ℕ → List ℕ
  final_of n = without_proof login.binding whole ++ codes ",p=" ++ base64 n

  -- client-final is as long as its nonce and its proof make it
  final_text : (proof : List ℕ) × (length proof ≤ 32)
      × (client_final login (offer_by input salt) ≡ final_of proof)
  unfolding client_final final_of
  final_text =
      let reads =
      reads_server_first whole salt input.count
      (IsUtf8-append (nonce_text input.client_nonce) (nonce_text input.server_nonce)
      (base64_utf8 input.client_nonce) (base64_utf8 input.server_nonce))
      (value_append (nonce_text input.client_nonce) (nonce_text input.server_nonce)
      (base64_value input.client_nonce) (base64_value input.server_nonce)) sound.least
      sound.most in (
        client_proof (salted_password login.password salt input.count)
            (exchanged login (offer_by input salt)
            (record { nonce = whole; salt = base64 salt; count = input.count })),
        proof_short _ _,
        rw (reads, salt_is salt (sound.salt_bytes salt is)) refl,
      )

  final_short : (n : List ℕ) → length n ≤ 32 → length (final_of n) + 4 ≤ 10000
  unfolding final_of without_proof
  final_short n few =
      let a = base64_length input.client_nonce in
      let b = base64_length input.server_nonce in
      let y = length-append (nonce_text input.client_nonce) (nonce_text input.server_nonce) in
      final_length (binding_text login.binding) whole (base64 n)
      (binding_short login.binding (λ hash same. small hash (sym (login_bound input)
      ∙ same))) (omega (arith, a, b, y, sound.client_nonce, sound.server_nonce))
      (omega (arith, base64_length n, few))

  pub final_fits : IsWritten (final_message login (offer_by input salt))
  unfolding encoding
  final_fits =
      let n = final_short final_text.0 final_text.1 in
      let f =
      fits (Typed 112) 10000 (client_final login (offer_by input salt))
      (omega (arith, ap length final_text.2, n)) in
      (f.0 ++ [], rw f.1 refl)

-- an offer of at most so many bytes
pub offer_fits : (offer : List ℕ) → length offer ≤ 29992
    → (g : List ℕ) × (server_encodings (backend.Authentication (auth.SASLContinue offer) ∷ []) ≡ Ok g)
unfolding backend_encoding
offer_fits offer small =
    let a = length-append (writing.u32 11) offer in
    let f = fits (Typed 82) 30000 (writing.u32 11 ++ offer) (omega (arith, small, a, four 11)) in
    (f.0, rw f.1 refl)

offer_length : (nonce salt count : List ℕ) → length nonce ≤ 48 → length salt ≤ 29926 → length count ≤ 10
    → length (codes "r=" ++ nonce ++ codes ",s=" ++ salt ++ codes ",i=" ++ count) ≤ 29992
offer_length nonce salt count few small digits =
    let a = length-append (codes "r=") nonce in
    let b = length-append (codes "r=" ++ nonce) (codes ",s=") in
    let c = length-append (codes "r=" ++ nonce ++ codes ",s=") salt in
    let d = length-append (codes "r=" ++ nonce ++ codes ",s=" ++ salt) (codes ",i=") in
    let e = length-append (codes "r=" ++ nonce ++ codes ",s=" ++ salt ++ codes ",i=") count in
    omega (arith, a, b, c, d, e, few, small, digits)

-- a salt of at most so many bytes
pub salt_fits : (input : PairInput) (salt : List ℕ) → IsSoundInput input → length salt ≤ 22443
    → (g : List ℕ)
    × (server_encodings (backend.Authentication (auth.SASLContinue (offer_by input salt)) ∷ []) ≡ Ok g)
salt_fits input salt sound small =
    let a = base64_length input.client_nonce in
    let b = base64_length input.server_nonce in
    let y = length-append (nonce_text input.client_nonce) (nonce_text input.server_nonce) in
    let digits =
    length-decimal-le 10 input.count (omega arith) (omega (arith, sound.most)) (omega (arith, sound.most)) in
    offer_fits (offer_by input salt)
    (offer_length (whole_nonce (nonce_text input.client_nonce) input.server_nonce) (base64 salt)
    (decimal input.count) (omega (arith, a, b, y, sound.client_nonce, sound.server_nonce))
    (omega (arith, base64_length salt, small)) digits)

-- what honest parties know, in these lengths
pub share_fits : (input : PairInput) (user salt : List ℕ) → IsSoundInput input → is_utf8 input.password ≡ true
    → saslprep input.user ≡ Some user → IsValue user → (input.stored).salt ≡ Some salt
    → (input.stored).password ≡ salted_password input.password salt input.count → has_zero input.user ≡ false
    → length input.user ≤ 9985 → length user ≤ 9920 → length salt ≤ 22443
    → ((hash : List ℕ) → bound_to input ≡ binding.EndPoint hash → length hash ≤ 7398) → ShareAPassword input
share_fits input user salt sound utf8 is value has salted plain name short few hashes = record {
  user = user;
  salt = salt;
  password_utf8 = utf8;
  is_prepared = is;
  user_value = value;
  has_salt = has;
  is_salted = salted;
  startup = startup_fits input plain name;
  client_first = name_fits input user sound is short;
  client_final = final_fits input salt sound has hashes;
  server_first = salt_fits input salt sound few;
}
