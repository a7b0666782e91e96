-- Honest ends both accept.
use Rattle.std.proofs.Common.{◌≡◌, ◌<◌, ◌≤◌, ◌^◌, ◌==◌, ℕ, true, false, List, [], ◌∷◌, ◌++◌, codes, Option, Some, None, Ok, refl, sym, ap, ◌∙◌, arith}
use Rattle.std.specs.Result.{result_ok}
use Rattle.std.specs.Str.{IsUtf8, bytes_eq}
use Rattle.std.specs.Str.Parse.{AllDigits}
use Rattle.std.specs.Fmt.{decimal}
use Rattle.std.proofs.lemmas.Bool.Decides.{nat_tests}
use Rattle.std.proofs.lemmas.Fmt.{decimal_is_IsNumeral, IsAscii-from_digits}
use Rattle.std.proofs.lemmas.List.{append-nil, append_assoc}
use Rattle.std.proofs.Math.Seq.{take-append_seam}
use Rattle.std.proofs.lemmas.Str.{IsUtf8-append, IsUtf8-from_ascii}
use Rattle.std.proofs.lemmas.Slice.Eq.{bytes_eq-Decides}
use Rattle.base64.specs.Engines.{standard}
use Rattle.base64.specs.GeneralPurpose.{IsBytes, decoded_of}
use Rattle.base64.proofs.EngineFacts.{decode_of-encode_of}
use Rattle.pgw_types.proofs.NumberLaws.{number_in-decimal}
use Rattle.pgw_scram.specs.Attributes.{IsValue, attribute}
use Rattle.pgw_scram.specs.Base64.{base64, nonce_text, salt_of}
use Rattle.pgw_scram.specs.Exchange.{client_first_bare, client_first, without_proof, exchanged, client_final, signature}
use Rattle.pgw_scram.specs.Messages.{IsClientFirst, IsHeader, IsServerFirst, IsClientFinal, without, without_id, not_supported, not_offered, named}
use Rattle.pgw_scram.specs.Readers.{read_client_first, read_server_first, read_client_final}
use Rattle.pgw_scram.specs.Refusals.{begins_with}
use Rattle.pgw_hash.specs.Pbkdf2.{salted_password}
use Rattle.pgw_hash.proofs.Prepared.{prepared_utf8}
use Rattle.pgw_scram.specs.Binding.{gs2_header, channel_data, binding_text}
use Rattle.pgw_scram.specs.Formulas.{client_key, server_key, client_proof, server_signature}
use Rattle.pgw_scram.specs.Client.{scram_client_login, proved}
use Rattle.pgw_scram.specs.Offers.{server_first, bound, is_misbound}
use Rattle.pgw_scram.specs.Server.{scram_wait, accepted}
use Rattle.pgw_scram.specs.declared.server.ScramServerAuthWaitingForClientFinal.{ScramServerAuthWaitingForClientFinal as WaitingForClientFinal}
use Rattle.pgw_scram.specs.Honest.{Agree, AreHonest, BothAccept}
use Rattle.pgw_scram.specs.declared.binding.ClientBinding.{ClientBinding}
use Rattle.pgw_scram.specs.declared.binding.ClientBinding.TheVariants as binding
use Rattle.pgw_scram.specs.declared.client.ScramClientAuth.{ScramClientAuth}
use Rattle.pgw_scram.specs.declared.exchange.ClientLogin.{ClientLogin}
use Rattle.pgw_scram.specs.declared.password.Password.{Password}
use Rattle.pgw_scram.specs.declared.server.ScramServerAuth.{ScramServerAuth}
use Rattle.pgw_scram.specs.declared.messages.ClientFirst.{ClientFirst}
use Rattle.pgw_scram.specs.declared.messages.ServerFirst.{ServerFirst}
use Rattle.pgw_scram.specs.declared.messages.ClientFinal.{ClientFinal}
use Rattle.pgw_scram.proofs.Base64Laws.{ascii_utf8, value_append, base64_value, base64_utf8}
use Rattle.pgw_scram.proofs.ExchangeLaws.{verifier_is_read}
use Rattle.pgw_scram.proofs.MessageLaws.{client_first_only, server_first_only, client_final_only}

same_bytes : (text : List ℕ) → bytes_eq text text ≡ true
same_bytes text = (bytes_eq-Decides text text).1 refl

-- ---- client-first

some_header : (b : ClientBinding) → IsHeader (gs2_header b)
some_header binding.None =
    record { flag = codes "n"; authzid = []; written = refl; is_flag = not_supported; is_authzid = without_id }
some_header binding.NotOffered =
    record { flag = codes "y"; authzid = []; written = refl; is_flag = not_offered; is_authzid = without_id }
some_header (binding.EndPoint hash) =
    record {
      flag = codes "p=tls-server-end-point";
      authzid = [];
      written = refl;
      is_flag = named
          (codes "tls-server-end-point") refl refl;
      is_authzid = without_id;
    }

header_utf8 : (b : ClientBinding) → IsUtf8 (gs2_header b)
header_utf8 binding.None = ascii_utf8 (codes "n,,") refl
header_utf8 binding.NotOffered = ascii_utf8 (codes "y,,") refl
header_utf8 (binding.EndPoint hash) = ascii_utf8 (codes "p=tls-server-end-point,,") refl

bare_written : (user nonce : List ℕ)
    → client_first_bare user nonce ≡ attribute (codes "n=") user (Some (attribute (codes "r=") nonce None))
bare_written user nonce =
    ap (λ (l : List ℕ). codes "n=" ++ l) (append_assoc user (codes ",r=") nonce
    ∙ ap (λ (l : List ℕ). user ++ (codes ",r=" ++ l)) (sym (append-nil nonce)))

abbrev first_parts : ClientLogin → ClientFirst
first_parts login =
    record {
      header = gs2_header login.binding;
      bare = client_first_bare login.user login.nonce;
      user =
          login.user;
      nonce = login.nonce;
    }

bare_utf8 : (user nonce : List ℕ) → IsUtf8 user → IsUtf8 nonce → IsUtf8 (client_first_bare user nonce)
bare_utf8 user nonce u n =
    IsUtf8-append (codes "n=" ++ user ++ codes ",r=") nonce
    (IsUtf8-append (codes "n=" ++ user) (codes ",r=")
    (IsUtf8-append (codes "n=") user (ascii_utf8 (codes "n=") refl) u) (ascii_utf8 (codes ",r=") refl)) n

pub reads_client_first : (login : ClientLogin) → IsUtf8 login.user → IsValue login.user → IsUtf8 login.nonce
    → IsValue login.nonce → read_client_first (client_first login) ≡ Ok (first_parts login)
unfolding client_first
reads_client_first login user_utf8 user_value nonce_utf8 nonce_value =
    let bare = client_first_bare login.user login.nonce in
    let is : IsClientFirst (gs2_header login.binding ++ bare) (first_parts login) = record {
      utf8 = IsUtf8-append (gs2_header login.binding) bare (header_utf8 login.binding)
          (bare_utf8 login.user login.nonce user_utf8 nonce_utf8);
      written = refl;
      header = some_header login.binding;
      bare = record {
        body = bare;
        more = None;
        skips = without;
        written = bare_written login.user login.nonce;
        user_value = user_value;
        nonce_value = nonce_value;
      };
    } in
    client_first_only (gs2_header login.binding ++ bare) (Ok (first_parts login)) is

-- ---- server-first

digits_value : (ds : List ℕ) → AllDigits 10 ds → IsValue ds
digits_value [] h = refl
digits_value (d ∷ ds) h =
    let other : (d == 44) ≡ false = grind (arith, nat_tests, h.0) in rw (other, digits_value ds h.1) refl

abbrev server_parts : List ℕ → List ℕ → ℕ → ServerFirst
server_parts nonce salt count = record { nonce = nonce; salt = base64 salt; count = count }

server_written : (nonce salt count : List ℕ)
    → codes "r=" ++ nonce ++ codes ",s=" ++ salt ++ codes ",i=" ++ count ≡ attribute (codes "r=") nonce
    (Some (attribute (codes "s=") salt (Some (attribute (codes "i=") count None))))
server_written nonce salt count = simp (append_assoc, append-nil) refl

server_utf8 : (nonce salt count : List ℕ) → IsUtf8 nonce → IsUtf8 salt → IsUtf8 count
    → IsUtf8 (codes "r=" ++ nonce ++ codes ",s=" ++ salt ++ codes ",i=" ++ count)
server_utf8 nonce salt count n s c =
    let one = IsUtf8-append (codes "r=") nonce (ascii_utf8 (codes "r=") refl) n in
    let two = IsUtf8-append (codes "r=" ++ nonce) (codes ",s=") one (ascii_utf8 (codes ",s=") refl) in
    let three = IsUtf8-append (codes "r=" ++ nonce ++ codes ",s=") salt two s in
    let four =
    IsUtf8-append (codes "r=" ++ nonce ++ codes ",s=" ++ salt) (codes ",i=") three
    (ascii_utf8 (codes ",i=") refl) in
    IsUtf8-append (codes "r=" ++ nonce ++ codes ",s=" ++ salt ++ codes ",i=") count four c

pub reads_server_first : (nonce salt : List ℕ) (count : ℕ) → IsUtf8 nonce → IsValue nonce → 1 ≤ count
    → count < 2 ^ 32 → read_server_first (server_first nonce salt count) ≡ Ok (server_parts nonce salt count)
reads_server_first nonce salt count utf8 value least most =
    let fits : count < 2 ^ 64 = omega arith in
    let digits = (decimal_is_IsNumeral count fits).0.1 in
    let is : IsServerFirst (server_first nonce salt count) (server_parts nonce salt count) = record {
      utf8 = server_utf8 nonce (base64 salt) (decimal count) utf8 (base64_utf8 salt)
          (IsUtf8-from_ascii (decimal count) (IsAscii-from_digits (decimal count) digits));
      count = decimal count;
      written = record {
        body = server_first nonce salt count;
        more = None;
        skips = without;
        written = server_written nonce (base64 salt) (decimal count);
        nonce_value = value;
        salt_value = base64_value salt;
        count_value = digits_value (decimal count) digits;
      };
      counts = number_in-decimal count 32 fits most;
      positive = omega arith;
    } in
    server_first_only (server_first nonce salt count) (Ok (server_parts nonce salt count)) is

pub salt_is : (salt : List ℕ) → IsBytes salt → salt_of (base64 salt) ≡ Some salt
unfolding salt_of base64 decoded_of
salt_is salt bytes = ap result_ok (decode_of-encode_of standard salt refl bytes)

pub begins_itself : (nonce own : List ℕ) → begins_with (nonce ++ own) nonce ≡ true
begins_itself nonce own = rw (take-append_seam nonce own) (same_bytes nonce)

-- ---- client-final

abbrev final_parts : ClientBinding → List ℕ → List ℕ → ClientFinal
final_parts b nonce proof =
    record { binding = binding_text b; nonce = nonce; without_proof = without_proof b nonce; proof = proof }

bound_utf8 : (text nonce : List ℕ) → IsUtf8 text → IsUtf8 nonce
    → IsUtf8 (codes "c=" ++ text ++ codes ",r=" ++ nonce)
bound_utf8 text nonce t n =
    let front = IsUtf8-append (codes "c=") text (ascii_utf8 (codes "c=") refl) t in
    IsUtf8-append (codes "c=" ++ text ++ codes ",r=") nonce
    (IsUtf8-append (codes "c=" ++ text) (codes ",r=") front (ascii_utf8 (codes ",r=") refl)) n

bound_written : (text nonce : List ℕ)
    → codes "c=" ++ text ++ codes ",r=" ++ nonce ≡ attribute (codes "c=") text
    (Some (attribute (codes "r=") nonce None))
bound_written text nonce = simp (append_assoc, append-nil) refl

pub reads_client_final : (b : ClientBinding) (nonce proof : List ℕ) → IsUtf8 nonce → IsValue nonce → IsUtf8 proof
    → IsValue proof
    → read_client_final (without_proof b nonce ++ codes ",p=" ++ proof) ≡ Ok (final_parts b nonce proof)
unfolding without_proof
reads_client_final b nonce proof nonce_utf8 nonce_value proof_utf8 proof_value =
    let text = binding_text b in
    let before : List ℕ = codes "c=" ++ text ++ codes ",r=" ++ nonce in
    let is : IsClientFinal (before ++ codes ",p=" ++ proof) (final_parts b nonce proof) = record {
      utf8 = IsUtf8-append (before ++ codes ",p=") proof
          (IsUtf8-append before (codes ",p=") (bound_utf8 text nonce (base64_utf8 _) nonce_utf8)
          (ascii_utf8 (codes ",p=") refl)) proof_utf8;
      written = append_assoc before (codes ",p=") proof;
      without_proof =
          record {
            more = None;
            written = bound_written text nonce;
            binding_value = base64_value _;
            nonce_value =
                nonce_value;
          };
      proof_value = proof_value;
    } in
    client_final_only (before ++ codes ",p=" ++ proof) (Ok (final_parts b nonce proof)) is

-- what the server awaits is what the client binds
pub agreed_binding : (b : ClientBinding) (hash : Option (List ℕ)) → Agree b hash
    → bound (gs2_header b) hash ≡ gs2_header b ++ channel_data b
agreed_binding binding.None None agree = refl
agreed_binding binding.None (Some hash) agree = refl
agreed_binding binding.NotOffered hash agree = rw agree refl
agreed_binding (binding.EndPoint own) hash agree = rw agree refl

suits_server : (b : ClientBinding) (hash : Option (List ℕ)) → Agree b hash
    → is_misbound hash (gs2_header b) ≡ false
suits_server binding.None None agree = refl
suits_server binding.None (Some hash) agree = refl
suits_server binding.NotOffered hash agree = rw agree refl
suits_server (binding.EndPoint own) hash agree = rw agree refl

-- ---- both ends

-- the client's last message and the signature's text
abbrev proven : ClientLogin → List ℕ → List ℕ → ℕ → List ℕ
proven login whole salt count =
    without_proof login.binding whole ++ codes ",p=" ++ base64
    (client_proof (salted_password login.password salt count)
    (exchanged login (server_first whole salt count) (server_parts whole salt count)))

abbrev signed : ClientLogin → List ℕ → List ℕ → ℕ → List ℕ
signed login whole salt count =
    base64 (server_signature (salted_password login.password salt count)
    (exchanged login (server_first whole salt count) (server_parts whole salt count)))

nonce_is_text : (own other : List ℕ)
    → IsUtf8 (nonce_text own ++ nonce_text other) × IsValue (nonce_text own ++ nonce_text other)
nonce_is_text own other = (
  IsUtf8-append (nonce_text own) (nonce_text other) (base64_utf8 own) (base64_utf8 other),
  value_append
      (nonce_text own) (nonce_text other) (base64_value own) (base64_value other),
)

proves_by : (login : ClientLogin) (own salt : List ℕ) (count : ℕ) → IsUtf8 (login.nonce ++ own)
    → IsValue (login.nonce ++ own) → IsBytes salt → 1 ≤ count → count < 2 ^ 32
    → proved (record { login = login }) (server_first (login.nonce ++ own) salt count)
    ≡ Ok (
      proven login (login.nonce ++ own) salt count,
      record
          { signature = signed login (login.nonce ++ own) salt count },
    )
unfolding client_final signature
proves_by login own salt count utf8 value bytes least most =
    rw (
      reads_server_first (login.nonce ++ own) salt count utf8 value least most,
      begins_itself login.nonce own,
      salt_is salt bytes,
    ) refl

accepts_by : (server : WaitingForClientFinal) (login : ClientLogin) (whole salt : List ℕ) (count : ℕ)
    → server.offer.binding ≡ binding_text login.binding → server.offer.nonce ≡ whole
    → server.client_key ≡ client_key (salted_password login.password salt count)
    → server.server_key ≡ server_key (salted_password login.password salt count)
    → server.offer.bare ≡ client_first_bare login.user login.nonce
    → server.offer.server_first ≡ server_first whole salt count → IsUtf8 whole → IsValue whole
    → accepted server (proven login whole salt count) ≡ Ok (codes "v=" ++ signed login whole salt count)
unfolding client_proof server_signature
accepts_by server login whole salt count binds is_nonce proves signs bare first utf8 value =
    let proof =
    base64 (client_proof (salted_password login.password salt count)
    (exchanged login (server_first whole salt count) (server_parts whole salt count))) in
    rw (
      reads_client_final login.binding whole proof utf8 value (base64_utf8 _) (base64_value _),
      binds,
      same_bytes (binding_text login.binding),
      is_nonce,
      same_bytes whole,
      proves,
      signs,
      bare,
      first,
      same_bytes proof,
    ) refl

pub both_accept : (client : ScramClientAuth) (server : ScramServerAuth) (password : Password)
    (client_nonce server_nonce : List ℕ)
    → AreHonest client server password → BothAccept client server password client_nonce server_nonce
both_accept client server password client_nonce server_nonce h =
    let login = scram_client_login client h.user (nonce_text client_nonce) in
    let whole = nonce_text client_nonce ++ nonce_text server_nonce in
    let text = nonce_is_text client_nonce server_nonce in
    let first = server_first whole h.salt server.iterations in
    let sign = signed login whole h.salt server.iterations in
    let waits = scram_wait server (first_parts login) h.salt password.password server_nonce in
    record {
      client_first = client_first login;
      client_began = record { login = login };
      server_first = first;
      server_offered = waits;
      client_final = proven login whole h.salt server.iterations;
      client_proved = record { signature = sign };
      server_final = codes "v=" ++ sign;
      begins = rw h.is_prepared refl;
      offers =
          rw (
            reads_client_first login (prepared_utf8 client.username h.user h.username_utf8 h.is_prepared)
                h.user_value (base64_utf8 client_nonce) (base64_value client_nonce),
            suits_server client.binding
                server.certificate_hash h.agree,
            h.has_salt,
          ) refl;
      proves =
          proves_by login (nonce_text server_nonce) h.salt server.iterations text.0 text.1 h.salt_bytes
          h.at_least_one h.in_32_bits;
      accepts =
          accepts_by waits login whole h.salt server.iterations
          (ap base64 (agreed_binding client.binding server.certificate_hash h.agree)) refl
          (ap client_key h.is_salted) (ap server_key h.is_salted) refl refl text.0 text.1;
      verifies = rw (verifier_is_read sign (base64_value _) (base64_utf8 _), same_bytes sign) refl;
    }
