-- Each message of a valid input can be sent.
use Rattle.std.proofs.Common.{is_some, ◌≡◌, ◌≢◌, ◌<◌, ◌≤◌, ◌+◌, ℕ, Bool, true, false, List, [], ◌∷◌, ◌++◌, length, Option, Some, None, Result, Ok, Err, inl, inr, arith, refl, ◌∙◌, ap, sym, length-append, IfSome}
use Rattle.std.specs.Prelude.{◌==◌, ◌||◌, not, codes, get_or}
use Rattle.std.specs.List.{flat_map, list_any}
use Rattle.std.specs.FinMap as finite
use Rattle.std.specs.Cmp.Lexicographic.{slice_cmp, nat_list_cmp_total}
use Rattle.std.proofs.lemmas.Bool.{le-ltb}
use Rattle.std.proofs.lemmas.Bool.Decides.{eqb_tells, nat_tests}
use Rattle.std.proofs.lemmas.List.{nil_from_length}
use Rattle.std.proofs.lemmas.List.Folds.{list_any_none, list_any-append}
use Rattle.std.proofs.lemmas.Grind.{flat_map-append}
use Rattle.std.specs.Ordering.{nat_cmp}
use Rattle.pgw_types.specs.Versions.{version_number}
use Rattle.pgw_types.specs.declared.context.ProtocolVersion.{ProtocolVersion}
use Rattle.pgw_types.specs.declared.context.ProtocolVersion.TheVariants.{PROTOCOL3_0, PROTOCOL3_2, PROTOCOL3_9999}
use Rattle.pgw_types.specs.declared.error.PgWireError.{PgWireError}
use Rattle.pgw_wire.specs.declared.framing.Framing.{Framing}
use Rattle.pgw_wire.specs.declared.framing.Framing.TheVariants.{Typed, Untyped}
use Rattle.pgw_wire.specs.Writing.{text, u16, has_zero, refused_if}
use Rattle.pgw_wire.specs.Pairs.{Held, pair_written, pairs_written, is_pair_refused}
use Rattle.pgw_frontend.specs.declared.frontend.PgWireFrontendMessage.{PgWireFrontendMessage as Frontend}
use Rattle.pgw_frontend.specs.Frontend.{encoding, encodings, both}
use Rattle.pgw_config.specs.declared.config.SslMode.{SslMode}
use Rattle.pgw_config.specs.declared.config.SslMode.TheVariants as ssl_mode
use Rattle.pgw_config.specs.declared.config.ChannelBinding.{ChannelBinding}
use Rattle.pgw_config.specs.declared.config.ChannelBinding.TheVariants as channel_binding
use Rattle.pgw_session.specs.Events.{Event, all_events, sents}
use Rattle.pgw_session.specs.Transcript.{IsTranscript, IsLegalPrefix, EncodesSent, SpellsGot, Completes}
use Rattle.pgw_session.specs.Demands.{refused_binding, refused_demand, refused_config}
use Rattle.pgw_session.specs.Standings.{first_standing}
use Rattle.pgw_machine.specs.Course.{Over}
use Rattle.pgw_session.proofs.FailureLaws.{unencoded}
use Rattle.pgw_session.proofs.SentLaws.{AreSent, MaySend, transcript_sent, prefix_sent, due_sent}
use Rattle.pgw_session.specs.Input.{Input}
use Rattle.pgw_wire.specs.Framing.{encoded, header, length_field, saturated}
use Rattle.pgw_wire.specs.Counted.{is_too_long}
use Rattle.pgw_wire.specs.Reading.{lossy}
use Rattle.pgw_wire.specs.Writing.{i32}
use Rattle.pgw_ext.specs.Kinds.{name, is_name_refused}
use Rattle.pgw_ext.specs.Rows.{parse, bind}
use Rattle.pgw_startup.specs.Login.{is_method_refused}
use Rattle.pgw_startup.specs.Password.{initial_response}
use Rattle.pgw_startup.specs.declared.password.PasswordMessageFamily.TheVariants as family
use Rattle.pgw_frontend.specs.declared.frontend.PgWireFrontendMessage.TheVariants as frontend
use Rattle.pgw_hash.specs.Md5Password.{md5_password}
use Rattle.pgw_session.specs.Logins.{user_of, password_of, password_message, cleartext_message, md5_message, first_message, final_message}
use Rattle.pgw_session.specs.Requests.{sync}
use Rattle.pgw_session.specs.Segments.{startup_message, with_set, startup_parameters}
use Rattle.pgw_session.specs.Valid.{HasNoZero, IsValidInput, IsValidMessage, IsValidName, AreValid, IsLoginValid, CanLogIn, parameter_size, startup_size}
use Rattle.pgw_session.specs.Machine.{Unencoded}
use Rattle.pgw_session.specs.Talk.{Ending, conversation}
use Rattle.pgw_session.proofs.LoginTexts.{nonzero_at, md5_clean, md5_short}

-- ---- one message

abbrev Encodes : Result (List ℕ) PgWireError → Type 0
Encodes o = (bytes : List ℕ) × (o ≡ Ok bytes)

nonzero : (b : ℕ) → b ≢ 0 → (b == 0) ≡ false
nonzero b h =
    elim (eqb_tells b 0) [
      | inl w ↦ absurd (h w.1)
      | inr w ↦ w.0
    ]

no_zero : (t : List ℕ) → HasNoZero t → has_zero t ≡ false
no_zero t h = list_any_none (λ b. b == 0) t (λ k d lt. nonzero (get_or t k d) (h k d lt))

written : (framing : Framing) (limit : ℕ) (fault : Option PgWireError) (body : List ℕ) → fault ≡ None
    → length body + length_field framing ≤ limit → Encodes (encoded framing limit fault body)
unfolding encoded
written framing limit fault body sound fits =
    let within : saturated (length body + length_field framing) ≤ limit = omega (arith, fits) in (
      header framing (length body) ++ body,
      rw
          (le-ltb limit (saturated (length body + length_field framing)) within, sound) refl,
    )

no_fault : (b : Bool) → b ≡ false → refused_if b ≡ None
unfolding refused_if
no_fault b is = rw is refl

text_length : (t : List ℕ) → length (text t) ≡ length t + 1
unfolding text
text_length t = length-append t (0 ∷ [])

-- nothing demanded is refused
no_binding : (binding : ChannelBinding) (hash : Option (List ℕ))
    → (binding ≡ channel_binding.Require → is_some hash ≡ true) → refused_binding binding hash ≡ None
no_binding channel_binding.Require None given = let none : false ≡ true = given refl in cc
no_binding channel_binding.Require (Some hash) given = refl
no_binding channel_binding.Disable hash given = refl
no_binding channel_binding.Prefer hash given = refl

no_encryption : (mode : SslMode) (binding : ChannelBinding) (hash : Option (List ℕ)) → mode ≢ ssl_mode.Require
    → refused_binding binding hash ≡ None → refused_demand mode binding hash ≡ None
no_encryption ssl_mode.Require binding hash open_mode bound = absurd (open_mode refl)
no_encryption ssl_mode.Disable binding hash open_mode bound = bound
no_encryption ssl_mode.Prefer binding hash open_mode bound = bound

pub no_demand : (input : Input) → IsValidInput input → refused_config input.config ≡ None
no_demand input valid =
    let c = input.config in
    no_encryption c.ssl_mode c.channel_binding c.certificate_hash valid.encryption
    (no_binding c.channel_binding c.certificate_hash valid.binding)

-- ---- the parameters as they are written

-- a parameter where it is set
entry : List ℕ → Option (List ℕ) → List (List ℕ × List ℕ)
entry name None = []
entry name (Some value) = (name, value) ∷ []

put_set : List ℕ → Option (List ℕ) → List (List ℕ × List ℕ) → List (List ℕ × List ℕ)
put_set name None pairs = pairs
put_set name (Some value) pairs = finite.put (slice_cmp nat_cmp) name value pairs

entries_set : (name : List ℕ) (o : Option (List ℕ)) (held : Held)
    → finite.entries (with_set name o held) ≡ put_set name o (finite.entries held)
unfolding put_set
entries_set name None held = refl
entries_set name (Some value) held = finite.entries-insert nat_list_cmp_total held name value

entries_none : finite.entries {X = List ℕ} {R = slice_cmp nat_cmp} finite.empty ≡ []
entries_none = nil_from_length _ (sym (finite.len-entries _) ∙ finite.len-empty _ _)

-- in the order of their names
three : (a u d : Option (List ℕ))
    → put_set (codes "database") d (put_set (codes "user") u (put_set (codes "application_name") a [])) ≡ entry
    (codes "application_name") a ++ (entry (codes "database") d ++ entry (codes "user") u)
unfolding put_set entry
three None None None = refl
three None None (Some d) = refl
three None (Some u) None = refl
three None (Some u) (Some d) = refl
three (Some a) None None = refl
three (Some a) None (Some d) = refl
three (Some a) (Some u) None = refl
three (Some a) (Some u) (Some d) = refl

startup_entries : (input : Input)
    → finite.entries (startup_parameters input) ≡ entry (codes "application_name") (input.config).application_name
    ++ (entry (codes "database") (input.config).dbname ++ entry (codes "user") (input.config).user)
startup_entries input =
    entries_set (codes "database") (input.config).dbname _
    ∙ ap (put_set (codes "database") (input.config).dbname) (entries_set (codes "user") (input.config).user _
    ∙ ap (put_set (codes "user") (input.config).user)
    (entries_set (codes "application_name") (input.config).application_name _
    ∙ ap (put_set (codes "application_name") (input.config).application_name) entries_none))
    ∙ three (input.config).application_name (input.config).user (input.config).dbname

-- their bytes
entry_length : (name : List ℕ) (o : Option (List ℕ))
    → length (flat_map pair_written (entry name o)) ≡ parameter_size name o
unfolding entry text
entry_length name None = refl
entry_length name (Some value) =
    omega (
      arith,
      length-append ((name ++ 0 ∷ []) ++ (value ++ 0 ∷ [])) [],
      length-append (name ++ 0 ∷ [])
          (value ++ 0 ∷ []),
      length-append name (0 ∷ []),
      length-append value (0 ∷ []),
    )

pairs_length : (xs ys : List (List ℕ × List ℕ))
    → length (flat_map pair_written (xs ++ ys)) ≡ length (flat_map pair_written xs) + length
    (flat_map pair_written ys)
pairs_length xs ys =
    ap length (flat_map-append pair_written xs ys)
    ∙ length-append (flat_map pair_written xs) (flat_map pair_written ys)

entry_sound : (name : List ℕ) (o : Option (List ℕ)) → (length name == 0) ≡ false → has_zero name ≡ false
    → IfSome o HasNoZero → list_any is_pair_refused (entry name o) ≡ false
unfolding entry
entry_sound name None some sound valid = refl
entry_sound name (Some value) some sound valid = rw (some, sound, no_zero value valid) refl

version_is : (v : ProtocolVersion) → ((version_number v).0 == 3) ≡ true
version_is PROTOCOL3_0 = refl
version_is PROTOCOL3_2 = refl
version_is PROTOCOL3_9999 = refl

startup_length : (input : Input) → length (pairs_written (startup_parameters input)) + 9 ≡ startup_size input
startup_length input =
    let a = entry (codes "application_name") (input.config).application_name in
    let d = entry (codes "database") (input.config).dbname in
    let u = entry (codes "user") (input.config).user in
    let all : length (pairs_written (startup_parameters input)) ≡ length (flat_map pair_written (a ++ (d ++ u))) =
    ap (λ l. length (flat_map pair_written l)) (startup_entries input) in
    omega (
      arith,
      all,
      pairs_length a (d ++ u),
      pairs_length d u,
      entry_length (codes "application_name")
          (input.config).application_name,
      entry_length (codes "database") (input.config).dbname,
      entry_length
          (codes "user") (input.config).user,
    )

either : (xs ys : List (List ℕ × List ℕ)) → list_any is_pair_refused xs ≡ false
    → list_any is_pair_refused ys ≡ false → list_any is_pair_refused (xs ++ ys) ≡ false
either xs ys x y = list_any-append is_pair_refused xs ys ∙ rw (x, y) refl

startup_sound : (input : Input) → IsValidInput input
    → list_any is_pair_refused (finite.entries (startup_parameters input)) ≡ false
startup_sound input valid =
    ap (list_any is_pair_refused) (startup_entries input)
    ∙ either (entry (codes "application_name") (input.config).application_name)
    (entry (codes "database") (input.config).dbname ++ entry (codes "user") (input.config).user)
    (entry_sound (codes "application_name") (input.config).application_name refl refl
    valid.application_name)
    (either (entry (codes "database") (input.config).dbname) (entry (codes "user") (input.config).user)
    (entry_sound (codes "database") (input.config).dbname refl refl valid.database)
    (entry_sound (codes "user") (input.config).user refl refl valid.user))

startup_fault : (input : Input) → IsValidInput input
    → (not ((version_number (input.config).protocol_version).0 == 3) || list_any is_pair_refused
    (finite.entries (startup_parameters input))) ≡ false
startup_fault input valid = rw (version_is (input.config).protocol_version, startup_sound input valid) refl

startup_encodes : (input : Input) → IsValidInput input → Encodes (encoding (startup_message input))
unfolding encoding u16
startup_encodes input valid =
    written Untyped 10000 _ _ (no_fault _ (startup_fault input valid))
    (omega (
      arith,
      startup_length input,
      length-append (pairs_written (startup_parameters input)) (0 ∷ []),
      valid.startup,
    ))

-- ---- the other messages

text_encodes : (t : List ℕ) → has_zero t ≡ false → length t + 5 ≤ 10000 → Encodes (encoding (password_message t))
unfolding encoding
text_encodes t sound fits =
    written (Typed 112) 10000 _ (text t) (no_fault _ sound) (omega (arith, text_length t, fits))

name_sound : (n : Option (List ℕ)) → IsValidName n → is_name_refused n ≡ false
name_sound None valid = refl
name_sound (Some t) valid = no_zero t valid

clean_text : (t : List ℕ) → has_zero t ≡ false → HasNoZero t
clean_text t clean k d lt is = let no = nonzero_at t k d lt clean in let yes = ap (λ b. b == 0) is in absurd cc

method_sound : (t : List ℕ) → 0 < length t → HasNoZero t → is_method_refused t ≡ false
method_sound t some clean =
    let filled : (length t == 0) ≡ false = grind (arith, nat_tests, some) in rw (filled, no_zero t clean) refl

count_sound : {A : Type 0} (xs : List A) → length xs ≤ 65535 → is_too_long xs ≡ false
count_sound xs le = le-ltb 65535 (length xs) le

message_encodes : (m : Frontend) → IsValidMessage m → Encodes (encoding m)
unfolding encoding
message_encodes (frontend.PasswordMessageFamily (family.Password m)) valid =
    written (Typed 112) 10000 _ (text m.password) (no_fault _ (no_zero m.password valid.0))
    (omega (arith, valid.1))
message_encodes (frontend.PasswordMessageFamily (family.SASLInitialResponse m)) valid =
    written (Typed 112) 10000 _ (initial_response m) (no_fault _ (method_sound m.auth_method valid.0 valid.1))
    (omega (arith, valid.2))
message_encodes (frontend.Query m) valid =
    written (Typed 81) 1073741822 _ (text m.query) (no_fault _ (no_zero m.query valid.0)) (omega (arith, valid.1))
message_encodes (frontend.Parse m) valid =
    written (Typed 80) 1073741822 _ (parse m)
    (no_fault _ (rw (name_sound m.name valid.0, no_zero m.query valid.1, count_sound m.type_oids valid.2) refl))
    (omega (arith, valid.3))
message_encodes (frontend.Bind m) valid =
    written (Typed 66) 1073741822 _ (bind m)
    (no_fault _ (rw (
      name_sound m.portal_name valid.0,
      name_sound m.statement_name valid.1,
      count_sound m.parameter_format_codes valid.2,
      count_sound m.parameters valid.3,
      count_sound m.result_column_format_codes valid.4,
    ) refl)) (omega (arith, valid.5))
message_encodes (frontend.Execute m) valid =
    written (Typed 69) 10000 _ (name m.name ++ i32 m.max_rows) (no_fault _ (name_sound m.name valid.0))
    (omega (arith, valid.1))
message_encodes (frontend.Describe m) valid =
    written (Typed 68) 10000 _ (m.target_type ∷ name m.name) (no_fault _ (name_sound m.name valid.0))
    (omega (arith, valid.1))
message_encodes (frontend.Close m) valid =
    written (Typed 67) 10000 _ (m.target_type ∷ name m.name) (no_fault _ (name_sound m.name valid.0))
    (omega (arith, valid.1))
message_encodes (frontend.Flush m) valid = written (Typed 72) 10000 None [] refl (omega arith)
message_encodes (frontend.Sync m) valid = written (Typed 83) 10000 None [] refl (omega arith)
message_encodes (frontend.PasswordMessageFamily (family.Raw m)) valid = absurd valid
message_encodes (frontend.PasswordMessageFamily (family.SASLResponse m)) valid =
    written (Typed 112) 10000 None m.payload refl (omega (arith, valid))
message_encodes (frontend.SslNegotiation m) valid = absurd valid
message_encodes m valid = absurd valid

-- ---- messages that have an encoding, if the client can log in

abbrev Sendable : Frontend → Type 0
Sendable m = IsLoginValid m → Encodes (encoding m)

both_encode : (a b : Result (List ℕ) PgWireError) → Encodes a → Encodes b → Encodes (both a b)
both_encode a b x y = (x.0 ++ y.0, ap (λ o. both o b) x.1 ∙ ap (both (Ok x.0)) y.1)

all_encode : (ms : List Frontend) → AreSent Sendable ms → CanLogIn ms → Encodes (encodings ms)
all_encode [] all can = ([], refl)
all_encode (m ∷ ms) all can = both_encode (encoding m) (encodings ms) (all.0 can.0) (all_encode ms all.1 can.1)

valid_sendable : (ms : List Frontend) → AreValid ms → AreSent Sendable ms
valid_sendable [] valid = tt
valid_sendable (m ∷ ms) valid = (λ can. message_encodes m valid.0, valid_sendable ms valid.1)

md5_encodes : (input : Input) (salt : List ℕ) → Encodes (encoding (md5_message input salt))
md5_encodes input salt =
    let text = md5_password (user_of input) (lossy (password_of input)) salt in
    text_encodes text (md5_clean (user_of input) (lossy (password_of input)) salt)
    (omega (arith, md5_short (user_of input) (lossy (password_of input)) salt))

sendable : (input : Input) → IsValidInput input → MaySend input Sendable
sendable input valid = record {
  startup = λ can. startup_encodes input valid;
  cleartext = λ can. message_encodes (cleartext_message input) can;
  md5 = λ salt can. md5_encodes input salt;
  first = λ login can. message_encodes (first_message login) can;
  final = λ login first can. message_encodes (final_message login first) can;
  sends = λ k d lt. valid_sendable _ (valid.requests k d lt);
  round = λ can. message_encodes sync tt;
}

-- each message sent in a transcript has an encoding
pub transcript_encodes : (input : Input) (segments : List (List Event)) → IsValidInput input
    → IsTranscript input segments → CanLogIn (sents (all_events segments))
    → (bytes : List ℕ) × EncodesSent (all_events segments) bytes
transcript_encodes input segments valid transcript can =
    all_encode (sents (all_events segments))
    (transcript_sent input Sendable segments (sendable input valid) transcript) can

-- so does each message sent in a legal prefix
pub prefix_encodes : (input : Input) (es : List Event) → IsValidInput input → IsLegalPrefix input es
    → CanLogIn (sents es) → (bytes : List ℕ) × EncodesSent es bytes
prefix_encodes input es valid legal can =
    all_encode (sents es) (prefix_sent input Sendable es (sendable input valid) legal) can

pub spelled_completes : (input : Input) (segments : List (List Event)) (bytes more : List ℕ) → IsValidInput input
    → IsTranscript input segments → CanLogIn (sents (all_events segments))
    → SpellsGot (first_standing input.config) (all_events segments) bytes
    → Completes input (length bytes) (bytes ++ more) segments
spelled_completes input segments bytes more valid transcript can got =
    let sends = transcript_encodes input segments valid transcript can in
    record {
      transcript = transcript;
      bytes = bytes;
      more = more;
      begins = refl;
      within = omega arith;
      got = got;
      sent = sends.0;
      put = sends.1;
    }

-- what is due and has no encoding is an answer to the request to log in
pub never_unencoded : (input : Input) (taken sent : List ℕ) (ending : Ending) (e : PgWireError)
    → IsValidInput input → conversation input taken ≡ Over ending sent → ending.outcome ≡ Unencoded e
    → (due : List Frontend) × (encodings due ≡ Err e) × (CanLogIn due → ⊥)
never_unencoded input taken sent ending e valid is why =
    let u = (unencoded input taken sent ending e is why).0 in
    let due = due_sent input Sendable u.es u.due (sendable input valid) u.legal in
    (u.due, u.unencoded, λ can. let is_ok = (all_encode u.due due can).1 in let is_err = u.unencoded in cc)

-- an MD5 password can be sent
pub md5_valid : (input : Input) (salt : List ℕ) → IsLoginValid (md5_message input salt)
md5_valid input salt =
    let text = md5_password (user_of input) (lossy (password_of input)) salt in (
      clean_text text (md5_clean (user_of input) (lossy (password_of input)) salt),
      omega
          (arith, text_length text, md5_short (user_of input) (lossy (password_of input)) salt),
    )
