-- Nothing but want of memory stops the end of a login.
use Rattle.std.proofs.Common.{lit<, lit≤, ◌≡◌, ◌⊎◌, inl, inr, ℕ, ◌+◌, ◌≤◌, Bool, true, false, cond, List, [], ◌∷◌, ◌++◌, length, map, fold, Option, Some, None, Ok, refl, sym, ap, subst, ◌∙◌, arith, length-append}
use Rattle.std.proofs.lemmas.Int.{ints}
use Rattle.std.specs.declared.cmp.Ordering.{Ordering}
use Rattle.std.specs.declared.cmp.Ordering.TheVariants.{Less, Equal, Greater}
use Rattle.std.specs.Cmp.Lexicographic.{nat_list_cmp_total}
use Rattle.std.specs.Prelude.{codes, pos, ℤ, ◌||◌, IsUtf8}
use Rattle.std.specs.List.{list_any, flat_map, AllByRecursion}
use Rattle.std.specs.Ordering.{nat_cmp}
use Rattle.std.specs.Cmp.Lexicographic.{slice_cmp}
use Rattle.std.specs.FinMap as finite
use Rattle.std.proofs.lemmas.List.{nil_from_length}
use Rattle.atomic_table.specs.Seated.{TableId}
use Rattle.pgw_types.specs.declared.error.PgWireError.{PgWireError}
use Rattle.pgw_wire.specs.Framing as framing
use Rattle.pgw_wire.specs.Writing as writing
use Rattle.pgw_wire.specs.Writing.{text, has_zero, refused_if}
use Rattle.pgw_wire.specs.Pairs.{Held}
use Rattle.pgw_wire.specs.declared.framing.Framing.TheVariants.{Typed, Untyped}
use Rattle.pgw_backend.specs.Backend.{backend_encoding}
use Rattle.pgw_backend.specs.declared.backend.PgWireBackendMessage.{PgWireBackendMessage as Backend}
use Rattle.pgw_backend.specs.declared.backend.PgWireBackendMessage.TheVariants as backend
use Rattle.std.specs.List.{list_all}
use Rattle.std.specs.Prelude.{nat_lt}
use Rattle.std.specs.Fmt as fmt
use Rattle.std.specs.Fmt.{decimal}
use Rattle.pgw_scram.proofs.Base64Laws.{ascii_utf8}
use Rattle.pgw_login.specs.Client.{LoginClient}
use Rattle.pgw_login.specs.Parameters.{with_given}
use Rattle.pgw_login.specs.Provider.{default_provider, default_parameters}
use Rattle.pgw_wire.specs.Pairs.{pair_written, is_pair_refused}
use Rattle.pgw_wire.proofs.WrittenLaws.{encoded_parts, unrefused}
use Rattle.pgw_startup.specs.Startup.{startup, is_startup_refused}
use Rattle.pgw_frontend.specs.Frontend.{encoding}
use Rattle.pgw_frontend.specs.declared.frontend.PgWireFrontendMessage.TheVariants as frontend
use Rattle.pgw_session.specs.Segments.{startup_parameters}
use Rattle.pgw_login_pair.specs.declared.parties.PairInput.{PairInput}
use Rattle.pgw_login_pair.specs.World.{client_input}
use Rattle.pgw_login_pair.proofs.ServerRungs.{startup_of}
use Rattle.std.specs.Prelude.{FitsSigned}
use Rattle.std.specs.Int.{w32}
use Rattle.pgw_wire.specs.declared.secret_key.SecretKey.TheVariants.{I32}
use Rattle.pgw_wire.proofs.WrittenLaws.{i32_written, code_written}
use Rattle.pgw_startup.specs.Sound.{IsPair}
use Rattle.pgw_startup.specs.declared.authentication.Authentication.TheVariants as auth
use Rattle.pgw_startup.specs.declared.backend_key_data.BackendKeyData.{BackendKeyData}
use Rattle.pgw_frontend.specs.FrontendTexts.{IsSoundFrontend}
use Rattle.pgw_scram.specs.Base64.{base64}
use Rattle.pgw_scram.specs.Formulas.{signature_by}
use Rattle.pgw_scram.specs.Offers.{exchanged, server_final}
use Rattle.pgw_scram.specs.Server.{accepted}
use Rattle.pgw_scram.specs.declared.server.ScramServerAuthWaitingForClientFinal.{ScramServerAuthWaitingForClientFinal as WaitingForClientFinal}
use Rattle.pgw_session.specs.Segments.{startup_message}
use Rattle.pgw_session.specs.Standings.{standing_by}
use Rattle.pgw_session.specs.declared.standing.Standing.{Standing as Told}
use Rattle.pgw_registry.specs.Generator.{unused}
use Rattle.pgw_login_pair.specs.Sound.{IsSoundInput}
use Rattle.pgw_login_pair.proofs.Finals.{CanDraw, Drawn, known_by, proved_at}
use Rattle.pgw_login_pair.proofs.ServerRungs.{IsAble, before_final}
use Rattle.pgw_login_pair.proofs.Ladder.{Opens, GreetsAll, sent_one}
use Rattle.pgw_login_pair.proofs.Sizes.{base64_short, signature_short}
use Rattle.pgw_login_pair.proofs.Texts.{was_accepted}
use Rattle.pgw_login.specs.Finish.{status_message, key_data, introduction, login_ready}
use Rattle.pgw_login_pair.proofs.Finals.{CanSend, final_with}
use Rattle.pgw_login_pair.proofs.Honest.{fits}
use Rattle.pgw_login_pair.proofs.Welcome.{Greets, AreGreetings}

-- ---- messages of which each has an encoding

abbrev pub Encodes : Backend → Type 0
Encodes m = (g : List ℕ) × (backend_encoding m ≡ Ok g)

abbrev pub AllEncode : List Backend → Type 0
AllEncode [] = Unit {0}
AllEncode (m ∷ ms) = Encodes m × AllEncode ms

no_front : (front : List Backend) (x : Backend) (rest : List Backend) → [] ≡ front ++ x ∷ rest → ⊥
no_front [] x rest e = cc
no_front (y ∷ front) x rest e = cc

tail_is : {a b : Backend} {x y : List Backend} → ◌≡◌ {A = List Backend} (a ∷ x) (b ∷ y) → (a ≡ b) × (x ≡ y)
tail_is h = (cc, cc)

pub can_send : (due : List Backend) → AllEncode due → CanSend due
can_send [] all front m rest cut = absurd (no_front front m rest cut)
can_send (d ∷ due) all [] m rest cut = subst Encodes (tail_is cut).0 all.0
can_send (d ∷ due) all (y ∷ front) m rest cut = can_send due all.1 front m rest (tail_is cut).1

pub all_join : (xs ys : List Backend) → AllEncode xs → AllEncode ys → AllEncode (xs ++ ys)
all_join [] ys x y = y
all_join (m ∷ xs) ys x y = (x.0, all_join xs ys x.1 y)

pub greets_join : (xs ys : List Backend) → AreGreetings xs → AreGreetings ys → AreGreetings (xs ++ ys)
greets_join [] ys x y = y
greets_join (m ∷ xs) ys x y = (x.0, greets_join xs ys x.1 y)

-- ---- plain parameters

-- texts without a zero byte, and not long
pub record IsPlainText (t : List ℕ) : Type 0 where
  pub utf8 : IsUtf8 t
  pub zero : has_zero t ≡ false
  pub small : length t ≤ 10000

abbrev IsPlain : List ℕ × List ℕ → Type 0
IsPlain p = IsPlainText p.0 × IsPlainText p.1

abbrev ArePlain : List (List ℕ × List ℕ) → Type 0
ArePlain [] = Unit {0}
ArePlain (p ∷ ps) = IsPlain p × ArePlain ps

pub no_fault : (b : Bool) → b ≡ false → refused_if b ≡ None
unfolding refused_if
no_fault b is = rw is refl

pub text_length : (t : List ℕ) → length (text t) ≡ length t + 1
unfolding text
text_length t = length-append t (0 ∷ [])

status_encodes : (p : List ℕ × List ℕ) → IsPlain p → Encodes (status_message p)
unfolding backend_encoding
status_encodes p plain =
    let size = length-append (text p.0) (text p.1) in
    let f =
    fits (Typed 83) 30000 (text p.0 ++ text p.1)
    (omega (arith, size, text_length p.0, text_length p.1, (plain.0).small, (plain.1).small)) in
    let fault : refused_if (has_zero p.0 || has_zero p.1) ≡ None =
    no_fault (has_zero p.0 || has_zero p.1) (rw ((plain.0).zero, (plain.1).zero) refl) in
    (f.0, ap (λ (o : Option PgWireError). framing.encoded (Typed 83) 30000 o (text p.0 ++ text p.1)) fault ∙ f.1)

status_greets : (p : List ℕ × List ℕ) → IsPlain p → Greets (status_message p)
status_greets p plain =
    record {
      news = refl;
      steady = λ s. refl;
      sound = ((plain.0).utf8, (plain.1).utf8);
      suits = tt;
      phase =
          (refl, refl);
    }

statuses_encode : (ps : List (List ℕ × List ℕ)) → ArePlain ps → AllEncode (map status_message ps)
statuses_encode [] plain = tt
statuses_encode (p ∷ ps) plain = (status_encodes p plain.0, statuses_encode ps plain.1)

statuses_greet : (ps : List (List ℕ × List ℕ)) → ArePlain ps → AreGreetings (map status_message ps)
statuses_greet [] plain = tt
statuses_greet (p ∷ ps) plain = (status_greets p plain.0, statuses_greet ps plain.1)

-- ---- maps of plain parameters

abbrev Pairs : Type 0
Pairs = List (List ℕ × List ℕ)

abbrev bytes_cmp : List ℕ → List ℕ → Ordering
bytes_cmp = slice_cmp nat_cmp

known_order : (o : Ordering) → (o ≡ Less) ⊎ ((o ≡ Equal) ⊎ (o ≡ Greater))
known_order Less = inl refl
known_order Equal = inr (inl refl)
known_order Greater = inr (inr refl)

put_plain : (k v : List ℕ) (es : Pairs) → IsPlain (k, v) → ArePlain es → ArePlain (finite.put bytes_cmp k v es)
put_plain k v [] plain all = (plain, tt)
put_plain k v (e ∷ es) plain all =
    let later = put_plain k v es plain all.1 in
    elim (known_order (bytes_cmp k e.0)) [
      | inl o ↦ rw o (plain, all)
      | inr r ↦ elim r [
        | inl o ↦ rw o (((all.0).0, plain.1), all.1)
        | inr o ↦ rw o (all.0, later)
      ]
    ]

abbrev AllPlain : Held → Type 0
AllPlain held = ArePlain (finite.entries held)

insert_plain : (held : Held) (k v : List ℕ) → IsPlain (k, v) → AllPlain held → AllPlain (finite.insert held k v)
insert_plain held k v plain all =
    subst ArePlain (sym (finite.entries-insert nat_list_cmp_total held k v))
    (put_plain k v (finite.entries held) plain all)

no_entries : finite.entries {K = List ℕ} {X = List ℕ} {R = bytes_cmp} finite.empty ≡ []
no_entries = nil_from_length _ (sym (finite.len-entries _) ∙ finite.len-empty _ _)

empty_plain : AllPlain finite.empty
empty_plain = subst ArePlain (sym no_entries) tt

-- a value that is held is plain
abbrev IfPlain : Option (List ℕ) → Type 0
IfPlain None = Unit {0}
IfPlain (Some v) = IsPlainText v

find_plain : (k : List ℕ) (es : Pairs) → ArePlain es → IfPlain (finite.find bytes_cmp k es)
find_plain k [] all = tt
find_plain k (e ∷ es) all =
    let later = find_plain k es all.1 in
    elim (known_order (bytes_cmp k e.0)) [
      | inl o ↦ rw o later
      | inr r ↦ elim r [
        | inl o ↦ rw o ((all.0).1)
        | inr o ↦ rw o later
      ]
    ]

get_plain : (held : Held) (k : List ℕ) → AllPlain held → IfPlain (finite.get held k)
get_plain held k all = subst IfPlain (sym (finite.get-entries held k)) (find_plain k (finite.entries held) all)

-- a literal
literal : (t : List ℕ) → list_all (λ b. nat_lt b 128) t ≡ true → has_zero t ≡ false → length t ≤ 10000
    → IsPlainText t
literal t ascii zero small = record { utf8 = ascii_utf8 t ascii; zero = zero; small = small }

-- ---- what the provider tells

with_plain : (k v : List ℕ) (held : Held) → IsPlainText k → IsPlainText v → AllPlain held
    → AllPlain (finite.insert held k v)
with_plain k v held x y all = insert_plain held k v (x, y) all

given_plain : (k : List ℕ) (o : Option (List ℕ)) (held : Held) → IsPlainText k → IfPlain o → AllPlain held
    → AllPlain (with_given k o held)
given_plain k None held x y all = all
given_plain k (Some v) held x y all = insert_plain held k v (x, y) all

pub told_plain : (c : LoginClient) → AllPlain c.metadata → AllPlain (default_parameters default_provider c)
unfolding fmt.digits
told_plain c all =
    let server =
    with_plain (codes "scram_iterations") (decimal 4096) _
    (literal (codes "scram_iterations") refl refl (lit≤ tt)) (literal (decimal 4096) refl refl (lit≤ tt))
    (with_plain (codes "in_hot_standby") (codes "off") _ (literal (codes "in_hot_standby") refl refl (lit≤ tt))
    (literal (codes "off") refl refl (lit≤ tt))
    (with_plain (codes "integer_datetimes") (codes "on") _
    (literal (codes "integer_datetimes") refl refl (lit≤ tt)) (literal (codes "on") refl refl (lit≤ tt))
    (with_plain (codes "server_encoding") (codes "UTF8") _ (literal (codes "server_encoding") refl refl (lit≤ tt))
    (literal (codes "UTF8") refl refl (lit≤ tt))
    (with_plain (codes "server_version") (codes "16.6-pgwire-0.41.0") finite.empty
    (literal (codes "server_version") refl refl (lit≤ tt))
    (literal (codes "16.6-pgwire-0.41.0") refl refl (lit≤ tt)) empty_plain)))) in
    let session =
    with_plain (codes "standard_conforming_strings") (codes "on") _
    (literal (codes "standard_conforming_strings") refl refl (lit≤ tt))
    (literal (codes "on") refl refl (lit≤ tt))
    (with_plain (codes "IntervalStyle") (codes "postgres") _ (literal (codes "IntervalStyle") refl refl (lit≤ tt))
    (literal (codes "postgres") refl refl (lit≤ tt))
    (with_plain (codes "DateStyle") (codes "ISO, YMD") _ (literal (codes "DateStyle") refl refl (lit≤ tt))
    (literal (codes "ISO, YMD") refl refl (lit≤ tt))
    (with_plain (codes "TimeZone") (codes "Etc/UTC") _ (literal (codes "TimeZone") refl refl (lit≤ tt))
    (literal (codes "Etc/UTC") refl refl (lit≤ tt))
    (with_plain (codes "default_transaction_read_only") (codes "off") _
    (literal (codes "default_transaction_read_only") refl refl (lit≤ tt))
    (literal (codes "off") refl refl (lit≤ tt))
    (with_plain (codes "is_superuser") (codes "on") _ (literal (codes "is_superuser") refl refl (lit≤ tt))
    (literal (codes "on") refl refl (lit≤ tt))
    (with_plain (codes "search_path") (codes "public") _ (literal (codes "search_path") refl refl (lit≤ tt))
    (literal (codes "public") refl refl (lit≤ tt)) server)))))) in
    given_plain (codes "session_authorization") (finite.get c.metadata (codes "user")) _
    (literal (codes "session_authorization") refl refl (lit≤ tt)) (get_plain c.metadata (codes "user") all)
    (given_plain (codes "application_name") (finite.get c.metadata (codes "application_name")) _
    (literal (codes "application_name") refl refl (lit≤ tt))
    (get_plain c.metadata (codes "application_name") all)
    (with_plain (codes "client_encoding") (codes "UTF8") _ (literal (codes "client_encoding") refl refl (lit≤ tt))
    (literal (codes "UTF8") refl refl (lit≤ tt)) session))

-- ---- what the client gave

saved_plain : (es : Pairs) (held : Held) → AllPlain held → ArePlain es
    → AllPlain (fold (λ m p. finite.insert m p.0 p.1) held es)
saved_plain [] held all plain = all
saved_plain (e ∷ es) held all plain =
    saved_plain es (finite.insert held e.0 e.1) (insert_plain held e.0 e.1 plain.0 all) plain.1

either_false : (a b : Bool) → (a || b) ≡ false → (a ≡ false) × (b ≡ false)
either_false true b is = absurd cc
either_false false b is = (refl, is)

module _ (input : PairInput) where
  pub user_entries : finite.entries (startup_parameters (client_input input)) ≡ (codes "user", input.user) ∷ []
  user_entries =
      finite.entries-insert nat_list_cmp_total finite.empty (codes "user") input.user
      ∙ ap (finite.put bytes_cmp (codes "user") input.user) no_entries

  pub pairs_length : length (flat_map pair_written ((codes "user", input.user) ∷ [])) ≡ length input.user + 6
  pairs_length =
      let a = length-append (text (codes "user")) (text input.user) in
      let b = length-append (text (codes "user") ++ text input.user) [] in
      omega (arith, a, b, text_length (codes "user"), text_length input.user)

  user_plain : IsUtf8 input.user → (g : List ℕ) → encoding (frontend.Startup (startup_of input)) ≡ Ok g
      → IsPlainText input.user
  unfolding encoding
  user_plain utf8 g is =
      let p =
      encoded_parts Untyped 10000 (refused_if (is_startup_refused (startup_of input)))
      (startup (startup_of input)) g (lit< tt) is in
      let front : List ℕ = writing.u16 3 ++ writing.u16 0 in
      let written : List ℕ = flat_map pair_written (finite.entries (startup_parameters (client_input input))) in
      let size : length written ≡ length input.user + 6 =
      ap (λ (es : Pairs). length (flat_map pair_written es)) user_entries ∙ pairs_length in
      let some : length (front ++ written) ≡ length front + length written = length-append front written in
      let all : length ((front ++ written) ++ 0 ∷ []) ≡ length (front ++ written) + 1 =
      length-append (front ++ written) (0 ∷ []) in
      let fine : list_any is_pair_refused ((codes "user", input.user) ∷ []) ≡ false =
      sym (ap (list_any is_pair_refused) user_entries)
      ∙ unrefused (is_startup_refused (startup_of input)) p.1 in
      let zero : has_zero input.user ≡ false = (either_false (has_zero input.user) false fine).0 in
      record { utf8 = utf8; zero = zero; small = omega (arith, p.0, size, some, all) }

-- ---- the other messages at the end

accepted_encodes : Encodes (backend.Authentication auth.Ok)
unfolding backend_encoding framing.encoded writing.u32
accepted_encodes = (82 ∷ 0 ∷ 0 ∷ 0 ∷ 8 ∷ 0 ∷ 0 ∷ 0 ∷ 0 ∷ [], refl)

ready_encodes : Encodes login_ready
unfolding backend_encoding framing.encoded writing.u32
ready_encodes = (90 ∷ 0 ∷ 0 ∷ 0 ∷ 5 ∷ 73 ∷ [], refl)

steady_key : (b : Bool) (s : Told) (m : BackendKeyData) → s.settled ≡ b
    → (standing_by s (backend.BackendKeyData m)).version ≡ s.version
steady_key true s m is =
    ap (λ (b : Bool). (cond b s (record s { process_id = m.pid; secret_key = m.secret_key })).version) is
steady_key false s m is =
    ap (λ (b : Bool). (cond b s (record s { process_id = m.pid; secret_key = m.secret_key })).version) is

pid_fits : (n : ℕ) → n ≤ 2147483647 → FitsSigned w32 (pos n)
pid_fits n low = omega (arith, ints, low)

module _ (pid key : ℤ) (pid_is : FitsSigned w32 pid) (key_is : FitsSigned w32 key) where
  abbrev key_message : BackendKeyData
  key_message = record { pid = pid; secret_key = I32 key }

  key_encodes : Encodes (backend.BackendKeyData key_message)
  unfolding backend_encoding
  key_encodes =
      let a : length (writing.i32 pid) ≡ 4 = (i32_written pid pid_is).0 in
      let b : length (writing.i32 key) ≡ 4 = (i32_written key key_is).0 in
      fits (Typed 75) 30000 (writing.i32 pid ++ writing.i32 key)
      (omega (arith, length-append (writing.i32 pid) (writing.i32 key), a, b))

  key_greets : Greets (backend.BackendKeyData key_message)
  key_greets =
      record {
        news = refl;
        steady = λ s. steady_key s.settled s key_message refl;
        sound = (pid_is, key_is);
        suits
            = tt;
        phase = (refl, refl);
      }

accepted_greets : Greets (backend.Authentication auth.Ok)
accepted_greets = record { news = refl; steady = λ s. refl; sound = tt; suits = tt; phase = (refl, refl) }

-- ---- server-final

final_small : (signature : List ℕ) → length signature ≤ 32 → length (server_final signature) ≤ 100
final_small signature small =
    let n = length-append (codes "v=") (base64 signature) in omega (arith, n, base64_short signature small)

final_encodes : (final : List ℕ) → length final ≤ 100 → Encodes (final_with final)
unfolding backend_encoding
final_encodes final small =
    let n : length (writing.u32 12 ++ final) ≡ length (writing.u32 12) + length final =
    length-append (writing.u32 12) final in
    fits (Typed 82) 30000 (writing.u32 12 ++ final) (omega (arith, n, small, four_bytes))
  where
    four_bytes : length (writing.u32 12) ≡ 4
    four_bytes = (code_written 12 (lit< tt)).0

accepted_small : (waiting : WaitingForClientFinal) (text final : List ℕ) → accepted waiting text ≡ Ok final
    → length final ≤ 100
accepted_small waiting text final is =
    let a = was_accepted waiting text final is in
    let s =
    final_small (signature_by waiting.server_key (exchanged waiting.offer a.0))
    (signature_short waiting.server_key (exchanged waiting.offer a.0)) in
    omega (arith, s, ap length a.4)

-- ---- all of it

module _ (generator : TableId) (input : PairInput) (sound : IsSoundInput input) where
  abbrev knowing : (waiting : WaitingForClientFinal) → Drawn (proved_at (before_final generator input waiting))
      → LoginClient
  knowing waiting d = known_by (proved_at (before_final generator input waiting)) d

  metadata_plain : Opens generator input
      → AllPlain (fold (λ m p. finite.insert m p.0 p.1) finite.empty
      (finite.entries (startup_parameters (client_input input))))
  metadata_plain opens =
      let user =
      user_plain input sound.user_utf8 opens.0
      (sent_one (startup_message (client_input input)) opens.0 opens.1) in
      saved_plain (finite.entries (startup_parameters (client_input input))) finite.empty empty_plain
      (subst ArePlain (sym (user_entries input)) ((literal (codes "user") refl refl (lit≤ tt), user), tt))

  parameters_plain : Opens generator input
      → (waiting : WaitingForClientFinal) (d : Drawn (proved_at (before_final generator input waiting)))
      → AllPlain (default_parameters default_provider (knowing waiting d))
  parameters_plain opens waiting d = told_plain (knowing waiting d) (metadata_plain opens)

  pub tells_all : Opens generator input
      → (waiting : WaitingForClientFinal) (d : Drawn (proved_at (before_final generator input waiting)))
      → AllEncode (introduction (knowing waiting d) (Some (default_parameters default_provider (knowing waiting d))))
  tells_all opens waiting d = (
    accepted_encodes,
    all_join
        (map status_message (finite.entries (default_parameters default_provider (knowing waiting d))))
        (key_data (knowing waiting d) ∷ [])
        (statuses_encode (finite.entries (default_parameters default_provider (knowing waiting d)))
        (parameters_plain opens waiting d))
        (key_encodes (pos d.number) _ (pid_fits d.number d.low) sound.key, tt),
  )

  pub greets_all : Opens generator input → GreetsAll generator input
  greets_all opens waiting d = (
    accepted_greets,
    greets_join
        (map status_message (finite.entries (default_parameters default_provider (knowing waiting d))))
        (key_data (knowing waiting d) ∷ [])
        (statuses_greet (finite.entries (default_parameters default_provider (knowing waiting d)))
        (parameters_plain opens waiting d))
        (key_greets (pos d.number) _ (pid_fits d.number d.low) sound.key, tt),
  )

  pub is_able : CanDraw (unused generator 100000) → Opens generator input → IsAble generator input
  is_able draws opens = record {
    draws = draws;
    finals =
        λ waiting text final acc. can_send (final_with final ∷ [])
        (final_encodes final (accepted_small waiting text final acc), tt);
    tells =
        λ waiting d. can_send
        (introduction (knowing waiting d) (Some (default_parameters default_provider (knowing waiting d))))
        (tells_all opens waiting d);
    readies = can_send (login_ready ∷ []) (ready_encodes, tt);
  }

  pub startup_sound : IsSoundFrontend (frontend.Startup (startup_of input))
  startup_sound = (
    lit< tt,
    lit< tt,
    subst (AllByRecursion IsPair) (sym (user_entries input))
        ((ascii_utf8 (codes "user") refl, sound.user_utf8), tt),
  )
