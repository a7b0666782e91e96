-- The text of a session that the link failed is no other session's.
use Rattle.std.proofs.Common.{◌≡◌, ◌∙◌, ℕ, zero, suc, ◌*◌, ◌/◌, ◌%◌, List, [], ◌∷◌, ◌++◌, length, Bool, true, false, not, ◌==◌, ◌&&◌, codes, Result, Ok, Err, refl, sym, ap, arith, append_assoc}
use Rattle.std.specs.List.{list_all, slice_index}
use Rattle.std.proofs.lemmas.Bool.Decides.{nat_tests}
use Rattle.hex.specs.Hex.{encode_with, lower_digits}
use Rattle.pgw_types.specs.declared.context.ProtocolVersion.{ProtocolVersion}
use Rattle.pgw_types.specs.declared.context.ProtocolVersion.TheVariants as version
use Rattle.pgw_types.specs.declared.config_error.ConfigError.{ConfigError}
use Rattle.pgw_types.specs.declared.config_error.ConfigError.TheVariants as config_error
use Rattle.pgw_backend.specs.ClientError.{of_config}
use Rattle.pgw_backend.specs.declared.client_error.PgWireClientError.{PgWireClientError}
use Rattle.pgw_backend.specs.declared.client_error.PgWireClientError.TheVariants as client
use Rattle.pgw_session.specs.declared.types.SessionReport.{SessionReport}
use Rattle.pgw_prog_sessions.specs.Pieces.{in_hex}
use Rattle.pgw_prog_sessions.specs.ErrorNames.{client_name}
use Rattle.pgw_prog_sessions.specs.SessionText.{sent_line, version_line, report_lines, error_line, session_text}
use Rattle.pgw_prog_sessions.specs.Pieces.{line_end}

-- no line ends in it
abbrev goes_on : ℕ → Bool
goes_on b = not (b == 10)

split : (a b : Bool) → (a && b) ≡ true → (a ≡ true) × (b ≡ true)
split true b h = (refl, h)
split false b h = cc

join : (a b : Bool) → a ≡ true → b ≡ true → (a && b) ≡ true
join a b h k = rw (h, k) refl

-- two lines that end alike begin alike, and what stands behind them is the same
lines_same : (xs ys r s : List ℕ) → list_all goes_on xs ≡ true → list_all goes_on ys ≡ true
    → xs ++ 10 ∷ r ≡ ys ++ 10 ∷ s → (xs ≡ ys) × (r ≡ s)
lines_same [] [] r s a b e = (refl, cc)
lines_same [] (y ∷ ys) r s a b e =
    let here : y ≡ 10 = cc in
    let some = (split (goes_on y) (list_all goes_on ys) b).0 in
    absurd (grind (arith, nat_tests, here, some))
lines_same (x ∷ xs) [] r s a b e =
    let here : x ≡ 10 = cc in
    let some = (split (goes_on x) (list_all goes_on xs) a).0 in
    absurd (grind (arith, nat_tests, here, some))
lines_same (x ∷ xs) (y ∷ ys) r s a b e =
    let tails : xs ++ 10 ∷ r ≡ ys ++ 10 ∷ s = cc in
    let heads : x ≡ y = cc in
    let rest =
    lines_same xs ys r s (split (goes_on x) (list_all goes_on xs) a).1
    (split (goes_on y) (list_all goes_on ys) b).1 tails in
    (ap (λ z. z ∷ xs) heads ∙ ap (λ (l : List ℕ). y ∷ l) rest.0, rest.1)

at_goes_on : (t : List ℕ) (n : ℕ) → list_all goes_on t ≡ true → goes_on (slice_index t n) ≡ true
at_goes_on [] n h = refl
at_goes_on (b ∷ bs) zero h = (split (goes_on b) (list_all goes_on bs) h).0
at_goes_on (b ∷ bs) (suc n) h = at_goes_on bs n (split (goes_on b) (list_all goes_on bs) h).1

digits_go_on : (bytes : List ℕ) → list_all goes_on (encode_with lower_digits bytes) ≡ true
unfolding encode_with
digits_go_on [] = refl
digits_go_on (b ∷ bs) =
    join _ _ (at_goes_on lower_digits (b / 16) refl)
    (join _ _ (at_goes_on lower_digits (b % 16) refl) (digits_go_on bs))

hex_goes_on : (bytes : List ℕ) → list_all goes_on (in_hex bytes) ≡ true
unfolding in_hex
hex_goes_on [] = refl
hex_goes_on (b ∷ bs) = digits_go_on (b ∷ bs)

-- as many bytes have as many digits
digits_length : (bytes : List ℕ) → length (encode_with lower_digits bytes) ≡ 2 * length bytes
unfolding encode_with
digits_length [] = refl
digits_length (b ∷ bs) = omega (arith, digits_length bs)

hex_length : (xs ys : List ℕ) → length (in_hex xs) ≡ length (in_hex ys) → length xs ≡ length ys
unfolding in_hex
hex_length [] [] e = refl
hex_length [] (y ∷ ys) e = let h = digits_length (y ∷ ys) in absurd (omega (arith, h, e))
hex_length (x ∷ xs) [] e = let h = digits_length (x ∷ xs) in absurd (omega (arith, h, e))
hex_length (x ∷ xs) (y ∷ ys) e = omega (arith, digits_length (x ∷ xs), digits_length (y ∷ ys), e)

-- the first lines say as many bytes, and the rest is the same
sent_same : (a b r s : List ℕ) → sent_line a ++ r ≡ sent_line b ++ s → (length a ≡ length b) × (r ≡ s)
unfolding sent_line
sent_same a b r s e =
    let front : List ℕ → List ℕ = λ bytes. codes "sent " ++ in_hex bytes in
    let same : front a ++ 10 ∷ r ≡ front b ++ 10 ∷ s =
    sym (append_assoc (front a) line_end r) ∙ e ∙ append_assoc (front b) line_end s in
    let parts = lines_same (front a) (front b) r s (hex_goes_on a) (hex_goes_on b) same in
    let digits : in_hex a ≡ in_hex b = cc in
    (hex_length a b (ap length digits), parts.1)

begins : (v : ProtocolVersion) → (t : List ℕ) × (version_line v ≡ 118 ∷ t)
unfolding version_line
begins version.PROTOCOL3_0 = (_, refl)
begins version.PROTOCOL3_2 = (_, refl)
begins version.PROTOCOL3_9999 = (_, refl)

pub no_report : (r : SessionReport) (e : PgWireClientError) → report_lines r ≡ error_line e → ⊥
unfolding report_lines error_line
no_report r e is =
    let first = begins r.version in
    let other = rw first.1 at is in
    let same : 118 ≡ 101 = ap (λ (l : List ℕ). slice_index l 0) other in
    absurd (omega (arith, same))

name_same : (e : PgWireClientError) → client_name e ++ line_end ≡ client_name client.IoError ++ line_end
    → e ≡ client.IoError
unfolding client_name
name_same client.IoError is = refl
name_same (client.InvalidConfig a) is = cc
name_same (client.UnknownConfig a) is = cc
name_same (client.InvalidUtf8ConfigValue a) is = cc
name_same client.UnexpectedEOF is = cc
name_same (client.UnexpectedMessage a) is = cc
name_same (client.PgWireError a) is = cc
name_same (client.RemoteError a) is = cc
name_same (client.FromSqlError a) is = cc
name_same client.DataRowIndexOutOfBounds is = cc
name_same (client.ScramError a) is = cc
name_same (client.UnsupportedSASLAuthMethods a) is = cc
name_same client.ReadLimit is = cc
name_same client.Broken is = cc
name_same client.OutOfMemory is = cc

pub error_same : (e : PgWireClientError) → error_line e ≡ error_line client.IoError → e ≡ client.IoError
unfolding error_line
error_same e is = name_same e (cc)

-- a refusal of a configuration is no error of the link
pub not_io : (e : ConfigError) → of_config e ≡ client.IoError → ⊥
not_io (config_error.InvalidConfig key) is = cc
not_io (config_error.UnknownConfig key) is = cc
not_io (config_error.InvalidUtf8ConfigValue bytes) is = cc
not_io config_error.OutOfMemory is = cc

-- a text that says so is that of a session that the link failed, with as many bytes sent
pub io_text : (a b : List ℕ) (outcome : Result SessionReport PgWireClientError)
    → session_text a outcome ≡ session_text b (Err client.IoError)
    → (length a ≡ length b) × (outcome ≡ Err client.IoError)
unfolding session_text
io_text a b (Ok r) is =
    absurd (no_report r client.IoError (sent_same a b (report_lines r) (error_line client.IoError) is).1)
io_text a b (Err e) is =
    let same = sent_same a b (error_line e) (error_line client.IoError) is in
    (same.0, ap Err (error_same e same.1))

pub not_sent : (a : List ℕ) (e : PgWireClientError) → codes "script too long\n" ≡ session_text a (Err e) → ⊥
unfolding session_text sent_line
not_sent a e is =
    let same : 99 ≡ 101 = ap (λ (l : List ℕ). slice_index l 1) is in
    absurd (omega (arith, same))

pub no_line : (a more : List ℕ) (e : PgWireClientError)
    → codes "line " ++ more ++ line_end ≡ session_text a (Err e) → ⊥
unfolding session_text sent_line
no_line a more e is =
    let same : 108 ≡ 115 = ap (λ (l : List ℕ). slice_index l 0) is in
    absurd (omega (arith, same))
