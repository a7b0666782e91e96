-- What the table refuses, and where it goes.
use Rattle.std.proofs.Common.{◌≡◌, ℕ, Bool, true, false, List, Option, Some, None, Result, Ok, Err, refl, sym, subst}
use Rattle.std.specs.Prelude.{codes, is_some, option_map}
use Rattle.std.specs.Str.{bytes_eq, is_utf8}
use Rattle.pgw_startup.specs.declared.authentication.Authentication.TheVariants as authentication
use Rattle.pgw_backend.specs.declared.backend.PgWireBackendMessage.{PgWireBackendMessage as Backend}
use Rattle.pgw_backend.specs.declared.backend.PgWireBackendMessage.TheVariants as backend
use Rattle.pgw_backend.specs.declared.client_error.PgWireClientError.{PgWireClientError as ClientError}
use Rattle.pgw_backend.specs.declared.client_error.PgWireClientError.TheVariants as client
use Rattle.pgw_backend.specs.ClientError.{of_scram}
use Rattle.pgw_types.specs.declared.scram_error.ScramClientError.{ScramClientError}
use Rattle.pgw_types.specs.declared.scram_error.ScramClientError.TheVariants as scram
use Rattle.pgw_types.specs.declared.scram_error.ScramFault.TheVariants as scram_fault
use Rattle.pgw_types.specs.declared.error.ScramMessageFault.{ScramMessageFault}
use Rattle.pgw_hash.specs.Saslprep.{saslprep}
use Rattle.pgw_scram.specs.declared.exchange.ClientLogin.{ClientLogin}
use Rattle.pgw_scram.specs.declared.messages.ServerFirst.{ServerFirst}
use Rattle.pgw_scram.specs.declared.messages.ServerFinal.{ServerFinal}
use Rattle.pgw_scram.specs.declared.messages.ServerFinal.TheVariants.{Signature, Failed}
use Rattle.pgw_scram.specs.Base64.{salt_of}
use Rattle.pgw_scram.specs.Readers.{read_server_first, read_server_final}
use Rattle.pgw_scram.specs.Answers.{unless_so, first_of}
use Rattle.pgw_scram.specs.Refusals.{user_refusal, begins_with, parts_refusal, verifier_refusal}
use Rattle.pgw_session.specs.declared.stage.Kind.{Kind}
use Rattle.pgw_session.specs.declared.stage.Role.{Role}
use Rattle.pgw_session.specs.declared.stage.Role.TheVariants.{Taken, Closing, Completing, Failing, Misplaced}
use Rattle.pgw_session.specs.declared.stage.Stage.{Stage}
use Rattle.pgw_session.specs.declared.stage.Stage.TheVariants.{Starting, Challenged, Proving, Admitted, Answering, PassingOver}
use Rattle.pgw_session.specs.declared.stage.Next.{Next}
use Rattle.pgw_session.specs.declared.stage.Next.TheVariants.{Goes, Closes}
use Rattle.pgw_session.specs.Input.{Input}
use Rattle.pgw_session.specs.Requests.{passes_over, role}
use Rattle.pgw_session.specs.Segments.{is_news, is_early, is_ready}
use Rattle.pgw_session.specs.Logins.{must_bind, cleartext_message, md5_message, user_of, password_of, scram_login, takes_method, methods_refusal, first_refusal, final_refusal, expected_of, first_message, final_message}
use Rattle.pgw_session.specs.Table.{news_or, by_welcome, next_unless, unless_bound, by_login, by_first, by_final, misplaced, by_role, by_ready, next_after}
use Rattle.pgw_dialogue.specs.Wire.{IsOwn}
use Rattle.pgw_dialogue.specs.Machine.{IsGood}

-- ---- logins

abbrev AreOwn : Option ClientError → Type 0
AreOwn None = Unit {0}
AreOwn (Some e) = IsOwn e

first_own : (b : Bool) (e : ClientError) (rest : Option ClientError) → IsOwn e → AreOwn rest
    → AreOwn (first_of (unless_so b e) rest)
first_own true e rest own more = more
first_own false e rest own more = own

-- as first_own, of what a client of SCRAM refuses
abbrev AreScram : Option ScramClientError → Type 0
AreScram refusal = AreOwn (option_map of_scram refusal)

unless_own : (b : Bool) (e : ScramClientError) → IsOwn (of_scram e) → AreScram (unless_so b e)
unless_own true e own = tt
unless_own false e own = own

two_own : (a b : Bool) (e f : ScramClientError) → IsOwn (of_scram e) → IsOwn (of_scram f)
    → AreScram (first_of (unless_so a e) (unless_so b f))
two_own true b e f x y = unless_own b f y
two_own false b e f x y = x

parts_own : (nonce : List ℕ) (parts : Result ServerFirst ScramMessageFault) → AreScram (parts_refusal nonce parts)
parts_own nonce (Err why) = tt
parts_own nonce (Ok parts) =
    two_own (begins_with parts.nonce nonce) (is_some (salt_of parts.salt))
    (scram.ScramError scram_fault.NonceMismatch) (scram.ScramError scram_fault.SaltNotBase64) tt tt

final_own : (expected : List ℕ) (final : Result ServerFinal ScramMessageFault)
    → AreScram (verifier_refusal expected final)
final_own expected (Err why) = tt
final_own expected (Ok (Failed text)) = tt
final_own expected (Ok (Signature text)) =
    unless_own (bytes_eq text expected) (scram.ScramError scram_fault.SignatureMismatch) tt

unless_good : (o : Option ClientError) (n : Next) → AreOwn o → IsGood n → IsGood (next_unless o n)
unless_good None n own good = good
unless_good (Some e) n own good = own

methods_own : (input : Input) (methods : List (List ℕ)) → AreOwn (methods_refusal input methods)
methods_own input methods =
    let form = option_map of_scram (user_refusal (saslprep (user_of input))) in
    let password =
    first_of (unless_so (is_utf8 (password_of input)) (client.ScramError scram_fault.PasswordNotUtf8)) form in
    first_own (takes_method input methods) (client.UnsupportedSASLAuthMethods methods) password tt
    (first_own (is_utf8 (password_of input)) (client.ScramError scram_fault.PasswordNotUtf8) form tt
    (unless_own (is_some (saslprep (user_of input))) (scram.InvalidConfig (codes "user")) refl))

news_good : (b : Bool) (s : Stage) (n : Next) → IsGood n → IsGood (news_or b s n)
news_good true s n good = tt
news_good false s n good = good

welcome_good : (m : Backend) → IsGood (by_welcome m)
welcome_good (backend.ReadyForQuery m) = tt
welcome_good (backend.ErrorResponse e) = tt
welcome_good m = tt

unbound_good : (b : Bool) (n : Next) → IsGood n → IsGood (unless_bound b n)
unbound_good true n good = tt
unbound_good false n good = good

login_good : (input : Input) (m : Backend) → IsGood (by_login input m)
login_good input (backend.Authentication authentication.CleartextPassword) =
    unbound_good (must_bind input) (Goes Admitted (Some (cleartext_message input))) tt
login_good input (backend.Authentication (authentication.MD5Password salt)) =
    unbound_good (must_bind input) (Goes Admitted (Some (md5_message input salt))) tt
login_good input (backend.ReadyForQuery ready) = unbound_good (must_bind input) Closes tt
login_good input (backend.Authentication (authentication.SASL methods)) =
    unless_good (methods_refusal input methods)
    (Goes (Challenged (scram_login input methods)) (Some (first_message (scram_login input methods))))
    (methods_own input methods) tt
login_good input (backend.Authentication authentication.Ok) = tt
login_good input m = welcome_good m

first_good : (login : ClientLogin) (m : Backend) → IsGood (by_first login m)
first_good login (backend.Authentication (authentication.SASLContinue first)) =
    unless_good (first_refusal login first)
    (Goes (Proving (expected_of login first)) (Some (final_message login first)))
    (parts_own login.nonce (read_server_first first)) tt
first_good login (backend.Authentication authentication.Ok) = tt
first_good login (backend.ErrorResponse e) = tt
first_good login m = tt

final_good : (expected : List ℕ) (m : Backend) → IsGood (by_final expected m)
final_good expected (backend.Authentication (authentication.SASLFinal final)) =
    unless_good (final_refusal expected final) (Goes Admitted None) (final_own expected (read_server_final final))
    tt
final_good expected (backend.Authentication authentication.Ok) = tt
final_good expected (backend.ErrorResponse e) = tt
final_good expected m = tt

-- ---- requests

misplaced_good : (b : Bool) → IsGood (misplaced b)
misplaced_good true = tt
misplaced_good false = tt

pub role_good : (k : Kind) (r : Role) → IsGood (by_role k r)
role_good k (Taken rows) = tt
role_good k Closing = tt
role_good k Completing = tt
role_good k Failing = tt
role_good k Misplaced = misplaced_good (passes_over k)

ready_good : (b : Bool) → IsGood (by_ready b)
ready_good true = tt
ready_good false = tt

pub after_good : (input : Input) (s : Stage) (m : Backend) → IsGood (next_after input s m)
after_good input Starting m =
    news_good (is_early (must_bind input) m) Starting (by_login input m) (login_good input m)
after_good input (Challenged login) m = first_good login m
after_good input (Proving expected) m = final_good expected m
after_good input Admitted m = news_good (is_news m) Admitted (by_welcome m) (welcome_good m)
after_good input (Answering k rows) m = role_good k (role k rows m)
after_good input PassingOver m = ready_good (is_ready m)

-- what the table answers is good
pub next_good : (input : Input) (s : Stage) (m : Backend) (n : Next) → n ≡ next_after input s m → IsGood n
next_good input s m n is = subst IsGood (sym is) (after_good input s m)
