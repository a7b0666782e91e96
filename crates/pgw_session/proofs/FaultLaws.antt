-- With which refusals a session may end.
use Rattle.std.proofs.Common.{ℕ, List, [], ◌∷◌, Option, Some, None, Result, Ok, Err, Bool, true, false, cond, refl, subst}
use Rattle.std.specs.Prelude.{nat_lt, get_or, is_some, option_map, codes}
use Rattle.std.specs.Str.{bytes_eq, is_utf8}
use Rattle.pgw_types.specs.declared.error.PgWireError.{PgWireError}
use Rattle.pgw_types.specs.declared.error.PgWireError.TheVariants.{MessageTooLarge}
use Rattle.pgw_types.specs.declared.error.ScramMessageFault.{ScramMessageFault}
use Rattle.pgw_wire.specs.declared.framing.Framing.{Framing}
use Rattle.pgw_wire.specs.declared.framing.Framing.TheVariants.{Typed, Untyped, Code}
use Rattle.pgw_wire.specs.Framing.{encoded, body_or}
use Rattle.pgw_wire.specs.Writing.{refused_if}
use Rattle.pgw_startup.specs.Password.{password_fault}
use Rattle.pgw_startup.specs.declared.authentication.Authentication.TheVariants as authentication
use Rattle.pgw_startup.specs.declared.password.PasswordMessageFamily.{PasswordMessageFamily}
use Rattle.pgw_startup.specs.declared.password.PasswordMessageFamily.TheVariants as family
use Rattle.pgw_backend.specs.declared.backend.PgWireBackendMessage.{PgWireBackendMessage as Backend}
use Rattle.pgw_backend.specs.declared.backend.PgWireBackendMessage.TheVariants as backend
use Rattle.pgw_frontend.specs.declared.frontend.SslNegotiationMetaMessage.TheVariants as negotiation
use Rattle.pgw_frontend.specs.declared.frontend.PgWireFrontendMessage.{PgWireFrontendMessage as Frontend}
use Rattle.pgw_frontend.specs.declared.frontend.PgWireFrontendMessage.TheVariants as frontend
use Rattle.pgw_backend.specs.declared.client_error.PgWireClientError.{PgWireClientError as ClientError}
use Rattle.pgw_backend.specs.declared.client_error.PgWireClientError.TheVariants as client
use Rattle.pgw_frontend.specs.Frontend.{encoding, encodings, both}
use Rattle.pgw_scram.specs.declared.messages.ServerFirst.{ServerFirst}
use Rattle.pgw_scram.specs.declared.messages.ServerFinal.{ServerFinal}
use Rattle.pgw_scram.specs.declared.messages.ServerFinal.TheVariants.{Signature, Failed}
use Rattle.pgw_hash.specs.Saslprep.{saslprep}
use Rattle.pgw_scram.specs.Base64.{nonce_text, salt_of}
use Rattle.pgw_types.specs.declared.scram_error.ScramClientError.{ScramClientError}
use Rattle.pgw_types.specs.declared.scram_error.ScramClientError.TheVariants as scram
use Rattle.pgw_types.specs.declared.scram_error.ScramFault.TheVariants as scram_fault
use Rattle.pgw_backend.specs.ClientError.{of_scram}
use Rattle.pgw_scram.specs.Readers.{read_server_first, read_server_final}
use Rattle.pgw_session.specs.declared.types.Request.{Request as TheRequest}
use Rattle.pgw_session.specs.declared.types.Request.TheVariants as request
use Rattle.pgw_session.specs.declared.types.Target.TheVariants as target
use Rattle.pgw_session.specs.Input.{Input}
use Rattle.pgw_session.specs.Requests.{sends_of}
use Rattle.pgw_session.specs.Logins.{user_of, password_of, scram_login, takes_method, methods_refusal, expected_of}
use Rattle.pgw_scram.specs.Answers.{unless_so, first_of}
use Rattle.pgw_scram.specs.Refusals.{begins_with, parts_refusal, verifier_refusal}
use Rattle.pgw_session.specs.Failures.{LoginPlace, Before, AtFirst, AtFinal, Behind, refusal_at, Unreadable, Unsendable, FailsAtStartup}
use Rattle.pgw_session.specs.Faults.{IsByteFault, IsDueFault, IsStartupError}
use Rattle.pgw_session.proofs.ReadFaults.{front_fault}
use Rattle.pgw_session.proofs.SentLaws.{AreSent, MaySend, due_sent}

-- ---- bytes

pub byte_fault : (input : Input) (taken sent : List ℕ) (why : PgWireError) → Unreadable input taken sent why
    → IsByteFault why
byte_fault input taken sent why u = front_fault _ u.rest why u.next

-- ---- messages that are due

abbrev Due : Result (List ℕ) PgWireError → Type 0
Due (Ok bytes) = Unit {0}
Due (Err e) = IsDueFault e

abbrev DueIf : Option PgWireError → Type 0
DueIf None = Unit {0}
DueIf (Some e) = IsDueFault e

refused_due : (b : Bool) → DueIf (refused_if b)
unfolding refused_if
refused_due true = tt
refused_due false = tt

body_due : (fault : Option PgWireError) (bytes : List ℕ) → DueIf fault → Due (body_or fault bytes)
body_due None bytes due = tt
body_due (Some e) bytes due = due

long_due : (b : Bool) (limit len : ℕ) (rest : Result (List ℕ) PgWireError) → Due rest
    → Due (cond b (Err (MessageTooLarge limit len)) rest)
long_due true limit len rest due = tt
long_due false limit len rest due = due

encoded_due : (framing : Framing) (limit : ℕ) (fault : Option PgWireError) (body : List ℕ) → DueIf fault
    → Due (encoded framing limit fault body)
unfolding encoded
encoded_due framing limit fault body due = long_due (nat_lt limit _) limit _ _ (body_due fault _ due)

password_due : (m : PasswordMessageFamily) → DueIf (password_fault m)
password_due (family.Raw m) = tt
password_due (family.Password m) = refused_due _
password_due (family.SASLInitialResponse m) = refused_due _
password_due (family.SASLResponse m) = tt

-- a session asks for no cancelling
abbrev NoCancel : Frontend → Type 0
NoCancel (frontend.CancelRequest m) = ⊥
NoCancel m = Unit {0}

encoding_due : (m : Frontend) → NoCancel m → Due (encoding m)
unfolding encoding
encoding_due (frontend.SslNegotiation (negotiation.PostgresSsl m)) other = encoded_due Code 10000 None _ tt
encoding_due (frontend.SslNegotiation (negotiation.PostgresGss m)) other = encoded_due Code 10000 None _ tt
encoding_due (frontend.SslNegotiation negotiation.None) other = tt
encoding_due (frontend.Startup m) other = encoded_due Untyped 10000 _ _ (refused_due _)
encoding_due (frontend.CancelRequest m) other = absurd other
encoding_due (frontend.PasswordMessageFamily m) other =
    encoded_due (Typed 112) 10000 (password_fault m) _ (password_due m)
encoding_due (frontend.PortalSuspended m) other = encoded_due (Typed 115) 30000 None _ tt
encoding_due (frontend.Query m) other = encoded_due (Typed 81) 1073741822 _ _ (refused_due _)
encoding_due (frontend.Parse m) other = encoded_due (Typed 80) 1073741822 _ _ (refused_due _)
encoding_due (frontend.Bind m) other = encoded_due (Typed 66) 1073741822 _ _ (refused_due _)
encoding_due (frontend.Close m) other = encoded_due (Typed 67) 10000 _ _ (refused_due _)
encoding_due (frontend.Describe m) other = encoded_due (Typed 68) 10000 _ _ (refused_due _)
encoding_due (frontend.Execute m) other = encoded_due (Typed 69) 10000 _ _ (refused_due _)
encoding_due (frontend.Flush m) other = encoded_due (Typed 72) 10000 None _ tt
encoding_due (frontend.Sync m) other = encoded_due (Typed 83) 10000 None _ tt
encoding_due (frontend.Terminate m) other = encoded_due (Typed 88) 10000 None _ tt
encoding_due (frontend.CopyData m) other = encoded_due (Typed 100) 1073741822 None _ tt
encoding_due (frontend.CopyDone m) other = encoded_due (Typed 99) 10000 None _ tt
encoding_due (frontend.CopyFail m) other = encoded_due (Typed 102) 10000 _ _ (refused_due _)

both_due : (a b : Result (List ℕ) PgWireError) → Due a → Due b → Due (both a b)
both_due (Err e) b x y = x
both_due (Ok l) (Err e) x y = y
both_due (Ok l) (Ok r) x y = tt

encodings_due : (ms : List Frontend) → AreSent NoCancel ms → Due (encodings ms)
encodings_due [] all = tt
encodings_due (m ∷ ms) all = both_due (encoding m) (encodings ms) (encoding_due m all.0) (encodings_due ms all.1)

request_sends : (q : TheRequest) → AreSent NoCancel (sends_of q)
request_sends (request.Simple query) = (tt, tt)
request_sends (request.Prepare name query types) = (tt, (tt, (tt, tt)))
request_sends (request.Bind portal statement parameters formats) = (tt, (tt, tt))
request_sends (request.Execute portal max_rows) = (tt, (tt, tt))
request_sends (request.Describe (target.Statement name)) = (tt, (tt, tt))
request_sends (request.Describe (target.Portal name)) = (tt, (tt, tt))
request_sends (request.Close (target.Statement name)) = (tt, (tt, tt))
request_sends (request.Close (target.Portal name)) = (tt, (tt, tt))
request_sends (request.Query query types parameters) = (tt, (tt, (tt, (tt, tt))))

session_sends : (input : Input) → MaySend input NoCancel
session_sends input = record {
  startup = tt;
  cleartext = tt;
  md5 = λ salt. tt;
  first = λ login. tt;
  final = λ login first. tt;
  sends = λ k d lt. request_sends (get_or input.requests k d);
  round = tt;
}

pub due_fault : (input : Input) (taken sent : List ℕ) (why : PgWireError) → Unsendable input taken sent why
    → IsDueFault why
due_fault input taken sent why u =
    subst Due u.unencoded (encodings_due u.due (due_sent input NoCancel u.es u.due (session_sends input) u.legal))

-- ---- the startup segment

abbrev StartupIf : Option ClientError → Type 0
StartupIf None = Unit {0}
StartupIf (Some e) = IsStartupError e

first_startup : (b : Bool) (e : ClientError) (rest : Option ClientError) → IsStartupError e → StartupIf rest
    → StartupIf (first_of (unless_so b e) rest)
first_startup true e rest is more = more
first_startup false e rest is more = is

-- as first_startup, of what a client of SCRAM refuses
abbrev ScramIf : Option ScramClientError → Type 0
ScramIf refusal = StartupIf (option_map of_scram refusal)

unless_scram : (b : Bool) (e : ScramClientError) → IsStartupError (of_scram e) → ScramIf (unless_so b e)
unless_scram true e is = tt
unless_scram false e is = is

first_scram : (b : Bool) (e : ScramClientError) (rest : Option ScramClientError) → IsStartupError (of_scram e)
    → ScramIf rest → ScramIf (first_of (unless_so b e) rest)
first_scram true e rest is more = more
first_scram false e rest is more = is

methods_startup : (input : Input) (methods : List (List ℕ)) → StartupIf (methods_refusal input methods)
methods_startup input methods =
    let has_form = is_some (saslprep (user_of input)) in
    let form = option_map of_scram (unless_so has_form (scram.InvalidConfig (codes "user"))) in
    first_startup (takes_method input methods) (client.UnsupportedSASLAuthMethods methods)
    (first_of (unless_so (is_utf8 (password_of input)) (client.ScramError scram_fault.PasswordNotUtf8)) form) tt
    (first_startup (is_utf8 (password_of input)) (client.ScramError scram_fault.PasswordNotUtf8) form tt
    (unless_scram has_form (scram.InvalidConfig (codes "user")) refl))

parts_startup : (nonce : List ℕ) (r : Result ServerFirst ScramMessageFault) → ScramIf (parts_refusal nonce r)
parts_startup nonce (Err why) = tt
parts_startup nonce (Ok parts) =
    first_scram (begins_with parts.nonce nonce) (scram.ScramError scram_fault.NonceMismatch)
    (unless_so (is_some (salt_of parts.salt)) (scram.ScramError scram_fault.SaltNotBase64)) tt
    (unless_scram (is_some (salt_of parts.salt)) (scram.ScramError scram_fault.SaltNotBase64) tt)

proof_startup : (expected : List ℕ) (r : Result ServerFinal ScramMessageFault)
    → ScramIf (verifier_refusal expected r)
proof_startup expected (Err why) = tt
proof_startup expected (Ok (Failed text)) = tt
proof_startup expected (Ok (Signature text)) =
    unless_scram (bytes_eq text expected) (scram.ScramError scram_fault.SignatureMismatch) tt

refusal_startup : (input : Input) (p : LoginPlace) (m : Backend) → StartupIf (refusal_at input p m)
refusal_startup input p (backend.ErrorResponse e) = tt
refusal_startup input Before (backend.Authentication (authentication.SASL methods)) =
    methods_startup input methods
refusal_startup input (AtFirst methods) (backend.Authentication (authentication.SASLContinue first)) =
    parts_startup (nonce_text input.nonce) (read_server_first first)
refusal_startup input (AtFinal methods first) (backend.Authentication (authentication.SASLFinal final)) =
    proof_startup (expected_of (scram_login input methods) first) (read_server_final final)
refusal_startup input Before (backend.Authentication a) = tt
refusal_startup input (AtFirst methods) (backend.Authentication a) = tt
refusal_startup input (AtFinal methods first) (backend.Authentication a) = tt
refusal_startup input Behind (backend.Authentication a) = tt
refusal_startup input p m = tt

pub startup_error : (input : Input) (taken sent : List ℕ) (e : ClientError) → FailsAtStartup input taken sent e
    → IsStartupError e
startup_error input taken sent e f = subst StartupIf f.2 (refusal_startup input _ f.1)
